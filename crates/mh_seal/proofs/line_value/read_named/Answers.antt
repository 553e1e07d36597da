use Rattle.std.proofs.Common.{subst, true}
use Rattle.mh_base.specs.Path.{is_path}
use Rattle.mh_seal.specs.Lines.{IsValue}
use Rattle.mh_seal.specs.Text.{as_is, presence}
use Rattle.mh_seal.proofs.GroupLemmas.{named_so, no_name, not_presence}
use Rattle.mh_seal.proofs.TruthLemmas.{unless_some}
use Rattle.mh_seal.proofs.line_value.read_named.Goals as goal

pub returns-in_default-presence_of : goal.returns-in_default-presence_of
returns-in_default-presence_of c =
    not_presence c.args.value.now c.in-Some.word.now c.in-Some.name.now c.in-Some.ensures
    (unless_some (IsValue (λ b. true) presence c.in-Some.word.now) c.presence_of.result c.in_default-presence_of.not-Some c.presence_of.ensures)

pub returns-in-Some-2 : goal.returns-in-Some-2
returns-in-Some-2 c =
    named_so c.args.value.now c.in-Some.word.now c.in-Some.name.now c.in-Some-2.name c.in-Some-presence_of.is_late c.in-Some.ensures c.in-Some-presence_of.ensures
    (subst (IsValue is_path as_is c.in-Some.name.now) c.in-Some-2.is c.in_ok-name.ensures)

pub returns-in-None : goal.returns-in-None
returns-in-None c =
    no_name c.args.value.now c.in-Some.word.now c.in-Some.name.now c.in-Some.ensures
    (subst (IsValue is_path as_is c.in-Some.name.now) c.in-None.is c.in_ok-name.ensures)
