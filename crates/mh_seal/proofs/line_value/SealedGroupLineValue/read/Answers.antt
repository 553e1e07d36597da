use Rattle.std.proofs.Common.{subst}
use Rattle.hex.specs.Hex.{encode_lower}
use Rattle.mh_seal.specs.Lines.{IsValue}
use Rattle.mh_seal.specs.Octets.{is_digest}
use Rattle.mh_seal.specs.Reading.{is_named}
use Rattle.mh_seal.specs.Text.{named_value}
use Rattle.mh_seal.proofs.GroupLemmas.{group_said, group_undigested, group_unnamed}
use Rattle.mh_seal.proofs.TruthLemmas.{unless_some}
use Rattle.mh_seal.proofs.line_value.SealedGroupLineValue.read.Goals as goal

pub returns-in_default-2 : goal.returns-in_default-2
returns-in_default-2 c =
    group_undigested c.args.value.now c.in-Some.digits.now c.in-Some.behind.now c.in-Some.ensures
    (unless_some (IsValue is_digest encode_lower c.in-Some.digits.now) c.in_ok-digest.field-0 c.in_default-2.not-Some c.in_ok-digest.ensures)

pub returns-in-Some-3 : goal.returns-in-Some-3
returns-in-Some-3 c =
    group_said c.args.value.now c.in-Some.digits.now c.in-Some.behind.now c.in-Some-2.digest c.in-Some-3.name c.in-Some-3.is_late c.in-Some.ensures
    (subst (IsValue is_digest encode_lower c.in-Some.digits.now) c.in-Some-2.is c.in_ok-digest.ensures)
    (subst (IsValue is_named named_value c.in-Some.behind.now) c.in-Some-3.is c.in_ok-is_late.ensures)

pub returns-in-None : goal.returns-in-None
returns-in-None c =
    group_unnamed c.args.value.now c.in-Some.digits.now c.in-Some.behind.now c.in-Some.ensures
    (subst (IsValue is_named named_value c.in-Some.behind.now) c.in-None.is c.in_ok-is_late.ensures)
