use Rattle.std.specs.Prelude.{◌≡◌, false, true}
use Rattle.std.specs.Str.{bytes_eq}
use Rattle.std.proofs.Common.{◌∙◌, subst, sym}
use Rattle.std.proofs.lemmas.Result.{IfErr-weaker, IfOk-weaker}
use Rattle.mh_seal.proofs.SealLemmas.{no_body, no_first, other_version, seal_found}
use Rattle.mh_seal.proofs.reading.read_seal.Goals as goal

pub returns-in_default-clause-refused : goal.returns-in_default-clause-refused
returns-in_default-clause-refused c = no_first c.args.bytes.now c.in_default.ensures.found

pub returns-then-eq-clause-found : goal.returns-then-eq-clause-found
returns-then-eq-clause-found c =
    let same = subst (λ t. bytes_eq c.in-Some.version.now t ≡ true) c.as_slice.ensures (sym c.eq.ensures ∙ c.if-eq.true) in
    IfOk-weaker c.read_body.result _ _ (λ s read. seal_found c.args.bytes.now c.in-Some.version.now c.in-Some.rest.now s c.in-Some.ensures.found same read) c.read_body.ensures.found

pub returns-then-eq-clause-refused : goal.returns-then-eq-clause-refused
returns-then-eq-clause-refused c =
    let same = subst (λ t. bytes_eq c.in-Some.version.now t ≡ true) c.as_slice.ensures (sym c.eq.ensures ∙ c.if-eq.true) in
    IfErr-weaker c.read_body.result _ _ (λ e read. no_body c.args.bytes.now c.in-Some.version.now c.in-Some.rest.now e c.in-Some.ensures.found same read) c.read_body.ensures.refused

pub returns-else-eq-clause-refused : goal.returns-else-eq-clause-refused
returns-else-eq-clause-refused c =
    other_version c.args.bytes.now c.in-Some.version.now c.in-Some.rest.now c.in-Some.ensures.found
    (subst (λ t. bytes_eq c.in-Some.version.now t ≡ false) c.as_slice.ensures (sym c.eq.ensures ∙ c.if-eq.false))
