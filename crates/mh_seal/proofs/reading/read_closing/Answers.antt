use Rattle.std.proofs.Common.{◌+◌, ◌∙◌, refl, sym}
use Rattle.mh_seal.specs.Breaking.{IsBreak}
use Rattle.mh_seal.specs.Octets.{is_digest}
use Rattle.mh_seal.specs.Sections.{closing}
use Rattle.mh_seal.proofs.EndingLemmas.{closing_read, more_behind, no_end}
use Rattle.mh_seal.proofs.TruthLemmas.{handed_on}
use Rattle.mh_seal.proofs.reading.read_closing.Goals as goal

pub returns-in_err-rest-clause-refused : goal.returns-in_err-rest-clause-refused
returns-in_err-rest-clause-refused c =
    handed_on (IsBreak is_digest closing c.args.line c.args.bytes.now) c.from_residual-in_err-rest.result c.in_err-rest.field-0.0 c.from_residual-in_err-rest.ensures.1
    (no_end c.args.line (c.args.line + 1) c.args.bytes.now c.in_ok-tags.rest.now c.in_ok-tags.tags c.in_err-rest.field-0.0 c.in_ok-tags.ensures.found refl c.in_err-rest.ensures.refused)

pub returns-then-is_empty-clause-found : goal.returns-then-is_empty-clause-found
returns-then-is_empty-clause-found c =
    closing_read c.args.bytes.now c.in_ok-tags.rest.now c.in_ok-rest.rest.now c.in_ok-tags.tags tt c.in_ok-tags.ensures.found c.in_ok-rest.ensures.found (sym c.is_empty.ensures ∙ c.if-is_empty.true)

pub returns-else-is_empty-clause-refused : goal.returns-else-is_empty-clause-refused
returns-else-is_empty-clause-refused c =
    more_behind c.args.line (c.args.line + 1) (c.args.line + 1 + 1) c.args.bytes.now c.in_ok-tags.rest.now c.in_ok-rest.rest.now c.in_ok-tags.tags tt c.in_ok-tags.ensures.found refl
    c.in_ok-rest.ensures.found refl (sym c.is_empty.ensures ∙ c.if-is_empty.false)
