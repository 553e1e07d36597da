use Rattle.std.proofs.Common.{◌+◌, ap, refl}
use Rattle.mh_seal.specs.Breaking.{IsBreak}
use Rattle.mh_seal.specs.Reading.{is_seal}
use Rattle.mh_seal.specs.Sections.{body}
use Rattle.mh_seal.proofs.SectionLemmas.{body_read, no_ending}
use Rattle.mh_seal.proofs.TruthLemmas.{handed_on}
use Rattle.mh_seal.proofs.reading.read_body.Goals as goal

pub returns-in_err-bounds-clause-refused : goal.returns-in_err-bounds-clause-refused
returns-in_err-bounds-clause-refused c =
    handed_on (IsBreak is_seal body c.args.line c.args.bytes.now) c.from_residual-in_err-bounds.result c.in_err-bounds.field-0.0 c.from_residual-in_err-bounds.ensures.1
    (no_ending c.args.line (c.args.line + 1) (c.args.line + 1 + c.len.result) (c.args.line + 1 + c.len.result + c.len-2.result)
    c.args.bytes.now c.in_ok-start.rest.now c.in_ok-groups.rest.now c.in_ok-contents.rest.now c.in_ok-start.start c.in_ok-groups.groups c.in_ok-contents.contents c.in_err-bounds.field-0.0
    c.in_ok-start.ensures.found refl c.in_ok-groups.ensures.found (ap (λ n. c.args.line + 1 + n) c.len.ensures)
    c.in_ok-contents.ensures.found (ap (λ n. c.args.line + 1 + c.len.result + n) c.len-2.ensures) c.in_err-bounds.ensures.refused)

pub returns-clause-found : goal.returns-clause-found
returns-clause-found c =
    body_read c.args.bytes.now c.in_ok-start.rest.now c.in_ok-groups.rest.now c.in_ok-contents.rest.now c.in_ok-start.start c.in_ok-bounds.tags c.in_ok-groups.groups c.in_ok-contents.contents c.in_ok-bounds.bounds
    c.in_ok-start.ensures.found c.in_ok-groups.ensures.found c.in_ok-contents.ensures.found c.in_ok-bounds.ensures.found
