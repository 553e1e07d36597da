-- What an element that was read, or was not, says of the bytes.
use Rattle.std.proofs.Common.{ℕ, List, ◌++◌, Result, Ok, Err, IfErr, sym, ap₂, ◌∙◌}
use Rattle.mh_der.specs.Element.{element}
use Rattle.mh_der.specs.Laws.{BeginWithNone}
use Rattle.mh_der.proofs.ElementLaws.{steps_stand, tag_none, length_none}
use Rattle.mh_der.proofs.header.parts.Goals as goal

anyway : {A E : Type 0} (r : Result A E) (P : Type 0) → P → IfErr r (λ why. P)
anyway (Ok x) P p = tt
anyway (Err w) P p = p

pub returns-in_err-tag-clause-only : goal.returns-in_err-tag-clause-only
returns-in_err-tag-clause-only c =
    anyway c.from_residual.result (BeginWithNone c.args.bytes.now) (tag_none c.args.bytes.now c.in_err-tag.field-0.0 c.in_err-tag.ensures.exact)

pub returns-in_err-length-clause-only : goal.returns-in_err-length-clause-only
returns-in_err-length-clause-only c =
    anyway c.from_residual-in_err-length.result (BeginWithNone c.args.bytes.now)
    (length_none c.args.bytes.now c.in_ok-tag.tag c.in_ok-tag.rest.now c.in_err-length.field-0.0 c.in_ok-tag.ensures.exact c.in_err-length.ensures.exact)

pub returns-clause-found : goal.returns-clause-found
returns-clause-found c =
    let parts = steps_stand c.args.bytes.now c.in_ok-tag.tag c.in_ok-tag.rest.now c.in_ok-length.length c.in_ok-length.rest.now (λ k. (c.type_inv.bytes k).fits) c.in_ok-tag.ensures.exact c.in_ok-length.ensures.exact in
    parts ∙ ap₂ (λ (x y : List ℕ). element c.in_ok-tag.tag x ++ y) (sym c.split_at.ensures.front) (sym c.split_at.ensures.back)
