use Rattle.std.specs.Prelude.{List, slice_index_or}
use Rattle.std.specs.List.{insert, remove}
use Rattle.std.proofs.Common.{◌∙◌, ap, sym, rules}
use Rattle.mh_verify.specs.declared.refusal.Found.{Found}
use Rattle.mh_verify.specs.Order.{is_before}
use Rattle.mh_refusals.specs.Places.{is_at_place}
use Rattle.mh_refusals.proofs.PlaceLemmas.{put_behind, put_between, put_in_place}
use Rattle.mh_refusals.proofs.places.put_at.Goals as goal

pub returns-then-not-is_at_place : goal.returns-then-not-is_at_place
returns-then-not-is_at_place c =
    c.in_ok-insert.ensures.items
    ∙ sym (put_between c.args.found c.args.list.now.items c.args.at c.requires
    (λ d. search rules
    ∙ c.is_at_place.ensures d
    ∙ ap (λ (ys : List Found). is_at_place c.args.found (slice_index_or ys c.args.at d)) c.as_slice.ensures.value))

pub returns-in_ok-insert-2 : goal.returns-in_ok-insert-2
returns-in_ok-insert-2 c =
    c.in_ok-insert-2.ensures.items
    ∙ ap (λ (ys : List Found). insert ys c.args.at c.args.found) c.remove.ensures.items
    ∙ sym (put_in_place c.args.found c.args.list.now.items c.args.at c.requires
    (λ d. search rules
    ∙ c.is_at_place.ensures d
    ∙ ap (λ (ys : List Found). is_at_place c.args.found (slice_index_or ys c.args.at d)) c.as_slice.ensures.value)
    (λ d. sym c.if-comes_first.true
    ∙ c.comes_first.ensures d
    ∙ ap (λ (ys : List Found). is_before c.args.found (slice_index_or ys c.args.at d)) c.as_slice-2.ensures.value))

pub returns-else-comes_first : goal.returns-else-comes_first
returns-else-comes_first c =
    sym (put_behind c.args.found c.args.list.now.items c.args.at c.requires
    (λ d. search rules
    ∙ c.is_at_place.ensures d
    ∙ ap (λ (ys : List Found). is_at_place c.args.found (slice_index_or ys c.args.at d)) c.as_slice.ensures.value)
    (λ d. sym c.if-comes_first.false
    ∙ c.comes_first.ensures d
    ∙ ap (λ (ys : List Found). is_before c.args.found (slice_index_or ys c.args.at d)) c.as_slice-2.ensures.value))
