use Rattle.std.proofs.Common.{ap, ◌∙◌, ◌+◌, ◌-◌, ◌++◌, List}
use Rattle.mh_flow.specs.declared.fixpoint.constraints.Item.{Item}
use Rattle.mh_flow.specs.Opening.{side_by_side}
use Rattle.mh_flow.proofs.PassageLemmas.{side_next}
use Rattle.mh_flow.proofs.opening.leading.push_all_along.Goals as goal

pub loop-place-preserved : goal.loop-place-preserved
loop-place-preserved c =
    let from = c.args.from.now.application in
    let to = c.args.to.now.application in
    let count = c.smaller-count.result in
    let place = c.loop-place.place in
    ap (λ (xs : List Item). xs ++ side_by_side (from + (place + 1)) (to + (place + 1)) (count - (place + 1))) c.in_ok-push.ensures.items
    ∙ side_next from to count place c.loop-place.items.items c.loop-place-test.true
    ∙ c.loop-place.invariant
