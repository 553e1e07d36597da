use Rattle.std.proofs.Common.{◌≡◌, ◌∙◌, List, IfOk, subst}
use Rattle.mh_base.specs.declared.obj_ref.ObjRef.{ObjRef}
use Rattle.mh_flow.specs.Solved.{held_by, set_of}
use Rattle.mh_verify.specs.Naming.{IsBest, candidates_at}
use Rattle.mh_verify.proofs.named_reference.soonest_at.Goals as goal

pub returns : goal.returns
returns g c =
    let s = c.args.service.now in
    let config = c.args.found.now.config in
    let sets : held_by c.present.result c.in_ok-held.field-0 ≡ set_of s c.args.flow.now.chart c.args.flow.now.rows config =
    (λ i. held_by (c.present.ensures i) c.in_ok-held.field-0) ∙ c.in_ok-held.ensures.sets in
    subst (λ (qs : List ObjRef). IfOk c.soonest.result (IsBest s config c.args.holder.now qs))
    (c.as_slice.ensures.value ∙ c.in_ok-candidates.ensures ∙ (λ i. candidates_at g.R.Rank.order s (c.present.ensures i) (sets i) c.args.holder.now c.args.found.now.place))
    c.soonest.ensures
