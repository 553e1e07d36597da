use Rattle.std.specs.Prelude.{get_or, IfNone, List, Option}
use Rattle.std.proofs.Common.{◌≡◌, Bor, rules, subst, sym}
use Rattle.mh_base.specs.declared.obj_ref.ObjRef.{ObjRef}
use Rattle.mh_model.specs.declared.act.Act.{Act}
use Rattle.mh_laws.specs.Costs.{targets}
use Rattle.mh_layers.specs.Applied.{NoneCounts}
use Rattle.mh_layers.specs.Reading.{flow_read}
use Rattle.mh_layers.proofs.DoingLemmas.{does_more}
use Rattle.mh_layers.proofs.arrows.applied.doing_of.Goals as goal

pub loop-offset-preserved : goal.loop-offset-preserved
loop-offset-preserved c =
    let s = c.args.here.now in
    let a = c.index-acts-offset.result in
    let item : get_or c.args.acts.now c.loop-offset.offset a ≡ a = search rules in
    let none : NoneCounts s.reading s.config a c.targets.result.now c.args.node.now =
    subst (λ (o : Option (Bor ObjRef)). IfNone o (NoneCounts s.reading s.config a c.targets.result.now c.args.node.now)) c.in_default.is c.in_ok-found.ensures.all in
    does_more s.reading s.config c.args.acts.now c.loop-offset.offset a c.args.node.now (search rules) c.loop-offset.invariant
    (subst (λ (x : Act). NoneCounts s.reading s.config x (targets (flow_read s.reading) s.config x.target) c.args.node.now) (sym item)
    (subst (λ (ts : List ObjRef). NoneCounts s.reading s.config a ts c.args.node.now) c.targets.ensures none))
