use Rattle.std.proofs.Common.{◌∙◌, List, Option, Vec, IfNone, IfSome, subst}
use Rattle.std.specs.declared.alloc.Global.{Global}
use Rattle.mh_flow.specs.declared.chain.link.Link.{Link}
use Rattle.mh_flow.specs.Moves.{Follows, IsFirstOf}
use Rattle.mh_flow.specs.Origins.{AreOrigins}
use Rattle.mh_flow.specs.Solved.{flow_of}
use Rattle.mh_flow.proofs.NearestLemmas.{told_nearest, told_unheld}
use Rattle.mh_flow.proofs.chain.nearest.nearest_of.Goals as goal

pub returns-in-None-clause-none : goal.returns-in-None-clause-none
returns-in-None-clause-none c =
    told_unheld c.args.service.now (flow_of c.args.service.now c.args.flow.now.chart c.args.flow.now.rows) c.requires.least c.args.references.now c.args.config.now c.args.holder.now
    c.in_ok-sought.sought.keys c.as_slice.result.now c.in_ok-goal.goal c.in_ok-sought.ensures (c.as_slice.ensures.value ∙ c.in_ok-moves.ensures) c.in_ok-goal.ensures
    (subst (λ (o : Option (Vec Link Global)). IfNone o ((ls : List Link) → Follows c.as_slice.result.now ls c.in_ok-goal.goal → ⊥)) c.in-None.is c.in_ok-first_links.ensures.none)

pub returns-clause-some : goal.returns-clause-some
returns-clause-some c =
    told_nearest c.args.service.now (flow_of c.args.service.now c.args.flow.now.chart c.args.flow.now.rows) c.requires.least c.args.references.now c.args.config.now c.args.holder.now
    c.in_ok-sought.sought.keys c.as_slice.result.now c.in_ok-goal.goal c.in_ok-sought.ensures (c.as_slice.ensures.value ∙ c.in_ok-moves.ensures) c.in_ok-goal.ensures
    c.in-Some.links.items c.in_ok-origins-in-Some.origins.items
    (subst (λ (o : Option (Vec Link Global)). IfSome o (λ links. IsFirstOf c.as_slice.result.now c.in_ok-goal.goal links.items)) c.in-Some.is c.in_ok-first_links.ensures.some)
    (subst (λ (ls : List Link). AreOrigins c.args.service.now c.in_ok-sought.sought.keys ls c.in_ok-origins-in-Some.origins.items) c.as_slice-in-Some.ensures.value c.in_ok-origins-in-Some.ensures)
