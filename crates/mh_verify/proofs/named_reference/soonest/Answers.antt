use Rattle.std.proofs.Common.{◌≡◌, ◌∙◌, List, Option, IfNone, IfOk, IfSome, subst, sym}
use Rattle.std.specs.List.{Contains}
use Rattle.mh_base.specs.declared.obj_ref.ObjRef.{ObjRef}
use Rattle.mh_laws.specs.Least.{Derived, Held}
use Rattle.mh_flow.specs.declared.chain.link.Link.{Link}
use Rattle.mh_flow.specs.declared.chain.nearest.Nearest.{Nearest}
use Rattle.mh_flow.specs.Nearest.{IsNearest}
use Rattle.mh_flow.specs.Solved.{flow_in}
use Rattle.mh_verify.specs.Naming.{AreHeld, AreNoSooner, IsBest}
use Rattle.mh_verify.proofs.NearestLemmas.{none_where_unheld, origins_later, told_best}
use Rattle.mh_verify.proofs.named_reference.soonest.Goals as goal

pub returns-in-None : goal.returns-in-None
returns-in-None c =
    none_where_unheld c.args.service.now c.args.flow.now c.args.config.now c.args.holder.now c.args.candidates.now c.requires.flow c.requires.held
    (subst (λ (o : Option Nearest). IfNone o ((q : ObjRef) → Contains c.args.candidates.now q → Derived c.args.service.now (Held c.args.config.now c.args.holder.now q) → ⊥)) c.in-None.is c.in_ok-nearest_of.ensures.none)

pub returns-in-Some : goal.returns-in-Some
returns-in-Some c =
    told_best c.args.service.now c.args.config.now c.args.holder.now c.args.candidates.now c.in-Some.nearest.origins.items c.in-Some.nearest.links.items
    (subst (λ (o : Option Nearest). IfSome o (λ n. IsNearest c.args.service.now c.args.config.now c.args.holder.now c.args.candidates.now n.links.items n.origins.items)) c.in-Some.is c.in_ok-nearest_of.ensures.some)
    c.soonest_origin.result
    (subst (λ (os : List ObjRef). IfOk c.soonest_origin.result (IsBest c.args.service.now c.args.config.now c.args.holder.now os)) c.as_slice-in-Some.ensures.value c.soonest_origin.ensures)
