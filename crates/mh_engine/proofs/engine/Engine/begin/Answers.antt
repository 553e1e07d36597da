use Rattle.std.specs.Prelude.{◌≡◌}
use Rattle.std.proofs.Common.{◌∙◌, ap}
use Rattle.mh_model.specs.Service.{Service}
use Rattle.mh_model.specs.State.{begun}
use Rattle.mh_laws.specs.Budget.{Bounds}
use Rattle.mh_engine.proofs.SafeEngine.{keeps_begun}
use Rattle.mh_engine.proofs.StartLemmas.{same_programs}
use Rattle.mh_engine.proofs.engine.Engine.begin.Goals as goal

pub invariant_of-result : goal.invariant_of-result
invariant_of-result c =
    let same : c.with_programs.result ≡ c.args.accepted.service =
    c.with_programs.ensures ∙ same_programs c.apart-service.result.0 c.args.accepted.service c.apart-service.result.1.programs c.args.programs.items c.apart-service.ensures.same c.requires in
    keeps_begun c.args.accepted.service c.apart-service.result.1.flow c.apart-service.result.1.bounds _ _ c.args.mjd _ c.apart-service.ensures.warranted c.bounds-bounds.ensures
    (ap (λ (b : Bounds). b.start) c.bounds.view_is) (c.in-Ok.ensures.begun ∙ ap (λ (s : Service). begun s c.args.mjd) same)
