use Rattle.std.proofs.Common.{◌≡◌, None, subst, sym}
use Rattle.mh_model.specs.Service.{Service}
use Rattle.mh_service.specs.Sealed.{unfilled_by}
use Rattle.mh_service.proofs.FillLemmas.{fills}
use Rattle.mh_service.proofs.service.Service.put_scene.Goals as goal

-- what is not refused leaves a service, and so does a put that is refused memory
pub invariant_of-self : goal.invariant_of-self
invariant_of-self c =
    let fits = subst (λ (v : Service). unfilled_by v c.args.name c.args.group.now ≡ None) (sym c.self.view_is) c.requires.fits in
    fills _ _ _ _ _ _ c.self.invariant.0 c.self.invariant.1 c.written.ensures.fits fits c.requires.found c.put_parts.ensures.put c.put_parts.ensures.kept
