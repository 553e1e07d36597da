use Rattle.std.proofs.Common.{◌≡◌, true, IfOk, refl, subst, sym}
use Rattle.std.specs.List.{list_all}
use Rattle.mh_layers.specs.declared.laying.LayersError.TheVariants as error
use Rattle.mh_layers.specs.Layered.{AreLayersOf, root_nodes}
use Rattle.mh_layers.specs.Layering.{AreLayers, is_laid}
use Rattle.mh_layers.specs.Reading.{kept, price}
use Rattle.mh_layers.specs.Taking.{bounds_laid}
use Rattle.mh_layers.proofs.LayeredLemmas.{none_read, other_err}
use Rattle.mh_layers.proofs.RootLemmas.{layers_read}
use Rattle.mh_layers.proofs.RoundLemmas.{looped_read}
use Rattle.mh_layers.proofs.layers.lay_service.Goals as goal

pub returns-in-Ok-clause-layers : goal.returns-in-Ok-clause-layers
returns-in-Ok-clause-layers c =
    let r = c.in_ok-numbered_service.numbered_service in
    subst (AreLayersOf c.args.service.now c.args.flow.now) (sym c.with_bounds.ensures)
    (layers_read (record { reading = r; places = c.in-Ok.laying; bounds = bounds_laid r c.in-Ok.laying }) c.args.service.now c.args.flow.now c.in_ok-numbered_service.ensures.service c.in_ok-numbered_service.ensures.flow c.in_ok-numbered_service.ensures.reading
    (subst (λ x. IfOk x (λ y. AreLayers (price r) (kept r) y.0)) c.in-Ok.is c.lay_with_start.ensures.layers)
    (subst (λ x. IfOk x (λ y. list_all (is_laid y.0) (root_nodes r) ≡ true)) c.in-Ok.is c.lay_with_start.ensures.laid) refl)

pub returns-in-Err-clause-cycle : goal.returns-in-Err-clause-cycle
returns-in-Err-clause-cycle c = λ h rank layering.
    none_read c.in_ok-numbered_service.numbered_service c.args.service.now c.args.flow.now c.in_ok-numbered_service.ensures.service c.in_ok-numbered_service.ensures.flow c.in_ok-numbered_service.ensures.reading
    (c.lay_with_start.ensures.cycle (other_err _ c.lay_with_start.result c.in-Err.why error.Cycle refl h c.in-Err.is)) rank layering

pub returns-in-Err-clause-looped : goal.returns-in-Err-clause-looped
returns-in-Err-clause-looped c = λ h none.
    looped_read c.in_ok-numbered_service.numbered_service c.args.service.now c.args.flow.now c.in_ok-numbered_service.ensures.service c.in_ok-numbered_service.ensures.flow c.in_ok-numbered_service.ensures.reading
    (c.lay_with_start.ensures.looped (other_err _ c.lay_with_start.result c.in-Err.why error.Cycle refl h c.in-Err.is)) none
