use Rattle.std.proofs.Common.{ap, sym, ◌∙◌}
use Rattle.mh_model.specs.Service.{Service, group_parts}
use Rattle.mh_service.proofs.FillLemmas.{parts_beside}
use Rattle.mh_machine.proofs.sealed.fill.Goals as goal

-- the scene is another group than the application
pub returns-in-Ok-clause-beside : goal.returns-in-Ok-clause-beside
returns-in-Ok-clause-beside c =
    ap (λ (v : Service). group_parts v c.args.application.now) c.in-Ok.ensures.filled
    ∙ parts_beside c.args.service.now c.in-Scene.scene c.args.application.now _ (sym c.eq.ensures ∙ c.if-eq.false)
