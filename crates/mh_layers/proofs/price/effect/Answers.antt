use Rattle.std.specs.Prelude.{◌≡◌, [], Bool, List, Option, Some, get_or}
use Rattle.std.specs.Option.{option_copied, option_map_or}
use Rattle.std.proofs.Common.{ap, ◌∙◌, subst, sym}
use Rattle.mh_base.specs.declared.obj_ref.ObjRef.{ObjRef}
use Rattle.mh_model.specs.declared.act.Act.{Act}
use Rattle.mh_model.specs.declared.object.Fixed.{Fixed}
use Rattle.mh_model.specs.Configuration.{present}
use Rattle.mh_model.specs.Service.{part_at}
use Rattle.mh_laws.specs.Costs.{effect_at}
use Rattle.mh_laws.specs.Price.{Nothing, if_price}
use Rattle.mh_laws.specs.View.{acts}
use Rattle.mh_prices.specs.Meter.{Adds}
use Rattle.mh_layers.specs.CostNodes.{effect_of}
use Rattle.mh_layers.specs.Numbered.{through}
use Rattle.mh_layers.specs.Reading.{Reading, around_at, flow_read, has_object, heard_read, number, object_named}
use Rattle.mh_layers.proofs.price.effect.Goals as goal

pub effects-effects-requires : goal.effects-effects-requires
effects-effects-requires g c = ap (λ (r : Reading). has_object r c.args.object) c.numbered_service.ensures ∙ c.requires.object

pub returns-then-is_active : goal.returns-then-is_active
returns-then-is_active g c =
    let s = c.args.walk.now.here.now in
    let m = through (number s.reading) (g.M.Meter.meter c.args.walk.now.meter.now) in
    let p = c.in-Some.part.now in
    let n = c.args.number in
    let found = sym c.find.ensures ∙ ap option_copied c.in-Some.is in
    let own = c.effects-effects.ensures s.config p
    ((λ i. part_at (object_named (c.numbered_service.ensures i) c.args.object) (present (c.numbered_service.ensures i).service s.config))
    ∙ ap (λ (o : ObjRef). part_at o (present s.reading.service s.config)) (sym c.requires.named) ∙ found) in
    subst (λ (o : Option Fixed). Adds g.M.Meter.seen m (option_map_or (effect_of s.reading.service (flow_read s.reading) (heard_read s.reading) s.config n) o Nothing) c.args.sum c.acts.result) (sym found)
    (subst (λ (b : Bool). Adds g.M.Meter.seen m (if_price b (acts (around_at s) (effect_at p n))) c.args.sum c.acts.result) (sym c.if-is_active.true ∙ c.is_active.ensures)
    (subst (λ (xs : List Act). Adds g.M.Meter.seen m (acts (around_at s) xs) c.args.sum c.acts.result) (c.acts-own.ensures ∙ ap (λ (es : List (List Act)). get_or es n []) own) c.acts.ensures))
