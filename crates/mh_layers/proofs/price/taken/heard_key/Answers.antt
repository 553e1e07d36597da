use Rattle.std.specs.Option.{option_copied}
use Rattle.std.proofs.Common.{ℕ, List, Option, ◌∙◌, ap, subst, sym}
use Rattle.mh_base.specs.declared.event.EventType.TheVariants as event
use Rattle.mh_base.specs.declared.obj_ref.ObjRef.{ObjRef}
use Rattle.mh_prices.specs.Meter.{Adds}
use Rattle.mh_layers.specs.CostNodes.{fired_of, heard_key}
use Rattle.mh_layers.specs.Numbered.{through}
use Rattle.mh_layers.specs.Reading.{heard_read, number}
use Rattle.mh_layers.proofs.price.taken.heard_key.Goals as goal

pub returns-in_ok-source-in-Some : goal.returns-in_ok-source-in-Some
returns-in_ok-source-in-Some g c =
    let s = c.args.walk.now.here.now in
    let m = through (number s.reading) (g.M.Meter.meter c.args.walk.now.meter.now) in
    subst (λ (o : Option (List ℕ)). Adds g.M.Meter.seen m (heard_key (heard_read s.reading) s.config o) c.args.sum c.fired_of.result) (sym (ap option_copied c.in-Some.is) ∙ c.scene.ensures)
    (subst (λ (q : ObjRef). Adds g.M.Meter.seen m (fired_of s.config q event.UserInput (heard_read s.reading q event.UserInput)) c.args.sum c.fired_of.result) c.in_ok-source-in-Some.ensures c.fired_of.ensures)
