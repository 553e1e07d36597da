use Rattle.std.specs.Prelude.{None}
use Rattle.std.proofs.Common.{subst}
use Rattle.mh_base.specs.declared.obj_ref.ObjRef.{ObjRef}
use Rattle.mh_laws.specs.Ways.{Told, Sure}
use Rattle.mh_prices.specs.Meter.{Adds}
use Rattle.mh_layers.specs.Numbered.{through}
use Rattle.mh_layers.specs.Reading.{around_at, number}
use Rattle.mh_layers.proofs.price.walk.WalkGroups.group_dealt_with.Goals as goal

pub returns : goal.returns
returns g c =
    let s = c.args.self.now.here.now in
    let m = through (number s.reading) (g.M.Meter.meter c.args.self.now.meter.now) in
    subst (λ (q : ObjRef). Adds g.M.Meter.seen m ((around_at s).lists.view.dealt_with q c.args.kind (Sure None)) c.args.sum c.dealt_with.result) c.in_ok-at.ensures
    (subst (λ (d : Told). Adds g.M.Meter.seen m ((around_at s).lists.view.dealt_with c.in_ok-at.at c.args.kind d) c.args.sum c.dealt_with.result) c.sure.ensures c.dealt_with.ensures)
