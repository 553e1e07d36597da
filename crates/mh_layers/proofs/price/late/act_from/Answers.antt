use Rattle.std.specs.Prelude.{List}
use Rattle.std.proofs.Common.{ap, ◌∙◌, subst, sym}
use Rattle.mh_base.specs.declared.obj_ref.ObjRef.{ObjRef}
use Rattle.mh_laws.specs.Costs.{targets}
use Rattle.mh_laws.specs.Price.{most_price}
use Rattle.mh_layers.specs.Inputs as inputs
use Rattle.mh_layers.specs.Reading.{flow_read}
use Rattle.mh_layers.specs.Taking.{late_among}
use Rattle.mh_layers.proofs.LateLemmas.{Raises}
use Rattle.mh_layers.proofs.price.late.act_from.Goals as goal

pub returns-in-Through : goal.returns-in-Through
returns-in-Through g c =
    let s = c.args.here.now in
    let a = c.args.act.now in
    let f = inputs.scene_change (g.A.View.around c.args.around.now) in
    subst (λ (xs : List ObjRef). Raises g.A.View.marked g.A.View.seen (g.A.View.meter c.args.around.now) (most_price f (late_among s.reading.service a.name xs)) (g.A.View.marked c.args.mark, g.A.View.seen c.args.sum) c.objects_from.result)
    (c.set.ensures ∙ ap (targets (flow_read s.reading) s.config) (sym c.in-Through.is)) c.objects_from.ensures
