use Rattle.std.proofs.Common.{List, ap, ◌∙◌}
use Rattle.mh_base.specs.declared.obj_ref.ObjRef.{ObjRef}
use Rattle.mh_model.specs.declared.object.Fixed.{Fixed}
use Rattle.mh_flow.specs.Solved.{held_by}
use Rattle.mh_layers.specs.Reading.{CostContext, flow_read}
use Rattle.mh_layers.proofs.numbered.at.At.set.Goals as goal

pub returns : goal.returns
returns c =
    let a = c.self.inside in
    c.of.ensures
    ∙ ap (λ (ps : List Fixed). held_by ps a.held.now c.args.at.now) c.self.invariant.there
    ∙ ap (λ (f : ObjRef → List ObjRef). f c.args.at.now) c.self.invariant.sets
    ∙ ap (λ (s : CostContext). (flow_read s.reading).sets s.config c.args.at.now) c.self.view_is
