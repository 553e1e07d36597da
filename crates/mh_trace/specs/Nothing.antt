-- Where nothing is told of the objects that a step may change, each object that is present is as it was.
use Rattle.std.specs.Prelude.{◌≡◌, ⊤, Bool, true, ◌&&◌, List, [], Option, Some, None}
use Rattle.mh_base.specs.declared.obj_ref.ObjRef.{ObjRef}
use Rattle.mh_model.specs.declared.object.Object.{Object}
use Rattle.mh_model.specs.Service.{object_at}
use Rattle.mh_model.specs.State.{all}
use Rattle.mh_model.specs.Step.{is_empty, step}
use Rattle.mh_machine.specs.Rest.{answer_of}
use Rattle.mh_trace.specs.declared.form.Form.{Form}
use Rattle.mh_trace.specs.Changes.{notes, notes_on}
use Rattle.mh_trace.specs.Head.{front}
use Rattle.mh_trace.specs.Trace.{Tracing, has_rested, seen_of}

-- as it was in all parts that are told
abbrev pub IsAsItWas : Form → Option Object → Option Object → Type 0
IsAsItWas f None None = ⊤
IsAsItWas f (Some o) (Some p) = (p.fixed ≡ o.fixed) × (notes_on f o p.body ≡ [])
IsAsItWas f _ _ = ⊥

-- whatever the reference
abbrev pub AreAsTheyWere : Form → List Object → List Object → Type 0
AreAsTheyWere f os ps = (r : ObjRef) → IsAsItWas f (object_at r os) (object_at r ps)

-- the line of the next step tells `nothing`
abbrev pub told_nothing : Form → Tracing → Bool
told_nothing f p =
    is_empty (notes f (seen_of (front p.state) p.state p.places).touched (all (step p.state).objects))
    && has_rested (seen_of (front p.state) p.state p.places) (answer_of p.state) (step p.state)

-- WHERE IT DOES, whatever is present is as it was, though the step was asked of a few objects alone
abbrev pub NothingIsNothing : Type 0
NothingIsNothing = (f : Form) (p : Tracing) → told_nothing f p ≡ true → AreAsTheyWere f (all p.state.objects) (all (step p.state).objects)
