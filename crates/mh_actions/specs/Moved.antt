-- How an object moves in the display stack.
use Rattle.std.specs.Prelude.{List}
use Rattle.mh_base.specs.declared.obj_ref.ObjRef.{ObjRef}
use Rattle.mh_actions.specs.declared.ordering.Reorder.{Reorder}
use Rattle.mh_actions.specs.declared.ordering.Reorder.TheVariants as reorder
use Rattle.mh_model.specs.Stack.{brought_to_front, sent_to_back, just_above, just_below, without}

abbrev pub moved : Reorder → ObjRef → List ObjRef → List ObjRef
moved reorder.Nothing r stack = stack
moved reorder.ToFront r stack = brought_to_front r stack
moved reorder.ToBack r stack = sent_to_back r stack
moved (reorder.Above q) r stack = just_above r q (without r stack)
moved (reorder.Below q) r stack = just_below r q (without r stack)
