-- The display stack: who is put on it, who goes off it, and how an object moves in it. The bottom is first.
use Rattle.std.specs.Prelude.{Bool, ◌&&◌, not, if◌then◌else◌, List, [], ◌∷◌, ◌++◌, filter, Option}
use Rattle.mh_base.specs.declared.obj_ref.ObjRef.{ObjRef}
use Rattle.mh_base.specs.declared.value.Value.{Value}
use Rattle.mh_base.specs.declared.value.Value.TheVariants as value
use Rattle.mh_group.specs.declared.action_name.ActionName.{ActionName}
use Rattle.mh_group.specs.declared.action_name.ActionName.TheVariants as action
use Rattle.mh_model.specs.declared.object.Object.{Object}
use Rattle.mh_model.specs.Service.{object_at}
use Rattle.mh_model.specs.Reference.{same_ref}
use Rattle.mh_model.specs.Lifecycle.{is_available_at, is_visible_at}

-- a visible that becomes available goes on top of the display stack
abbrev pub with_risen : Bool → ObjRef → Option Object → List ObjRef → List ObjRef
with_risen b r o stack = if b && is_visible_at o then stack ++ r ∷ [] else stack

-- one that is dropped goes off it
abbrev pub without : ObjRef → List ObjRef → List ObjRef
without r stack = filter (λ x. not (same_ref r x)) stack

-- Actions that move an object in the stack. They do nothing where it is not available, or where the object
-- beside which it is put is not, or is the same.

abbrev pub brought_to_front : ObjRef → List ObjRef → List ObjRef
brought_to_front r stack = without r stack ++ r ∷ []

abbrev pub sent_to_back : ObjRef → List ObjRef → List ObjRef
sent_to_back r stack = r ∷ without r stack

-- r just above q, in a stack without it
abbrev pub just_above : ObjRef → ObjRef → List ObjRef → List ObjRef
just_above r q [] = r ∷ []
just_above r q (x ∷ xs) = if same_ref q x then x ∷ r ∷ xs else x ∷ just_above r q xs

abbrev pub just_below : ObjRef → ObjRef → List ObjRef → List ObjRef
just_below r q [] = r ∷ []
just_below r q (x ∷ xs) = if same_ref q x then r ∷ x ∷ xs else x ∷ just_below r q xs

abbrev pub are_two : ObjRef → ObjRef → List Object → Bool
are_two r q os = is_available_at (object_at q os) && not (same_ref r q)

abbrev pub reordered : ActionName → List Value → ObjRef → List Object → List ObjRef → List ObjRef
reordered action.BringToFront vs r os stack = brought_to_front r stack
reordered action.SendToBack vs r os stack = sent_to_back r stack
reordered action.PutBefore (value.Object q ∷ []) r os stack =
    if are_two r q os then just_above r q (without r stack) else stack
reordered action.PutBehind (value.Object q ∷ []) r os stack =
    if are_two r q os then just_below r q (without r stack) else stack
reordered _ vs r os stack = stack
