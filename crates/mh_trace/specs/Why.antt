-- With what values an action is done, and why nothing came of one that would have changed something.
use Rattle.std.specs.Prelude.{ℕ, ◌==◌, ◌||◌, Bool, true, not, if◌then◌else◌, List, [], ◌∷◌, ◌++◌, codes, length, Option, Some, None, ℤ, pos, int_le}
use Rattle.std.specs.List.{flat_map}
use Rattle.std.specs.Ordering.{int_eq}
use Rattle.mh_base.specs.declared.obj_ref.ObjRef.{ObjRef}
use Rattle.mh_base.specs.declared.value.Value.{Value}
use Rattle.mh_base.specs.declared.value.Value.TheVariants as value
use Rattle.mh_group.specs.declared.action_name.ActionName.{ActionName}
use Rattle.mh_group.specs.declared.action_name.ActionName.TheVariants as action
use Rattle.mh_model.specs.declared.item.Item.{Item}
use Rattle.mh_model.specs.declared.item.Item.TheVariants as item
use Rattle.mh_model.specs.declared.object.Object.{Object}
use Rattle.mh_model.specs.Arguments.{held_by, referred, values}
use Rattle.mh_model.specs.Property.{as_number}
use Rattle.mh_model.specs.Service.{object_at}
use Rattle.mh_model.specs.Step.{is_empty}
use Rattle.mh_trace.specs.Changes.{given_text, short_value}
use Rattle.mh_trace.specs.Json.{list_if, more_text, string_text}
use Rattle.mh_trace.specs.declared.why.Why.{Why}
use Rattle.mh_trace.specs.declared.why.Why.TheVariants as why

-- Operands

unfoldable pub operand_text : Value → List ℕ
operand_text v = codes " " ++ short_value v

unfoldable pub operands_text : List Value → List ℕ
operands_text vs = codes " with" ++ flat_map operand_text vs

abbrev pub operands_of : List Value → List ℕ
operands_of vs = if is_empty vs then [] else operands_text vs

abbrev pub operands_note : Option Item → List Object → List ℕ
operands_note (Some (item.Act a)) os = operands_of (values os a.arguments)
operands_note i os = []

-- the same as a member of an object

unfoldable pub operand_json : Value → List ℕ
operand_json v = codes "," ++ string_text (short_value v)

abbrev pub operands_list : List Value → List ℕ
operands_list vs = list_if (codes "with") (flat_map operand_json vs)

abbrev pub operands_json : Option Item → List Object → List ℕ
operands_json (Some (item.Act a)) os = operands_list (values os a.arguments)
operands_json i os = []

-- What is tested: the variable that an action is done to, with what it holds

abbrev pub held_at : Option ObjRef → List Object → Option Value
held_at None os = None
held_at (Some r) os = held_by (object_at r os)

unfoldable pub tested_text : Option Value → List ℕ
tested_text v = codes "; holds " ++ given_text v

abbrev pub tested_by : ActionName → Option Value → List ℕ
tested_by action.TestVariable v = tested_text v
tested_by _ v = []

abbrev pub tested_note : Option Item → List Object → List ℕ
tested_note (Some (item.Act a)) os = tested_by a.name (held_at (referred a.target os) os)
tested_note i os = []

abbrev pub held_json : Option Value → List ℕ
held_json v = more_text (codes "holds") (given_text v)

abbrev pub holds_json : ActionName → Option Value → List ℕ
holds_json action.TestVariable v = held_json v
holds_json _ v = []

abbrev pub tested_json : Option Item → List Object → List ℕ
tested_json (Some (item.Act a)) os = holds_json a.name (held_at (referred a.target os) os)
tested_json i os = []

-- Why nothing came of an action: by what it is done with, and by the number that is held

abbrev pub why_if : Bool → Why → Why
why_if b y = if b then y else why.Same

abbrev pub is_zero : ℤ → Bool
is_zero n = int_eq n (pos 0)

abbrev pub is_negative : ℤ → Bool
is_negative n = not (int_le (pos 0) n)

unfoldable pub why_by : ActionName → List Value → ℤ → Why
why_by action.Add (value.Int n ∷ []) held = why_if (not (is_zero n)) why.Limit
why_by action.Subtract (value.Int n ∷ []) held = why_if (not (is_zero n)) why.Limit
why_by action.Multiply (value.Int n ∷ []) held = why_if (not (int_eq n (pos 1) || is_zero held)) why.Limit
why_by action.Divide (value.Int n ∷ []) held = why_if (is_zero n) why.Divisor
why_by action.Modulo (value.Int n ∷ []) held = why_if (is_zero n) why.Divisor
why_by action.Append (value.Octets os ∷ []) held = why_if (not (is_empty os)) why.Length
why_by action.SetBoxSize (value.Int w ∷ value.Int h ∷ []) held = why_if (is_negative w || is_negative h) why.Negative
why_by action.SetLineWidth (value.Int n ∷ []) held = why_if (is_negative n) why.Negative
why_by action.SetFillColour (value.Octets os ∷ []) held = why_if (not (length os == 4)) why.Colour
why_by action.SetLineColour (value.Octets os ∷ []) held = why_if (not (length os == 4)) why.Colour
why_by action.SetTextColour (value.Octets os ∷ []) held = why_if (not (length os == 4)) why.Colour
why_by action.CallActionSlot (value.Int n ∷ []) held = why.Slot
why_by _ vs held = why.Same

-- a transition that finds another begun
abbrev pub why_begun : Bool → ActionName → List Value → ℤ → Why
why_begun true action.TransitionTo vs held = why.Begun
why_begun true action.Launch vs held = why.Begun
why_begun true action.Quit vs held = why.Begun
why_begun b n vs held = why_by n vs held

abbrev pub why_of : Option Item → Bool → List Object → Why
why_of (Some (item.Act a)) begun os =
    why_begun begun a.name (values os a.arguments) (as_number (held_at (referred a.target os) os))
why_of i begun os = why.Same

unfoldable pub why_text : Why → List ℕ
why_text why.Same = []
why_text why.Limit = codes ": the result would be out of range"
why_text why.Divisor = codes ": the divisor is 0"
why_text why.Length = codes ": the result would be too long"
why_text why.Negative = codes ": it would be negative"
why_text why.Colour = codes ": a colour has four octets"
why_text why.Slot = codes ": there is no such slot, or it is empty"
why_text why.Begun = codes ": a transition has begun"
