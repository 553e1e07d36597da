-- An action hands on no reference to a variable but those that its description says.
use Rattle.std.specs.Prelude.{◌≡◌, ◌⊎◌, ℕ, Bool, true, false, if◌then◌else◌, List, [], ◌∷◌, ◌++◌, Option, Some, None, ℤ, pos, negsuc, ◌+ℤ◌, ◌-ℤ◌, ◌*ℤ◌, int_div, int_rem, int_le, nat_le, nat_lt, length, ◌&&◌, refl}
use Rattle.std.specs.Option.{option_or}
use Rattle.std.specs.Ordering.{int_eq}
use Rattle.std.proofs.Common.{inl, inr, ap, ◌∙◌, sym}
use Rattle.mh_base.specs.declared.obj_ref.ObjRef.{ObjRef}
use Rattle.mh_base.specs.declared.value.Value.{Value}
use Rattle.mh_base.specs.declared.value.Value.TheVariants as value
use Rattle.mh_group.specs.declared.action_name.ActionName.{ActionName}
use Rattle.mh_group.specs.declared.action_name.ActionName.TheVariants as action
use Rattle.mh_group.specs.declared.class.Class.{Class}
use Rattle.mh_group.specs.declared.class.Class.TheVariants as class
use Rattle.mh_group.specs.declared.attribute.Attribute.{Attribute}
use Rattle.mh_group.specs.declared.attribute.Attribute.TheVariants as attribute
use Rattle.mh_model.specs.declared.picture.drawing.Figure.{Figure}
use Rattle.mh_model.specs.declared.picture.drawing.Figure.TheVariants as figure
use Rattle.mh_model.specs.declared.object.Body.{Body}
use Rattle.mh_model.specs.declared.object.Fixed.{Fixed}
use Rattle.mh_model.specs.Property.{held, value_held, as_value, as_reference}
use Rattle.mh_model.specs.Variables.{converted, fits_int, fits_octets}
use Rattle.mh_model.specs.Bodies.{number_of as number_held, octets_of, given_number, given_octets, stored, divided, text_of, coloured, is_drawable, drawn, pointed, changed_by}
use Rattle.mh_model.specs.Limits.{most_drawings}
use Rattle.mh_laws.specs.Describing.{says, IsSaid, HandsOnWhatItSays}

abbrev pub is_reference : Value → Bool
is_reference (value.Object r) = true
is_reference _ = false

abbrev Stays : List Value → ActionName → Fixed → Body → Body → Type 0
Stays vs n p b d = (q : ObjRef) → as_reference (value_held p d) ≡ Some q → (as_reference (value_held p b) ≡ Some q) ⊎ IsSaid vs (says n) q

number_stays : (vs : List Value) (n : ActionName) (p : Fixed) (b : Body) (x : ℤ) → Stays vs n p b (given_number x b)
number_stays vs n p b x q = by (fits_int x)
  where
    by : (t : Bool) → as_reference (value_held p (if t then record b { value = Some (value.Int x) } else b)) ≡ Some q → (as_reference (value_held p b) ≡ Some q) ⊎ IsSaid vs (says n) q
    by true h = absurd cc
    by false h = inl h

octets_stay : (vs : List Value) (n : ActionName) (p : Fixed) (b : Body) (os : List ℕ) → Stays vs n p b (given_octets os b)
octets_stay vs n p b os q = by (fits_octets os)
  where
    by : (t : Bool) → as_reference (value_held p (if t then record b { value = Some (value.Octets os) } else b)) ≡ Some q → (as_reference (value_held p b) ≡ Some q) ⊎ IsSaid vs (says n) q
    by true h = absurd cc
    by false h = inl h

-- what is no reference gives none
stored_stays : (vs : List Value) (n : ActionName) (p : Fixed) (b : Body) (w : Value) → is_reference w ≡ false → Stays vs n p b (stored w b)
stored_stays vs n p b (value.Bool x) none q h = absurd cc
stored_stays vs n p b (value.Int x) none q h = absurd cc
stored_stays vs n p b (value.Octets os) none q h = octets_stay vs n p b os q h
stored_stays vs n p b (value.Object x) none q h = absurd cc
stored_stays vs n p b (value.Content x) none q h = absurd cc

-- a reference is written as no other kind, and nothing else is written as one

converted_bool : (c : Class) (x : Bool) → converted c (value.Bool x) ≡ value.Bool x
converted_bool class.OStringVar x = refl
converted_bool class.IntegerVar x = refl
converted_bool _ x = refl

converted_object : (c : Class) (x : ObjRef) → converted c (value.Object x) ≡ value.Object x
converted_object class.OStringVar x = refl
converted_object class.IntegerVar x = refl
converted_object _ x = refl

converted_content : (c : Class) (x : List ℕ) → converted c (value.Content x) ≡ value.Content x
converted_content class.OStringVar x = refl
converted_content class.IntegerVar x = refl
converted_content _ x = refl

converted_int : (c : Class) (x : ℤ) → is_reference (converted c (value.Int x)) ≡ false
converted_int class.OStringVar x = refl
converted_int class.IntegerVar x = refl
converted_int _ x = refl

converted_octets : (c : Class) (x : List ℕ) → is_reference (converted c (value.Octets x)) ≡ false
converted_octets class.OStringVar x = refl
converted_octets class.IntegerVar x = refl
converted_octets _ x = refl

set_stays : (p : Fixed) (b : Body) (v : Value) → Stays (v ∷ []) action.SetVariable p b (stored (converted p.class v) b)
set_stays p b (value.Bool x) q h = stored_stays (value.Bool x ∷ []) action.SetVariable p b (converted p.class (value.Bool x)) (ap is_reference (converted_bool p.class x)) q h
set_stays p b (value.Int x) q h = stored_stays (value.Int x ∷ []) action.SetVariable p b (converted p.class (value.Int x)) (converted_int p.class x) q h
set_stays p b (value.Octets x) q h = stored_stays (value.Octets x ∷ []) action.SetVariable p b (converted p.class (value.Octets x)) (converted_octets p.class x) q h
set_stays p b (value.Object x) q h = inr (inl (ap same (sym (ap (λ (w : Value). as_reference (value_held p (stored w b))) (converted_object p.class x)) ∙ h)))
  where
    same : Option ObjRef → Option Value
    same None = None
    same (Some y) = Some (value.Object y)
set_stays p b (value.Content x) q h = stored_stays (value.Content x ∷ []) action.SetVariable p b (converted p.class (value.Content x)) (ap is_reference (converted_content p.class x)) q h

gives_set : (vs : List Value) (p : Fixed) (b : Body) → Stays vs action.SetVariable p b (changed_by action.SetVariable vs p b)
gives_set [] p b q h = inl h
gives_set (v ∷ []) p b q h = set_stays p b v q h
gives_set (v ∷ w ∷ vs) p b q h = inl h

-- a sum, or octets that are joined, by the one argument

divided_stays : (vs : List Value) (n : ActionName) (p : Fixed) (b : Body) (part : ℤ → ℤ → ℤ) (x y : ℤ) → Stays vs n p b (divided part x y b)
divided_stays vs n p b part x y q = by (int_eq y (pos 0))
  where
    by : (t : Bool) → as_reference (value_held p (if t then b else given_number (part x y) b)) ≡ Some q → (as_reference (value_held p b) ≡ Some q) ⊎ IsSaid vs (says n) q
    by true h = inl h
    by false h = number_stays vs n p b (part x y) q h

gives_add : (vs : List Value) (p : Fixed) (b : Body) → Stays vs action.Add p b (changed_by action.Add vs p b)
gives_add (value.Int x ∷ []) p b q h = number_stays (value.Int x ∷ []) action.Add p b (number_held p b +ℤ x) q h
gives_add _ p b q h = inl h

gives_subtract : (vs : List Value) (p : Fixed) (b : Body) → Stays vs action.Subtract p b (changed_by action.Subtract vs p b)
gives_subtract (value.Int x ∷ []) p b q h = number_stays (value.Int x ∷ []) action.Subtract p b (number_held p b -ℤ x) q h
gives_subtract _ p b q h = inl h

gives_multiply : (vs : List Value) (p : Fixed) (b : Body) → Stays vs action.Multiply p b (changed_by action.Multiply vs p b)
gives_multiply (value.Int x ∷ []) p b q h = number_stays (value.Int x ∷ []) action.Multiply p b (number_held p b *ℤ x) q h
gives_multiply _ p b q h = inl h

gives_divide : (vs : List Value) (p : Fixed) (b : Body) → Stays vs action.Divide p b (changed_by action.Divide vs p b)
gives_divide (value.Int x ∷ []) p b q h = divided_stays (value.Int x ∷ []) action.Divide p b int_div (number_held p b) x q h
gives_divide _ p b q h = inl h

gives_modulo : (vs : List Value) (p : Fixed) (b : Body) → Stays vs action.Modulo p b (changed_by action.Modulo vs p b)
gives_modulo (value.Int x ∷ []) p b q h = divided_stays (value.Int x ∷ []) action.Modulo p b int_rem (number_held p b) x q h
gives_modulo _ p b q h = inl h

gives_append : (vs : List Value) (p : Fixed) (b : Body) → Stays vs action.Append p b (changed_by action.Append vs p b)
gives_append (value.Octets os ∷ []) p b q h = octets_stay (value.Octets os ∷ []) action.Append p b (octets_of p b ++ os) q h
gives_append _ p b q h = inl h

-- what is no variable's: the value stays as it is

kept_value : (vs : List Value) (n : ActionName) (p : Fixed) (b d : Body) → d.value ≡ b.value → Stays vs n p b d
kept_value vs n p b d same q h = inl (sym (ap (λ (v : Option Value). as_reference (option_or v (as_value (held attribute.OrigValue p.properties)))) same) ∙ h)

if_kept : (t : Bool) (c d b : Body) → c.value ≡ b.value → d.value ≡ b.value → (if t then c else d).value ≡ b.value
if_kept true c d b e f = e
if_kept false c d b e f = f

coloured_kept : (a : Attribute) (os : List ℕ) (b : Body) → (coloured a os b).value ≡ b.value
coloured_kept a (r ∷ g ∷ u ∷ t ∷ []) b = refl
coloured_kept a _ b = refl

drawn_kept : (f : Figure) (x y u v : ℤ) (p : Fixed) (b : Body) → (drawn f x y u v p b).value ≡ b.value
drawn_kept f x y u v p b = if_kept (is_drawable f x y u v && nat_lt (length b.drawings) most_drawings) _ b b refl refl

pointed_kept : (n : ℤ) (b : Body) → (pointed n b).value ≡ b.value
pointed_kept (pos n) b = if_kept (nat_le n (length (text_of b))) _ b b refl refl
pointed_kept (negsuc n) b = refl

-- the action gives a variable a value
abbrev gives_value : ActionName → Bool
gives_value action.SetVariable = true
gives_value action.Add = true
gives_value action.Subtract = true
gives_value action.Multiply = true
gives_value action.Divide = true
gives_value action.Modulo = true
gives_value action.Append = true
gives_value _ = false

-- every other action leaves the value as it is: a clause for each whose change depends on the form of its values
changed_kept : (n : ActionName) (vs : List Value) (p : Fixed) (b : Body) → gives_value n ≡ false → (changed_by n vs p b).value ≡ b.value
changed_kept action.SetVariable vs p b other = absurd cc
changed_kept action.Add vs p b other = absurd cc
changed_kept action.Subtract vs p b other = absurd cc
changed_kept action.Multiply vs p b other = absurd cc
changed_kept action.Divide vs p b other = absurd cc
changed_kept action.Modulo vs p b other = absurd cc
changed_kept action.Append vs p b other = absurd cc
changed_kept action.SetPosition (value.Int x ∷ value.Int y ∷ []) p b other = refl
changed_kept action.SetBoxSize (value.Int x ∷ value.Int y ∷ []) p b other = if_kept (int_le (pos 0) x && int_le (pos 0) y) _ b b refl refl
changed_kept action.SetFillColour (value.Octets os ∷ []) p b other = coloured_kept attribute.OrigRefFillColour os b
changed_kept action.SetLineColour (value.Octets os ∷ []) p b other = coloured_kept attribute.OrigRefLineColour os b
changed_kept action.SetTextColour (value.Octets os ∷ []) p b other = coloured_kept attribute.TextColour os b
changed_kept action.SetLineWidth (value.Int n ∷ []) p b other = if_kept (int_le (pos 0) n) _ b b refl refl
changed_kept action.DrawLine (value.Int x ∷ value.Int y ∷ value.Int u ∷ value.Int v ∷ []) p b other = drawn_kept figure.Line x y u v p b
changed_kept action.DrawRectangle (value.Int x ∷ value.Int y ∷ value.Int u ∷ value.Int v ∷ []) p b other = drawn_kept figure.Rectangle x y u v p b
changed_kept action.SetInputRegister (value.Int n ∷ []) p b other = refl
changed_kept action.SetEntryPoint (value.Int n ∷ []) p b other = pointed_kept n b
changed_kept action.SetOverwriteMode (value.Bool on ∷ []) p b other = refl
changed_kept action.SetLabel (value.Octets os ∷ []) p b other = if_kept (fits_octets os) _ b b refl refl
changed_kept _ _ p b other = refl

pub gives_said : HandsOnWhatItSays
gives_said action.SetVariable vs p b q h = gives_set vs p b q h
gives_said action.Add vs p b q h = gives_add vs p b q h
gives_said action.Subtract vs p b q h = gives_subtract vs p b q h
gives_said action.Multiply vs p b q h = gives_multiply vs p b q h
gives_said action.Divide vs p b q h = gives_divide vs p b q h
gives_said action.Modulo vs p b q h = gives_modulo vs p b q h
gives_said action.Append vs p b q h = gives_append vs p b q h
gives_said n vs p b q h = kept_value vs n p b (changed_by n vs p b) (changed_kept n vs p b refl) q h
