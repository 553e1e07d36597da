-- What is read is a group that the tables allow.
use Rattle.std.proofs.Common.{◌≡◌, ℕ, zero, suc, ◌&&◌, Bool, true, false, not, ◌==◌, List, [], ◌∷◌, Option, Some, None, is_none, Result, Ok, inl, inr, refl, subst}
use Rattle.std.specs.List.{list_all}
use Rattle.std.proofs.lemmas.Bool.{and_parts}
use Rattle.mh_base.specs.Reading.{is_same}
use Rattle.mh_base.specs.Limits.{longest_list}
use Rattle.mh_group.specs.declared.class.Class.{Class}
use Rattle.mh_group.specs.declared.attribute.Attribute.{Attribute}
use Rattle.mh_group.specs.declared.written.Field.{Field}
use Rattle.mh_group.specs.declared.written.Ingredient.{Ingredient}
use Rattle.mh_group.specs.declared.written.Written.{Written}
use Rattle.mh_group.proofs.MisfitLemmas.{none_is}
use Rattle.mh_group.specs.Table.{shape_of, takes, is_group_class, is_items_shape}
use Rattle.mh_group.specs.Fit.{fits, is_rising, has_required, takes_each, fits_each, fields_misfit, ingredient_misfit, ingredients_misfit, misfit_of, written_items, is_group, has_attribute}
use Rattle.mh_text.specs.declared.sign.Sign.{Sign}
use Rattle.mh_text.specs.declared.sign.Sign.TheVariants as sign
use Rattle.mh_text.specs.Rest.{Left, Piece}
use Rattle.mh_text.specs.Gives.{Refusal}
use Rattle.mh_text.specs.Reading.{next, is_close_brace, is_open_brace, braced, number_of, ingredient_number_of, setting, attribute_of, placed, is_items, next_field, gathered, fields, fields_behind_items, complete, class_of, list, ingredient, items, identifier, body, group}
use Rattle.mh_text.proofs.FoundGroups.{not_true}
use Rattle.mh_text.proofs.FieldLemmas.{FitsIn, Has, has_placed_parts}
use Rattle.mh_text.proofs.OrderLemmas.{rising_placed, all_from}
use Rattle.mh_text.proofs.FitLemmas.{Only, Fit, weaker, after, knowing, either, list_fits, setting_fits}

-- the attribute that a token names
abbrev IsFree : Class → List Field → Attribute → Type 0
IsFree c done a = (takes c a ≡ true) × (has_attribute done a ≡ false)

attribute_from : (c : Class) (done : List Field) (s : Sign) (start : ℕ) (text : List ℕ) → Only (IsFree c done) (attribute_of c done (record { sign = s; start = start; text = text }))
unfolding attribute_of
attribute_from c done (sign.Attribute a) start text =
    either _ (takes c a && not (has_attribute done a)) _ _
    (λ h. let both = and_parts (takes c a) (not (has_attribute done a)) h in (both.0, not_true (has_attribute done a) both.1))
    (λ h. tt)
attribute_from c done _ start text = tt

-- fields
abbrev IsNext : Class → List Field → Option Field → Type 0
IsNext c done None = Unit {0}
IsNext c done (Some f) = FitsIn c f × (has_attribute done f.attribute ≡ false)

next_field_fits : (c : Class) (done : List Field) (left : Left) → Only (λ x. IsNext c done x.0) (next_field c done left)
unfolding next_field
next_field_fits c done left =
    after _ (next left) _ (λ a. either _ (is_close_brace a.0.sign) _ _ (λ h. tt)
    (λ h. knowing (IsFree c done) _ (attribute_of c done a.0) _ (attribute_from c done a.0.sign a.0.start a.0.text)
    (λ name free. either _ (is_items_shape (shape_of c name)) _ _ (λ g. tt)
    (λ g. knowing _ _ (setting (shape_of c name) a.1) _ (setting_fits (shape_of c name) a.1) (λ x fit. ((free.0, fit), free.1))))))

-- fields in order, each right for the class
record InOrder (c : Class) (fs : List Field) : Type 0 where
  rising : is_rising fs ≡ true
  fit : (f : Field) → Has fs f → FitsIn c f

placed_in_order : (c : Class) (f : Field) (done : List Field) → IsNext c done (Some f) → InOrder c done → InOrder c (placed f done)
placed_in_order c f done (fit, free) in_order = record {
  rising = rising_placed f done in_order.rising free;
  fit = λ x h. elim (has_placed_parts f done x h) [ inl is ↦ subst (FitsIn c) is fit | inr old ↦ in_order.fit x old ];
}

fields_on : (c : Class) (done : List Field) (o : Option Field) (p : Piece) (left : Left) (further : List Field → Left → Result (List Field × Piece × Left) Refusal) → InOrder c done → IsNext c done o
    → ((more : List Field) → InOrder c more → Only (λ x. InOrder c x.0) (further more left)) → Only (λ x. InOrder c x.0) (gathered further done o p left)
fields_on c done None p left further in_order fit h = in_order
fields_on c done (Some f) p left further in_order fit h = h (placed f done) (placed_in_order c f done fit in_order)

fields_fit : (c : Class) (n : ℕ) (done : List Field) (left : Left) → InOrder c done → Only (λ x. InOrder c x.0) (fields c n done left)
unfolding fields
fields_fit c zero done left in_order = after _ (next left) _ (λ a. tt)
fields_fit c (suc n) done left in_order =
    knowing _ _ (next_field c done left) _ (next_field_fits c done left)
    (λ x fit. fields_on c done x.0 x.1 x.2 (fields c n) in_order fit (λ more h. fields_fit c n more x.2 h))

none_yet : (c : Class) → InOrder c []
none_yet c = record { rising = refl; fit = λ f h. absurd h }

-- fields that are complete have nothing wrong
all_right : (c : Class) (fs : List Field) → InOrder c fs → has_required c fs ≡ true → fields_misfit c fs ≡ None
all_right c fs in_order required =
    let taken : takes_each c fs ≡ true = all_from (λ f. takes c f.attribute) fs (λ f h. (in_order.fit f h).0) in
    let fit : fits_each c fs ≡ true = all_from (λ f. fits (shape_of c f.attribute) f.setting) fs (λ f h. (in_order.fit f h).1) in
    rw (in_order.rising, required, taken, fit) refl

complete_fits : (c : Class) (done : List Field) (end : Piece) → InOrder c done → Only (λ fs. fields_misfit c fs ≡ None) (complete c done end)
unfolding complete
complete_fits c done end in_order = either _ (has_required c done) _ _ (λ h. all_right c done in_order h) (λ h. tt)

-- classes and numbers
same_class : (b wanted : Bool) → is_same b wanted ≡ true → b ≡ wanted
same_class true true h = refl
same_class true false h = absurd cc
same_class false true h = absurd cc
same_class false false h = refl

class_from : (wanted : Bool) (s : Sign) (start : ℕ) (text : List ℕ) → Only (λ c. is_group_class c ≡ wanted) (class_of wanted (record { sign = s; start = start; text = text }))
unfolding class_of
class_from wanted (sign.Class c) start text = either _ (is_same (is_group_class c) wanted) _ _ (λ h. same_class (is_group_class c) wanted h) (λ h. tt)
class_from wanted _ start text = tt

class_fits : (wanted : Bool) (p : Piece) → Only (λ c. is_group_class c ≡ wanted) (class_of wanted p)
class_fits wanted p = class_from wanted p.sign p.start p.text

number_fits : (p : Piece) → Only (λ n. (n == 0) ≡ false) (ingredient_number_of p)
unfolding ingredient_number_of
number_fits p = after _ (number_of p) _ (λ n. either _ (n == 0) _ _ (λ h. tt) (λ h. h))

-- ingredients
abbrev is_right : Ingredient → Bool
is_right x = is_none (ingredient_misfit x)

right_ingredient : (x : Ingredient) → is_group_class x.class ≡ false → (x.number == 0) ≡ false → fields_misfit x.class x.fields ≡ None → is_right x ≡ true
right_ingredient x class number fs = rw (class, number, fs) refl

ingredient_fits : (p : Piece) (left : Left) → Fit is_right (ingredient p left)
unfolding ingredient
ingredient_fits p left = either _ (is_open_brace p.sign) _ _
    (λ h. after _ (next left) _ (λ a. knowing _ _ (class_of false a.0) _ (class_fits false a.0) (λ class classed. after _ (next a.1) _ (λ b.
    knowing _ _ (ingredient_number_of b.0) _ (number_fits b.0) (λ number numbered. knowing _ _ (fields class longest_list [] b.1) _ (fields_fit class longest_list [] b.1 (none_yet class)) (λ x in_order.
    knowing _ _ (complete class x.0 x.1) _ (complete_fits class x.0 x.1 in_order) (λ done right. right_ingredient (record { class = class; number = number; fields = done }) classed numbered right)))))))
    (λ h. tt)

all_ingredients : (xs : List Ingredient) → list_all is_right xs ≡ true → ingredients_misfit xs ≡ None
all_ingredients [] h = refl
all_ingredients (x ∷ xs) h =
    let both = and_parts (is_right x) (list_all is_right xs) h in
    rw (none_is (ingredient_misfit x) both.0, all_ingredients xs both.1) refl

items_fit : (left : Left) → Only (λ x. ingredients_misfit x.0 ≡ None) (items left)
unfolding items
items_fit left = after _ (next left) _ (λ a. weaker _ _ (list ingredient longest_list a.0 a.1) (λ x h. all_ingredients x.0 h) (list_fits ingredient is_right ingredient_fits longest_list a.0 a.1))

-- groups
behind_items_fit : (c : Class) (done : List Field) (left : Left) → InOrder c done → Only (λ x. InOrder c x.0) (fields_behind_items c done left)
unfolding fields_behind_items
behind_items_fit c done left in_order =
    knowing _ _ (fields c longest_list done left) _ (fields_fit c longest_list done left in_order) (λ x h. either _ (is_items c x.1.sign) _ _ (λ g. tt) (λ g. h))

abbrev IsBody : Class → List Field → Option (List Ingredient) → Type 0
IsBody c fs its = InOrder c fs × (ingredients_misfit (written_items its) ≡ None)

body_fits : (c : Class) (left : Left) → Only (λ x. IsBody c x.0 x.1) (body c left)
unfolding body
body_fits c left =
    knowing _ _ (fields c longest_list [] left) _ (fields_fit c longest_list [] left (none_yet c)) (λ x in_order. either _ (is_items c x.1.sign) _ _
    (λ h. knowing _ _ (items x.2) _ (items_fit x.2) (λ y right. knowing _ _ (fields_behind_items c x.0 y.1) _ (behind_items_fit c x.0 y.1 in_order) (λ z behind. (behind, right))))
    (λ h. (in_order, refl)))

right_group : (w : Written) → is_group_class w.class ≡ true → fields_misfit w.class w.fields ≡ None → ingredients_misfit (written_items w.items) ≡ None → is_group w ≡ true
unfolding misfit_of
right_group w class fs its = rw (class, fs, its) refl

group_fits : (left : Left) → Fit is_group (group left)
unfolding group
group_fits left =
    after _ (braced left) _ (λ a. after _ (next a) _ (λ b. knowing _ _ (class_of true b.0) _ (class_fits true b.0) (λ class classed.
    after _ (identifier b.1) _ (λ identity. knowing _ _ (body class identity.1) _ (body_fits class identity.1) (λ x fit.
    knowing _ _ (complete class x.0 x.2) _ (complete_fits class x.0 x.2 fit.0) (λ done right.
    right_group (record { class = class; identifier = identity.0; fields = done; items = x.1 }) classed right fit.1))))))

-- a group that was read is one that the tables allow
pub group_allowed : (left : Left) (g : Written) (rest : Left) → group left ≡ Ok (g, rest) → is_group g ≡ true
group_allowed left g rest e = subst (λ (r : Result (Written × Left) Refusal). Fit is_group r) e (group_fits left)
