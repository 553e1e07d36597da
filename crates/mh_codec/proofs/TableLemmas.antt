-- Look-ups by a table of tags: each class, attribute, action and kind of values is the one that is found by its
-- tag.
use Rattle.std.proofs.Common.{◌≡◌, ℕ, zero, suc, ◌<◌, ◌^◌, Bool, true, false, ◌||◌, ◌==◌, nat_lt, List, [], ◌∷◌, length, get_or, Some, refl, ap, sym, ◌∙◌, subst, arith}
use Rattle.std.specs.List.{list_any, find}
use Rattle.std.proofs.lemmas.Bool.Decides.{nat_tests}
use Rattle.mh_base.specs.declared.value.Kind.{Kind as ValueKind}
use Rattle.mh_base.specs.declared.value.Kind.TheVariants as value_kind
use Rattle.mh_base.specs.Kinds.{kinds}
use Rattle.mh_group.specs.declared.class.Class.{Class}
use Rattle.mh_group.specs.declared.class.Class.TheVariants as class
use Rattle.mh_group.specs.declared.attribute.Attribute.{Attribute}
use Rattle.mh_group.specs.declared.attribute.Attribute.TheVariants as attribute
use Rattle.mh_group.specs.declared.action_name.ActionName.{ActionName}
use Rattle.mh_group.specs.declared.action_name.ActionName.TheVariants as name
use Rattle.mh_group.specs.Words.{classes, attributes, actions}
use Rattle.mh_group.specs.Table.{class_number, action_number}
use Rattle.mh_codec.specs.Tags.{Tags, IsColumn, IsTable, has_double, class_tag, attribute_tag, action_tag, value_tag, content_name_tag, variable_tag, class_with, attribute_with, action_with, value_kind_with, attribute_place, value_place}

or_false : (a b : Bool) → (a || b) ≡ false → (a ≡ false) × (b ≡ false)
or_false false b h = (refl, h)
or_false true b h = absurd cc

pub same_self : (n : ℕ) → (n == n) ≡ true
same_self n = grind (arith, nat_tests)

-- what is nowhere is not at a place
not_at : (t : ℕ) (ts : List ℕ) (k : ℕ) → list_any (λ u. u == t) ts ≡ false → k < length ts → (get_or ts k 0 == t) ≡ false
not_at t [] k none inside = absurd (omega arith)
not_at t (u ∷ us) zero none inside = (or_false (u == t) (list_any (λ v. v == t) us) none).0
not_at t (u ∷ us) (suc k) none inside = not_at t us k (or_false (u == t) (list_any (λ v. v == t) us) none).1 (omega arith)

turned : (a b : ℕ) → (a == b) ≡ false → (b == a) ≡ false
turned a b h = grind (arith, nat_tests)

-- before the place of a tag it does not stand
not_before : (ts : List ℕ) (k j : ℕ) → has_double ts ≡ false → k < length ts → j < k → (get_or ts j 0 == get_or ts k 0) ≡ false
not_before [] k j single inside below = absurd (omega arith)
not_before (t ∷ ts) zero j single inside below = absurd (omega arith)
not_before (t ∷ ts) (suc k) zero single inside below =
    turned (get_or ts k 0) t (not_at t ts k (or_false (list_any (λ u. u == t) ts) (has_double ts) single).0 (omega arith))
not_before (t ∷ ts) (suc k) (suc j) single inside below =
    not_before ts k j (or_false (list_any (λ u. u == t) ts) (has_double ts) single).1 (omega arith) (omega arith)

is_below : (n m : ℕ) → nat_lt n m ≡ true → n < m
is_below n m h = grind (arith, nat_tests)

apart : (j k : ℕ) → j < k → (j == k) ≡ false
apart j k h = grind (arith, nat_tests)

apart_back : (j k : ℕ) → k < j → (j == k) ≡ false
apart_back j k h = grind (arith, nat_tests)

equal : (j k : ℕ) → nat_lt j k ≡ false → nat_lt k j ≡ false → j ≡ k
equal j k h i = grind (arith, nat_tests)

-- two places have one tag exactly where they are one
same_place : (ts : List ℕ) (j k : ℕ) → has_double ts ≡ false → j < length ts → k < length ts → (get_or ts j 0 == get_or ts k 0) ≡ (j == k)
same_place ts j k single one other = by (nat_lt j k) (nat_lt k j) refl refl
  where
    by : (a b : Bool) → nat_lt j k ≡ a → nat_lt k j ≡ b → (get_or ts j 0 == get_or ts k 0) ≡ (j == k)
    by true b h i = not_before ts k j single other (is_below j k h) ∙ sym (apart j k (is_below j k h))
    by false true h i = turned (get_or ts k 0) (get_or ts j 0) (not_before ts j k single one (is_below k j i)) ∙ sym (apart_back j k (is_below k j i))
    by false false h i = subst (λ (m : ℕ). (get_or ts j 0 == get_or ts m 0) ≡ (j == m)) (equal j k h i) (same_self (get_or ts j 0) ∙ sym (same_self j))

-- what is found by its place is found by its tag
found_by : {A : Type 0} (place : A → ℕ) (ts : List ℕ) (xs : List A) (x : A) → has_double ts ≡ false → ((y : A) → place y < length ts)
    → find (λ y. place y == place x) xs ≡ Some x → find (λ y. get_or ts (place y) 0 == get_or ts (place x) 0) xs ≡ Some x
found_by {A} place ts xs x single inside found =
    ap (λ (p : A → Bool). find p xs) (λ i y. same_place ts (place y) (place x) single (inside y) (inside x) i) ∙ found

-- each has a place of its own

class_small : (c : Class) → class_number c < 17
class_small class.Application = omega arith
class_small _ = omega arith

class_found : (c : Class) → find (λ (b : Class). class_number b == class_number c) classes ≡ Some c
class_found class.Application = refl
class_found _ = refl

attribute_small : (a : Attribute) → attribute_place a < 38
attribute_small attribute.Items = omega arith
attribute_small _ = omega arith

attribute_found : (a : Attribute) → find (λ (b : Attribute). attribute_place b == attribute_place a) attributes ≡ Some a
attribute_found attribute.Items = refl
attribute_found _ = refl

action_small : (a : ActionName) → action_number a < 70
action_small name.Run = omega arith
action_small _ = omega arith

action_found : (a : ActionName) → find (λ (b : ActionName). action_number b == action_number a) actions ≡ Some a
action_found name.Run = refl
action_found _ = refl

value_small : (k : ValueKind) → value_place k < 7
value_small value_kind.Bool = omega arith
value_small _ = omega arith

value_found : (k : ValueKind) → find (λ (j : ValueKind). value_place j == value_place k) kinds ≡ Some k
value_found value_kind.Bool = refl
value_found _ = refl

within : {A : Type 0} (place : A → ℕ) (count : ℕ) (ts : List ℕ) → IsColumn count ts → ((x : A) → place x < count) → (x : A) → place x < length ts
within place count ts column small x = subst (λ (n : ℕ). place x < n) (sym column.full) (small x)

module _ (tags : Tags) (table : IsTable tags) where
  pub class_named : (c : Class) → (class_with tags (class_tag tags c) ≡ Some c) × (class_tag tags c < 2 ^ 16)
  unfolding class_with
  class_named c = (
    found_by class_number tags.classes classes c table.classes.single (within class_number 17 tags.classes table.classes class_small) (class_found c),
    table.classes.small (class_number c),
  )

  pub attribute_named : (a : Attribute) → (attribute_with tags (attribute_tag tags a) ≡ Some a) × (attribute_tag tags a < 2 ^ 16)
  unfolding attribute_with
  attribute_named a = (
    found_by attribute_place tags.attributes attributes a table.attributes.single (within attribute_place 38 tags.attributes table.attributes attribute_small) (attribute_found a),
    table.attributes.small (attribute_place a),
  )

  pub action_named : (a : ActionName) → (action_with tags (action_tag tags a) ≡ Some a) × (action_tag tags a < 2 ^ 16)
  unfolding action_with
  action_named a = (
    found_by action_number tags.actions actions a table.actions.single (within action_number 70 tags.actions table.actions action_small) (action_found a),
    table.actions.small (action_number a),
  )

  pub value_named : (k : ValueKind) → (value_kind_with tags (value_tag tags k) ≡ Some k) × (value_tag tags k < 2 ^ 16)
  unfolding value_kind_with
  value_named k = (
    found_by value_place tags.values kinds k table.values.single (within value_place 7 tags.values table.values value_small) (value_found k),
    table.values.small (value_place k),
  )

  pub content_name_small : content_name_tag tags < 2 ^ 16
  content_name_small = table.values.small 0

  pub variable_small : variable_tag tags < 2 ^ 16
  variable_small = table.values.small 1

  -- what has the tag is what is found by it

  pub class_given : (x : Class) (n : ℕ) → class_tag tags x ≡ n → Some x ≡ class_with tags n
  class_given x n same = sym (subst (λ (m : ℕ). class_with tags m ≡ Some x) same (class_named x).0)

  pub attribute_given : (x : Attribute) (n : ℕ) → attribute_tag tags x ≡ n → Some x ≡ attribute_with tags n
  attribute_given x n same = sym (subst (λ (m : ℕ). attribute_with tags m ≡ Some x) same (attribute_named x).0)

  pub action_given : (x : ActionName) (n : ℕ) → action_tag tags x ≡ n → Some x ≡ action_with tags n
  action_given x n same = sym (subst (λ (m : ℕ). action_with tags m ≡ Some x) same (action_named x).0)
