-- Lists of fields: what is in them, and fields put in their place.
use Rattle.std.proofs.Common.{◌≡◌, ℕ, zero, suc, ◌⊎◌, inl, inr, Bool, true, false, ◌==◌, nat_lt, List, [], ◌∷◌, ◌++◌, take, drop, Contains, refl, sym, subst, arith, take-append-drop}
use Rattle.std.specs.List.{list_any, prefix_len}
use Rattle.std.proofs.lemmas.Bool.Decides.{nat_tests}
use Rattle.std.proofs.lemmas.Bool.{or_parts}
use Rattle.mh_group.specs.declared.written.Field.{Field}
use Rattle.mh_group.specs.declared.class.Class.{Class}
use Rattle.mh_group.specs.Table.{attribute_number, shape_of, takes}
use Rattle.mh_group.specs.Fit.{fits, has_attribute}
use Rattle.mh_text.specs.Reading.{placed}
use Rattle.mh_text.specs.Spelling.{NoneTwice}

-- the list has the element
abbrev pub Has : {A : Type 0} → List A → A → Type 0
Has [] x = ⊥
Has (y ∷ ys) x = (y ≡ x) ⊎ Has ys x

pub has_contained : {A : Type 0} (xs : List A) (x : A) → Contains xs x → Has xs x
has_contained [] x (k, below, is) = absurd (omega arith)
has_contained (y ∷ ys) x (zero, below, is) = inl is
has_contained (y ∷ ys) x (suc k, below, is) = inr (has_contained ys x (k, omega arith, is))

pub contains_had : {A : Type 0} (xs : List A) (x : A) → Has xs x → Contains xs x
contains_had [] x h = absurd h
contains_had (y ∷ ys) x (inl is) = (0, omega arith, is)
contains_had (y ∷ ys) x (inr h) =
    let c = contains_had ys x h in
    (suc c.0, omega (arith, c.1), c.2)

pub has_left : {A : Type 0} (xs ys : List A) (x : A) → Has xs x → Has (xs ++ ys) x
has_left [] ys x h = absurd h
has_left (z ∷ zs) ys x (inl is) = inl is
has_left (z ∷ zs) ys x (inr h) = inr (has_left zs ys x h)

pub has_right : {A : Type 0} (xs ys : List A) (x : A) → Has ys x → Has (xs ++ ys) x
has_right [] ys x h = h
has_right (z ∷ zs) ys x h = inr (has_right zs ys x h)

pub has_either : {A : Type 0} (xs ys : List A) (x : A) → Has (xs ++ ys) x → Has xs x ⊎ Has ys x
has_either [] ys x h = inr h
has_either (z ∷ zs) ys x (inl is) = inl (inl is)
has_either (z ∷ zs) ys x (inr h) = elim (has_either zs ys x h) [ inl l ↦ inl (inr l) | inr r ↦ inr r ]

-- one more element, put somewhere
has_put_parts : {A : Type 0} (front back : List A) (f x : A) → Has (front ++ f ∷ back) x → (f ≡ x) ⊎ Has (front ++ back) x
has_put_parts front back f x h = elim (has_either front (f ∷ back) x h) [ inl l ↦ inr (has_left front back x l) | inr r ↦ elim r [ inl is ↦ inl is | inr b ↦ inr (has_right front back x b) ] ]

has_put_back : {A : Type 0} (front back : List A) (f x : A) → Has (front ++ back) x → Has (front ++ f ∷ back) x
has_put_back front back f x h = elim (has_either front back x h) [ inl l ↦ has_left front (f ∷ back) x l | inr r ↦ has_right front (f ∷ back) x (inr r) ]

pub has_placed_parts : (f : Field) (fs : List Field) (x : Field) → Has (placed f fs) x → (f ≡ x) ⊎ Has fs x
has_placed_parts f fs x h =
    let n = prefix_len (λ (g : Field). nat_lt (attribute_number g.attribute) (attribute_number f.attribute)) fs in
    elim (has_put_parts (take n fs) (drop n fs) f x h) [ inl is ↦ inl is | inr r ↦ inr (subst (λ l. Has l x) (take-append-drop n fs) r) ]

pub has_placed_new : (f : Field) (fs : List Field) → Has (placed f fs) f
has_placed_new f fs =
    let n = prefix_len (λ (g : Field). nat_lt (attribute_number g.attribute) (attribute_number f.attribute)) fs in
    has_right (take n fs) (f ∷ drop n fs) f (inl refl)

pub has_placed_old : (f : Field) (fs : List Field) (x : Field) → Has fs x → Has (placed f fs) x
has_placed_old f fs x h =
    let n = prefix_len (λ (g : Field). nat_lt (attribute_number g.attribute) (attribute_number f.attribute)) fs in
    has_put_back (take n fs) (drop n fs) f x (subst (λ l. Has l x) (sym (take-append-drop n fs)) h)

-- no element passes
pub none_passes : {A : Type 0} (p : A → Bool) (xs : List A) → ((x : A) → Has xs x → p x ≡ false) → list_any p xs ≡ false
none_passes p [] h = refl
none_passes p (x ∷ xs) h = rw (h x (inl refl)) (none_passes p xs (λ y g. h y (inr g)))

pub passes_none : {A : Type 0} (p : A → Bool) (xs : List A) (x : A) → list_any p xs ≡ false → Has xs x → p x ≡ false
passes_none p [] x h has = absurd has
passes_none p (y ∷ ys) x h (inl is) = subst (λ z. p z ≡ false) is (or_parts (p y) (list_any p ys) h).0
passes_none p (y ∷ ys) x h (inr has) = passes_none p ys x (or_parts (p y) (list_any p ys) h).1 has

-- a field that the class takes, with a value of its shape
abbrev pub FitsIn : Class → Field → Type 0
FitsIn c f = (takes c f.attribute ≡ true) × (fits (shape_of c f.attribute) f.setting ≡ true)

-- no attribute of the ones is an attribute of the others
abbrev pub Apart : List Field → List Field → Type 0
Apart fs gs = (f g : Field) → Has fs f → Has gs g → (attribute_number f.attribute == attribute_number g.attribute) ≡ false

pub same_turned : (n m : ℕ) → (n == m) ≡ false → (m == n) ≡ false
same_turned n m h = grind (arith, nat_tests)

-- fields of which none has the attribute of one that came before
pub apart_first : (f : Field) (fs gs : List Field) → has_attribute fs f.attribute ≡ false → Apart (placed f fs) gs → Apart fs (f ∷ gs)
apart_first f fs gs free apart x y hx (inl is) =
    subst (λ (z : Field). (attribute_number x.attribute == attribute_number z.attribute) ≡ false) is
    (passes_none (λ (g : Field). attribute_number g.attribute == attribute_number f.attribute) fs x free hx)
apart_first f fs gs free apart x y hx (inr hy) = apart x y (has_placed_old f fs x hx) hy

pub once_first : (f : Field) (fs gs : List Field) → Apart (placed f fs) gs → NoneTwice gs → NoneTwice (f ∷ gs)
once_first f fs gs apart once = (
  none_passes (λ (g : Field). attribute_number g.attribute == attribute_number f.attribute) gs
      (λ g has. same_turned (attribute_number f.attribute) (attribute_number g.attribute) (apart f g (has_placed_new f fs) has)),
  once,
)

pub once_both : (fs gs : List Field) → NoneTwice fs → NoneTwice gs → Apart fs gs → NoneTwice (fs ++ gs)
once_both [] gs a b apart = b
once_both (f ∷ fs) gs a b apart = (
  none_passes (λ (g : Field). attribute_number g.attribute == attribute_number f.attribute) (fs ++ gs)
      (λ g has. elim (has_either fs gs g has) [
        | inl l ↦ passes_none (λ (g : Field). attribute_number g.attribute == attribute_number f.attribute) fs g a.0 l
        | inr r ↦ same_turned (attribute_number f.attribute) (attribute_number g.attribute) (apart f g (inl refl) r)
      ]),
  once_both fs gs a.1 b (λ x y hx hy. apart x y (inr hx) hy),
)
