-- Fields in the order of their attributes' numbers: putting them in, and that they are one list.
use Rattle.std.proofs.Common.{◌≡◌, ℕ, suc, ◌+◌, ◌<◌, ◌≤◌, ◌⊎◌, inl, inr, Bool, true, false, ◌==◌, nat_lt, if◌then◌else◌, List, [], ◌∷◌, ◌++◌, length, insert, refl, ap, ap₂, sym, ◌∙◌, subst, arith, one-add}
use Rattle.std.specs.List.{list_all, prefix_len}
use Rattle.std.proofs.lemmas.Bool.Decides.{nat_tests}
use Rattle.std.proofs.lemmas.Bool.{and_parts, and_from, or_parts}
use Rattle.mh_base.specs.Limits.{longest_list}
use Rattle.mh_group.specs.declared.written.Field.{Field}
use Rattle.mh_group.specs.Table.{attribute_number}
use Rattle.mh_group.specs.Fit.{rises_above, is_rising, has_attribute}
use Rattle.mh_group.proofs.NumberLemmas.{number_above, number_small}
use Rattle.mh_text.specs.Reading.{placed}
use Rattle.mh_text.specs.Spelling.{NoneTwice, AreFieldsOf}
use Rattle.mh_text.proofs.FieldLemmas.{Has, Apart, has_contained, contains_had, has_placed_parts, has_placed_new, has_placed_old, none_passes, passes_none, same_turned}

-- put behind those of smaller numbers, one after the other
abbrev put : Field → List Field → List Field
put f [] = f ∷ []
put f (g ∷ gs) = if nat_lt (attribute_number g.attribute) (attribute_number f.attribute) then g ∷ put f gs else f ∷ g ∷ gs

put_if : (f g : Field) (gs : List Field) (n : ℕ) (t : Bool) → insert gs n f ≡ put f gs → insert (g ∷ gs) (if t then 1 + n else 0) f ≡ (if t then g ∷ put f gs else f ∷ g ∷ gs)
put_if f g gs n true e = rw one-add (ap (λ (l : List Field). g ∷ l) e)
put_if f g gs n false e = refl

placed_put : (f : Field) (gs : List Field) → placed f gs ≡ put f gs
placed_put f [] = refl
placed_put f (g ∷ gs) =
    put_if f g gs (prefix_len (λ (h : Field). nat_lt (attribute_number h.attribute) (attribute_number f.attribute)) gs)
    (nat_lt (attribute_number g.attribute) (attribute_number f.attribute)) (placed_put f gs)

not_smaller : (n m : ℕ) → nat_lt n m ≡ false → (n == m) ≡ false → nat_lt m n ≡ true
not_smaller n m h g = grind (arith, nat_tests)

rising_if : (n : ℕ) (f g : Field) (gs : List Field) (t : Bool) → nat_lt (attribute_number g.attribute) (attribute_number f.attribute) ≡ t
    → nat_lt n (attribute_number g.attribute) ≡ true → rises_above (attribute_number g.attribute) gs ≡ true → nat_lt n (attribute_number f.attribute) ≡ true
    → (attribute_number g.attribute == attribute_number f.attribute) ≡ false
    → (nat_lt (attribute_number g.attribute) (attribute_number f.attribute) ≡ true → rises_above (attribute_number g.attribute) (put f gs) ≡ true)
    → rises_above n (if t then g ∷ put f gs else f ∷ g ∷ gs) ≡ true
rising_if n f g gs true h low rest above other further = and_from _ _ low (further h)
rising_if n f g gs false h low rest above other further =
    and_from _ _ above (and_from _ _ (not_smaller (attribute_number g.attribute) (attribute_number f.attribute) h other) rest)

rising_put : (n : ℕ) (f : Field) (gs : List Field) → rises_above n gs ≡ true → nat_lt n (attribute_number f.attribute) ≡ true → has_attribute gs f.attribute ≡ false → rises_above n (put f gs) ≡ true
rising_put n f [] rising above free = and_from _ _ above refl
rising_put n f (g ∷ gs) rising above free =
    let parts = and_parts (nat_lt n (attribute_number g.attribute)) (rises_above (attribute_number g.attribute) gs) rising in
    let others = or_parts (attribute_number g.attribute == attribute_number f.attribute) (has_attribute gs f.attribute) free in
    rising_if n f g gs (nat_lt (attribute_number g.attribute) (attribute_number f.attribute)) refl parts.0 parts.1 above others.0
    (λ h. rising_put (attribute_number g.attribute) f gs parts.1 h others.1)

above_true : (n m : ℕ) → n < m → nat_lt n m ≡ true
above_true n m h = grind (arith, nat_tests)

true_above : (n m : ℕ) → nat_lt n m ≡ true → n < m
true_above n m h = grind (arith, nat_tests)

pub rising_placed : (f : Field) (fs : List Field) → is_rising fs ≡ true → has_attribute fs f.attribute ≡ false → is_rising (placed f fs) ≡ true
rising_placed f fs rising free =
    ap is_rising (placed_put f fs) ∙ rising_put 0 f fs rising (above_true 0 _ (number_above f.attribute)) free

put_length_if : (f g : Field) (gs : List Field) (t : Bool) → length (put f gs) ≡ suc (length gs) → length (if t then g ∷ put f gs else f ∷ g ∷ gs) ≡ suc (suc (length gs))
put_length_if f g gs true e = ap suc e
put_length_if f g gs false e = refl

put_length : (f : Field) (gs : List Field) → length (put f gs) ≡ suc (length gs)
put_length f [] = refl
put_length f (g ∷ gs) = put_length_if f g gs (nat_lt (attribute_number g.attribute) (attribute_number f.attribute)) (put_length f gs)

-- fields put in one after the other
abbrev pub gathered_in : List Field → List Field → List Field
gathered_in [] done = done
gathered_in (f ∷ fs) done = gathered_in fs (placed f done)

pub gathered_both : (fs gs done : List Field) → gathered_in (fs ++ gs) done ≡ gathered_in gs (gathered_in fs done)
gathered_both [] gs done = refl
gathered_both (f ∷ fs) gs done = gathered_both fs gs (placed f done)

gathered_length : (fs done : List Field) → length (gathered_in fs done) ≡ length fs + length done
gathered_length [] done = omega arith
gathered_length (f ∷ fs) done =
    let one : length (placed f done) ≡ suc (length done) = ap length (placed_put f done) ∙ put_length f done in
    omega (arith, gathered_length fs (placed f done))

-- fields that are read one after the other: the next ones have none of the attributes that came before
pub free_first : (f : Field) (fs done : List Field) → Apart done (f ∷ fs) → has_attribute done f.attribute ≡ false
free_first f fs done apart = none_passes (λ (g : Field). attribute_number g.attribute == attribute_number f.attribute) done (λ g h. apart g f h (inl refl))

pub apart_next : (f : Field) (fs done : List Field) → Apart done (f ∷ fs) → NoneTwice (f ∷ fs) → Apart (placed f done) fs
apart_next f fs done apart once x y hx hy =
    elim (has_placed_parts f done x hx) [
      | inl is ↦ subst (λ (z : Field). (attribute_number z.attribute == attribute_number y.attribute) ≡ false) is
          (same_turned (attribute_number y.attribute) (attribute_number f.attribute)
          (passes_none (λ (g : Field). attribute_number g.attribute == attribute_number f.attribute) fs y once.0 hy))
      | inr d ↦ apart x y d (inr hy)
    ]

gathered_rising : (fs done : List Field) → is_rising done ≡ true → Apart done fs → NoneTwice fs → is_rising (gathered_in fs done) ≡ true
gathered_rising [] done rising apart once = rising
gathered_rising (f ∷ fs) done rising apart once =
    gathered_rising fs (placed f done) (rising_placed f done rising (free_first f fs done apart)) (apart_next f fs done apart once) once.1

pub gathered_parts : (fs done : List Field) (x : Field) → Has (gathered_in fs done) x → Has done x ⊎ Has fs x
gathered_parts [] done x h = inl h
gathered_parts (f ∷ fs) done x h =
    elim (gathered_parts fs (placed f done) x h) [ inl p ↦ elim (has_placed_parts f done x p) [ inl is ↦ inr (inl is) | inr d ↦ inl d ] | inr r ↦ inr (inr r) ]

gathered_old : (fs done : List Field) (x : Field) → Has done x → Has (gathered_in fs done) x
gathered_old [] done x h = h
gathered_old (f ∷ fs) done x h = gathered_old fs (placed f done) x (has_placed_old f done x h)

gathered_new : (fs done : List Field) (x : Field) → Has fs x → Has (gathered_in fs done) x
gathered_new [] done x h = absurd h
gathered_new (f ∷ fs) done x (inl is) = subst (Has (gathered_in fs (placed f done))) is (gathered_old fs (placed f done) f (has_placed_new f done))
gathered_new (f ∷ fs) done x (inr h) = gathered_new fs (placed f done) x h

-- no more fields than there are attributes, which are fewer than a reader takes
rising_short : (n : ℕ) (fs : List Field) → n ≤ 38 → rises_above n fs ≡ true → length fs + n ≤ 38
rising_short n [] low rising = omega arith
rising_short n (f ∷ fs) low rising =
    let parts = and_parts (nat_lt n (attribute_number f.attribute)) (rises_above (attribute_number f.attribute) fs) rising in
    let up = true_above n (attribute_number f.attribute) parts.0 in
    let rest = rising_short (attribute_number f.attribute) fs (number_small f.attribute) parts.1 in
    omega arith

pub few_fields : (fs : List Field) → NoneTwice fs → length fs < longest_list
few_fields fs once =
    let short = rising_short 0 (gathered_in fs []) (omega arith) (gathered_rising fs [] refl (λ x y h g. absurd h) once) in
    let long = gathered_length fs [] in
    omega arith

-- two lists in order that have the same fields are one
above_had : (n : ℕ) (fs : List Field) (x : Field) → rises_above n fs ≡ true → Has fs x → n < attribute_number x.attribute
above_had n [] x rising h = absurd h
above_had n (f ∷ fs) x rising (inl is) =
    let parts = and_parts (nat_lt n (attribute_number f.attribute)) (rises_above (attribute_number f.attribute) fs) rising in
    subst (λ (z : Field). n < attribute_number z.attribute) is (true_above n (attribute_number f.attribute) parts.0)
above_had n (f ∷ fs) x rising (inr h) =
    let parts = and_parts (nat_lt n (attribute_number f.attribute)) (rises_above (attribute_number f.attribute) fs) rising in
    let up = true_above n (attribute_number f.attribute) parts.0 in
    let rest = above_had (attribute_number f.attribute) fs x parts.1 h in
    omega arith

heads_same : (f g : Field) (fs gs : List Field) → rises_above (attribute_number f.attribute) fs ≡ true → rises_above (attribute_number g.attribute) gs ≡ true
    → Has (g ∷ gs) f → Has (f ∷ fs) g → f ≡ g
heads_same f g fs gs rf rg (inl is) h = sym is
heads_same f g fs gs rf rg (inr a) (inl is) = is
heads_same f g fs gs rf rg (inr a) (inr b) =
    let one = above_had (attribute_number g.attribute) gs f rg a in
    let two = above_had (attribute_number f.attribute) fs g rf b in
    absurd (omega arith)

tail_had : (f g : Field) (fs gs : List Field) → f ≡ g → rises_above (attribute_number f.attribute) fs ≡ true → (x : Field) → Has fs x → Has (g ∷ gs) x → Has gs x
tail_had f g fs gs same rf x h (inl is) =
    let up = above_had (attribute_number f.attribute) fs x rf h in
    let numbers : attribute_number f.attribute ≡ attribute_number x.attribute = ap (λ (z : Field). attribute_number z.attribute) (same ∙ is) in
    absurd (omega arith)
tail_had f g fs gs same rf x h (inr r) = r

rising_same : (n : ℕ) (fs gs : List Field) → rises_above n fs ≡ true → rises_above n gs ≡ true → ((x : Field) → Has fs x → Has gs x) → ((x : Field) → Has gs x → Has fs x) → fs ≡ gs
rising_same n [] [] rf rg there back = refl
rising_same n [] (g ∷ gs) rf rg there back = absurd (back g (inl refl))
rising_same n (f ∷ fs) [] rf rg there back = absurd (there f (inl refl))
rising_same n (f ∷ fs) (g ∷ gs) rf rg there back =
    let pf = and_parts (nat_lt n (attribute_number f.attribute)) (rises_above (attribute_number f.attribute) fs) rf in
    let pg = and_parts (nat_lt n (attribute_number g.attribute)) (rises_above (attribute_number g.attribute) gs) rg in
    let same : f ≡ g = heads_same f g fs gs pf.1 pg.1 (there f (inl refl)) (back g (inl refl)) in
    let rest : fs ≡ gs = rising_same (attribute_number g.attribute) fs gs (subst (λ (z : Field). rises_above (attribute_number z.attribute) fs ≡ true) same pf.1) pg.1
    (λ x h. tail_had f g fs gs same pf.1 x h (there x (inr h)))
    (λ x h. tail_had g f gs fs (sym same) pg.1 x h (back x (inr h))) in
    ap₂ (λ (x : Field) (xs : List Field). x ∷ xs) same rest

-- the fields that are written in another order are read as they are kept
pub gathered_same : (fields fs : List Field) → is_rising fields ≡ true → AreFieldsOf fields fs → gathered_in fs [] ≡ fields
gathered_same fields fs rising (once, same) =
    rising_same 0 (gathered_in fs []) fields (gathered_rising fs [] refl (λ x y h g. absurd h) once) rising
    (λ x h. has_contained fields x ((same x).0 (contains_had fs x (elim (gathered_parts fs [] x h) [ inl none ↦ absurd none | inr r ↦ r ]))))
    (λ x h. gathered_new fs [] x (has_contained fs x ((same x).1 (contains_had fields x h))))

pub all_had : (p : Field → Bool) (fs : List Field) (x : Field) → list_all p fs ≡ true → Has fs x → p x ≡ true
all_had p [] x all h = absurd h
all_had p (f ∷ fs) x all (inl is) = subst (λ (z : Field). p z ≡ true) is (and_parts (p f) (list_all p fs) all).0
all_had p (f ∷ fs) x all (inr h) = all_had p fs x (and_parts (p f) (list_all p fs) all).1 h

pub all_from : (p : Field → Bool) (fs : List Field) → ((x : Field) → Has fs x → p x ≡ true) → list_all p fs ≡ true
all_from p [] h = refl
all_from p (f ∷ fs) h = and_from _ _ (h f (inl refl)) (all_from p fs (λ x has. h x (inr has)))
