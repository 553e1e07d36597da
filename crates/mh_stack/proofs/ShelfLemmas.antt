-- One list of references behind another.
use Rattle.std.proofs.Common.{◌≡◌, ℕ, Bool, true, false, ◌||◌, not, List, [], ◌∷◌, ◌++◌, filter, refl, sym, ap, ◌∙◌, append-nil}
use Rattle.std.specs.List.{list_any}
use Rattle.std.specs.Str.{bytes_eq}
use Rattle.std.proofs.lemmas.Bool.{both_ways, or_parts}
use Rattle.std.proofs.lemmas.List.Elements.{filter-append}
use Rattle.mh_base.specs.declared.obj_ref.ObjRef.{ObjRef}
use Rattle.mh_model.specs.Reference.{same_ref}
use Rattle.mh_model.specs.Stack.{without, just_above, just_below}

-- what was taken off is there no more
pub gone : (r : ObjRef) (xs : List ObjRef) → list_any (same_ref r) (without r xs) ≡ false
gone r [] = refl
gone r (x ∷ xs) = by (same_ref r x) refl (gone r xs)
  where
    by : (b : Bool) → same_ref r x ≡ b → list_any (same_ref r) (without r xs) ≡ false → list_any (same_ref r) (without r (x ∷ xs)) ≡ false
    by true e rest = rw e rest
    by false e rest = rw (e, e) rest

pub without_both : (r : ObjRef) (xs ys : List ObjRef) → without r xs ++ without r ys ≡ without r (xs ++ ys)
without_both r xs ys = sym (filter-append (λ x. not (same_ref r x)) xs ys)

pub above_there : (r q : ObjRef) (xs ys : List ObjRef) → list_any (same_ref q) xs ≡ true → just_above r q xs ++ ys ≡ just_above r q (xs ++ ys)
above_there r q [] ys there = absurd (both_ways false refl there)
above_there r q (x ∷ xs) ys there = by (same_ref q x) refl (λ h. above_there r q xs ys h) there
  where
    by : (b : Bool) → same_ref q x ≡ b → (list_any (same_ref q) xs ≡ true → just_above r q xs ++ ys ≡ just_above r q (xs ++ ys)) → list_any (same_ref q) (x ∷ xs) ≡ true
        → just_above r q (x ∷ xs) ++ ys ≡ just_above r q (x ∷ (xs ++ ys))
    by true e rest is = rw e refl
    by false e rest is = rw e (ap (λ (qs : List ObjRef). x ∷ qs) (rest (ap (λ (b : Bool). b || list_any (same_ref q) xs) (sym e) ∙ is)))

pub below_there : (r q : ObjRef) (xs ys : List ObjRef) → list_any (same_ref q) xs ≡ true → just_below r q xs ++ ys ≡ just_below r q (xs ++ ys)
below_there r q [] ys there = absurd (both_ways false refl there)
below_there r q (x ∷ xs) ys there = by (same_ref q x) refl (λ h. below_there r q xs ys h) there
  where
    by : (b : Bool) → same_ref q x ≡ b → (list_any (same_ref q) xs ≡ true → just_below r q xs ++ ys ≡ just_below r q (xs ++ ys)) → list_any (same_ref q) (x ∷ xs) ≡ true
        → just_below r q (x ∷ xs) ++ ys ≡ just_below r q (x ∷ (xs ++ ys))
    by true e rest is = rw e refl
    by false e rest is = rw e (ap (λ (qs : List ObjRef). x ∷ qs) (rest (ap (λ (b : Bool). b || list_any (same_ref q) xs) (sym e) ∙ is)))

pub above_elsewhere : (r q : ObjRef) (xs ys : List ObjRef) → list_any (same_ref q) xs ≡ false → xs ++ just_above r q ys ≡ just_above r q (xs ++ ys)
above_elsewhere r q [] ys none = refl
above_elsewhere r q (x ∷ xs) ys none =
    let parts = or_parts (same_ref q x) (list_any (same_ref q) xs) none in
    rw parts.0 (ap (λ (qs : List ObjRef). x ∷ qs) (above_elsewhere r q xs ys parts.1))

pub below_elsewhere : (r q : ObjRef) (xs ys : List ObjRef) → list_any (same_ref q) xs ≡ false → xs ++ just_below r q ys ≡ just_below r q (xs ++ ys)
below_elsewhere r q [] ys none = refl
below_elsewhere r q (x ∷ xs) ys none =
    let parts = or_parts (same_ref q x) (list_any (same_ref q) xs) none in
    rw parts.0 (ap (λ (qs : List ObjRef). x ∷ qs) (below_elsewhere r q xs ys parts.1))

-- What a stack is behind a change, of what its two lists are.

pub fallen : (r : ObjRef) (xs xs1 ys ys1 : List ObjRef) → xs1 ≡ without r xs → ys1 ≡ without r ys → xs1 ++ ys1 ≡ without r (xs ++ ys)
fallen r xs xs1 ys ys1 off away = (λ i. off i ++ away i) ∙ without_both r xs ys

pub kept_both : (g : List ℕ) (xs xs1 ys ys1 : List ObjRef) → xs1 ≡ filter (λ r. bytes_eq r.group g) xs → ys1 ≡ filter (λ r. bytes_eq r.group g) ys → xs1 ++ ys1 ≡ filter (λ r. bytes_eq r.group g) (xs ++ ys)
kept_both g xs xs1 ys ys1 kept left = (λ i. kept i ++ left i) ∙ sym (filter-append (λ r. bytes_eq r.group g) xs ys)

pub risen : (r : ObjRef) (xs xs1 ys : List ObjRef) → ys ≡ [] → xs1 ≡ xs ++ r ∷ [] → xs1 ++ ys ≡ (xs ++ ys) ++ r ∷ []
risen r xs xs1 ys empty put = (λ i. put i ++ empty i) ∙ append-nil (xs ++ r ∷ []) ∙ ap (λ (qs : List ObjRef). qs ++ r ∷ []) (sym (append-nil xs) ∙ ap (λ (zs : List ObjRef). xs ++ zs) (sym empty))

pub sent : (r : ObjRef) (xs xs1 xs2 ys ys1 : List ObjRef) → xs1 ≡ without r xs → ys1 ≡ without r ys → xs2 ≡ r ∷ xs1 → xs2 ++ ys1 ≡ r ∷ without r (xs ++ ys)
sent r xs xs1 xs2 ys ys1 off away put = (λ i. put i ++ ys1) ∙ ap (λ (qs : List ObjRef). r ∷ qs) (fallen r xs xs1 ys ys1 off away)

pub above_in_line : (r q : ObjRef) (xs xs1 xs2 ys ys1 : List ObjRef) → xs1 ≡ without r xs → ys1 ≡ without r ys → list_any (same_ref q) xs1 ≡ true → xs2 ≡ just_above r q xs1
    → xs2 ++ ys1 ≡ just_above r q (without r (xs ++ ys))
above_in_line r q xs xs1 xs2 ys ys1 off away there put =
    (λ i. put i ++ ys1) ∙ above_there r q xs1 ys1 there ∙ ap (just_above r q) (fallen r xs xs1 ys ys1 off away)

pub below_in_line : (r q : ObjRef) (xs xs1 xs2 ys ys1 : List ObjRef) → xs1 ≡ without r xs → ys1 ≡ without r ys → list_any (same_ref q) xs1 ≡ true → xs2 ≡ just_below r q xs1
    → xs2 ++ ys1 ≡ just_below r q (without r (xs ++ ys))
below_in_line r q xs xs1 xs2 ys ys1 off away there put =
    (λ i. put i ++ ys1) ∙ below_there r q xs1 ys1 there ∙ ap (just_below r q) (fallen r xs xs1 ys ys1 off away)

pub above_none : (r q : ObjRef) (xs xs1 ys ys1 ys2 : List ObjRef) → xs1 ≡ without r xs → ys1 ≡ without r ys → list_any (same_ref q) xs1 ≡ false → ys2 ≡ just_above r q ys1
    → xs1 ++ ys2 ≡ just_above r q (without r (xs ++ ys))
above_none r q xs xs1 ys ys1 ys2 off away none put =
    ap (λ (qs : List ObjRef). xs1 ++ qs) put ∙ above_elsewhere r q xs1 ys1 none ∙ ap (just_above r q) (fallen r xs xs1 ys ys1 off away)

pub below_none : (r q : ObjRef) (xs xs1 ys ys1 ys2 : List ObjRef) → xs1 ≡ without r xs → ys1 ≡ without r ys → list_any (same_ref q) xs1 ≡ false → ys2 ≡ just_below r q ys1
    → xs1 ++ ys2 ≡ just_below r q (without r (xs ++ ys))
below_none r q xs xs1 ys ys1 ys2 off away none put =
    ap (λ (qs : List ObjRef). xs1 ++ qs) put ∙ below_elsewhere r q xs1 ys1 none ∙ ap (just_below r q) (fallen r xs xs1 ys ys1 off away)

-- on top, where there is nothing in the second list
pub above_on_top : (r q : ObjRef) (xs xs1 xs2 ys ys1 : List ObjRef) → xs1 ≡ without r xs → ys1 ≡ without r ys → list_any (same_ref q) xs1 ≡ false → ys1 ≡ [] → xs2 ≡ xs1 ++ r ∷ []
    → xs2 ++ ys1 ≡ just_above r q (without r (xs ++ ys))
above_on_top r q xs xs1 xs2 ys ys1 off away none empty put =
    (λ i. put i ++ empty i) ∙ append-nil (xs1 ++ r ∷ []) ∙ above_elsewhere r q xs1 [] none ∙ ap (λ (qs : List ObjRef). just_above r q (xs1 ++ qs)) (sym empty)
    ∙ ap (just_above r q) (fallen r xs xs1 ys ys1 off away)

pub below_on_top : (r q : ObjRef) (xs xs1 xs2 ys ys1 : List ObjRef) → xs1 ≡ without r xs → ys1 ≡ without r ys → list_any (same_ref q) xs1 ≡ false → ys1 ≡ [] → xs2 ≡ xs1 ++ r ∷ []
    → xs2 ++ ys1 ≡ just_below r q (without r (xs ++ ys))
below_on_top r q xs xs1 xs2 ys ys1 off away none empty put =
    (λ i. put i ++ empty i) ∙ append-nil (xs1 ++ r ∷ []) ∙ below_elsewhere r q xs1 [] none ∙ ap (λ (qs : List ObjRef). just_below r q (xs1 ++ qs)) (sym empty)
    ∙ ap (just_below r q) (fallen r xs xs1 ys ys1 off away)
