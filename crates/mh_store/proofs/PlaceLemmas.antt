-- Where an entry stands: what is found there, and what putting another in its place gives.
use Rattle.std.specs.Prelude.{◌≡◌, ℕ, zero, suc, ◌+◌, ◌<◌, nat_eq, Bool, true, false, cond, List, [], ◌∷◌, length, slice_get, Option, Some, None, unwrap_or, refl}
use Rattle.std.specs.Option.{is_some}
use Rattle.std.specs.List.{position, position_or_len, AllByRecursion, IsDistinct}
use Rattle.std.specs.Map.{keys_of, values_of, lookup, set_value}
use Rattle.std.proofs.Common.{ap, ◌∙◌, sym, subst, arith}
use Rattle.indexmap.specs.IndexMap.{set_value_at}
use Rattle.mh_base.proofs.PathLemmas.{position-some}
use Rattle.std.proofs.lemmas.Map.Steps.{set_value_same}
use Rattle.mh_model.specs.declared.object.Body.{Body}
use Rattle.mh_model.specs.declared.object.Fixed.{Fixed}
use Rattle.mh_model.specs.declared.object.Object.{Object}
use Rattle.mh_store.specs.Table.{IsPlace, with_body, changed_at}
use Rattle.mh_store.proofs.TableLemmas.{set_value-found}

equal : (a b : ℕ) → a ≡ b → nat_eq a b ≡ true
equal a b same = search arith

apart : (a b : ℕ) → nat_eq a b ≡ false → nat_eq b a ≡ false
apart a b other = search (arith, other)

all_at : (n i : ℕ) (es : List (ℕ × Object)) (e : ℕ × Object) → AllByRecursion (λ k. nat_eq n k ≡ false) (keys_of es) → slice_get es i ≡ Some e → nat_eq n e.0 ≡ false
all_at n zero [] e each at = absurd cc
all_at n (suc i) [] e each at = absurd cc
all_at n zero (x ∷ xs) e each at =
    let same : x ≡ e = cc in
    subst (λ (y : ℕ × Object). nat_eq n y.0 ≡ false) same each.0
all_at n (suc i) (x ∷ xs) e each at = all_at n i xs e each.1 at

-- no two entries stand under one number, so that an entry that does is the first
pub own_place : (n i : ℕ) (es : List (ℕ × Object)) (e : ℕ × Object) → IsDistinct nat_eq (keys_of es) → slice_get es i ≡ Some e → e.0 ≡ n → IsPlace n es i
unfolding IsDistinct
own_place n i [] e d at same = tt
own_place n zero (x ∷ xs) e d at same =
    let here : x ≡ e = cc in
    equal n x.0 (sym same ∙ ap (λ (y : ℕ × Object). y.0) (sym here))
own_place n (suc i) (x ∷ xs) e d at same =
    (apart x.0 n (subst (λ (k : ℕ). nat_eq x.0 k ≡ false) same (all_at x.0 i xs e d.0 at)), own_place n i xs e d.1 at same)

or_len : (n : ℕ) (es : List (ℕ × Object)) → position_or_len (nat_eq n) (keys_of es) < length (keys_of es) → IsPlace n es (position_or_len (nat_eq n) (keys_of es))
or_len n [] inside = absurd (omega (arith, inside))
or_len n (x ∷ xs) inside = by (or_len n xs) (nat_eq n x.0) refl
  where
    by : (position_or_len (nat_eq n) (keys_of xs) < length (keys_of xs) → IsPlace n xs (position_or_len (nat_eq n) (keys_of xs))) → (b : Bool) → nat_eq n x.0 ≡ b → IsPlace n (x ∷ xs) (position_or_len (nat_eq n) (keys_of (x ∷ xs)))
    by below true e =
        let here : position_or_len (nat_eq n) (keys_of (x ∷ xs)) ≡ 0 = rw e refl in
        subst (IsPlace n (x ∷ xs)) (sym here) e
    by below false e =
        let first : position_or_len (nat_eq n) (keys_of (x ∷ xs)) ≡ 1 + position_or_len (nat_eq n) (keys_of xs) = rw e refl in
        let one : 1 + position_or_len (nat_eq n) (keys_of xs) ≡ suc (position_or_len (nat_eq n) (keys_of xs)) = omega arith in
        let shorter : position_or_len (nat_eq n) (keys_of xs) < length (keys_of xs) = omega (arith, inside, first) in
        subst (IsPlace n (x ∷ xs)) (sym (first ∙ one)) (e, below shorter)

-- what `get_index_of` finds
pub found_place : (n i : ℕ) (es : List (ℕ × Object)) → position (nat_eq n) (keys_of es) ≡ Some i → IsPlace n es i
found_place n i es found =
    let place = position-some (nat_eq n) (keys_of es) i found in
    subst (IsPlace n es) place.0 (or_len n es (subst (λ (k : ℕ). k < length (keys_of es)) (sym place.0) place.1))

-- where it finds nothing the place is behind all
pub no_place : (n : ℕ) (es : List (ℕ × Object)) → lookup (nat_eq n) es ≡ None → IsPlace n es (length es)
no_place n [] none = tt
no_place n (e ∷ es) none = by (no_place n es) (nat_eq n e.0) refl none
  where
    by : (lookup (nat_eq n) es ≡ None → IsPlace n es (length es)) → (b : Bool) → nat_eq n e.0 ≡ b → cond b (Some e.1) (lookup (nat_eq n) es) ≡ None → IsPlace n (e ∷ es) (length (e ∷ es))
    by below true here h = absurd cc
    by below false other h = (other, below h)

lookup-place : (n i : ℕ) (es : List (ℕ × Object)) → IsPlace n es i → slice_get (values_of es) i ≡ lookup (nat_eq n) es
lookup-place n zero [] at = refl
lookup-place n (suc i) [] at = refl
lookup-place n zero (e ∷ es) at = sym (ap (λ (b : Bool). cond b (Some e.1) (lookup (nat_eq n) es)) at)
lookup-place n (suc i) (e ∷ es) at = lookup-place n i es at.1 ∙ sym (ap (λ (b : Bool). cond b (Some e.1) (lookup (nat_eq n) es)) at.0)

set_value-place : (n i : ℕ) (es : List (ℕ × Object)) (o : Object) → IsPlace n es i → set_value_at es i o ≡ set_value (nat_eq n) es o
set_value-place n i [] o at = refl
set_value-place n zero (e ∷ es) o at = sym (ap (λ (b : Bool). cond b ((e.0, o) ∷ es) (e ∷ set_value (nat_eq n) es o)) at)
set_value-place n (suc i) (e ∷ es) o at =
    ap (λ (l : List (ℕ × Object)). e ∷ l) (set_value-place n i es o at.1) ∙ sym (ap (λ (b : Bool). cond b ((e.0, o) ∷ es) (e ∷ set_value (nat_eq n) es o)) at.0)

-- What is put at the place, where an object stands there, and where none does

pub found_at : (n i : ℕ) (es : List (ℕ × Object)) (found : Option Object) → IsPlace n es i → found ≡ slice_get (values_of es) i → found ≡ lookup (nat_eq n) es
found_at n i es found at is = is ∙ lookup-place n i es at

pub changed_place : (f : Fixed → Body → Body) (n i : ℕ) (es : List (ℕ × Object)) (o : Object) → IsPlace n es i → Some o ≡ slice_get (values_of es) i → set_value_at es i (with_body f o) ≡ changed_at f n es
changed_place f n i es o at is = set_value-place n i es (with_body f o) at ∙ set_value-found f n es o (found_at n i es (Some o) at is)

pub same_place : (n i : ℕ) (es : List (ℕ × Object)) (o : Object) → IsPlace n es i → Some o ≡ slice_get (values_of es) i → set_value_at es i o ≡ es
same_place n i es o at is = set_value-place n i es o at ∙ set_value_same (nat_eq n) es o (sym (found_at n i es (Some o) at is))

pub put_place : (n i : ℕ) (es : List (ℕ × Object)) (o : Object) → IsPlace n es i → set_value_at es i o ≡ set_value (nat_eq n) es o
put_place = set_value-place

-- what `get_index_of` answers, or the length
pub place_or_behind : (n : ℕ) (es : List (ℕ × Object)) (found : Option ℕ) → found ≡ position (nat_eq n) (keys_of es) → is_some found ≡ is_some (lookup (nat_eq n) es) → IsPlace n es (unwrap_or found (length es))
place_or_behind n es (Some i) is same = found_place n i es (sym is)
place_or_behind n es None is same = no_place n es (nothing (lookup (nat_eq n) es) same)
  where
    nothing : (o : Option Object) → false ≡ is_some o → o ≡ None
    nothing None h = refl
    nothing (Some o) h = absurd cc
