-- A table after one key is written, read by places.
use Rattle.std.proofs.Common.{◌≡◌, ◌⊎◌, ℕ, zero, suc, ◌+◌, Bool, true, false, not, cond, if◌then◌else◌, List, [], ◌∷◌, map, slice_get, Option, Some, None, refl, ap, sym, subst, ◌∙◌, inl, inr, true≢false, arith}
use Rattle.std.specs.Cmp.{IsEquivalence}
use Rattle.std.specs.List.{IsDistinct, position_or_len}
use Rattle.std.specs.Map.{keys_of, lookup, set_value}
use Rattle.std.specs.Map.Calls.{RetainsPairs}
use Rattle.std.specs.Option.{option_map}
use Rattle.std.proofs.lemmas.Map.{NonePasses}
use Rattle.std.proofs.lemmas.Map.Entries.{none_past_head}
use Rattle.std.proofs.lemmas.Map.Keys.{IsDistinct-tail}
use Rattle.indexmap.specs.IndexMap.{insert_entry}

module _ {K X : Type 0} (eq : K → K → Bool) (k : K) (v : X) where
  -- the entry with this value, if it is the key's
  abbrev pub marked : K × X → K × X
  marked e = cond (eq k e.0) (e.0, v) e

  -- what stands at a place of the table once the key has this value: the entry as it was, or the key behind all others
  abbrev pub IsInserted : List (K × X) → Option (K × X) → Option (K × X) → Type 0
  IsInserted es old new = (new ≡ option_map marked old) ⊎ ((old ≡ None) × (new ≡ Some (k, v)) × (lookup (eq k) es ≡ None))

  unmarked : (es : List (K × X)) → NonePasses (eq k) es → (i : ℕ) → slice_get es i ≡ option_map marked (slice_get es i)
  unmarked [] none i = refl
  unmarked (e ∷ es) none zero = ap (λ (t : Bool). Some (cond t (e.0, v) e)) (sym none.0)
  unmarked (e ∷ es) none (suc i) = unmarked es none.1 i

  pub set_at : IsEquivalence eq → (es : List (K × X)) → IsDistinct eq (keys_of es) → (i : ℕ) → slice_get (set_value (eq k) es v) i ≡ option_map marked (slice_get es i)
  set_at laws [] apart i = refl
  set_at laws (e ∷ es) apart i =
      by (eq k e.0) (λ is. unmarked es (none_past_head laws k e es apart is)) (set_at laws es (IsDistinct-tail eq e.0 (keys_of es) apart)) refl i
    where
      by : (t : Bool) → (eq k e.0 ≡ true → (j : ℕ) → slice_get es j ≡ option_map marked (slice_get es j)) → ((j : ℕ) → slice_get (set_value (eq k) es v) j ≡ option_map marked (slice_get es j)) → eq k e.0 ≡ t
          → (j : ℕ) → slice_get (cond t ((e.0, v) ∷ es) (e ∷ set_value (eq k) es v)) j ≡ option_map marked (slice_get (e ∷ es) j)
      by true none below is zero = ap (λ (t : Bool). Some (cond t (e.0, v) e)) (sym is)
      by true none below is (suc j) = none is j
      by false none below is zero = ap (λ (t : Bool). Some (cond t (e.0, v) e)) (sym is)
      by false none below is (suc j) = below j

  pub inserted_at : IsEquivalence eq → (es : List (K × X)) → IsDistinct eq (keys_of es) → (i : ℕ) → IsInserted es (slice_get es i) (slice_get (insert_entry eq es k v) i)
  inserted_at laws [] apart zero = inr (refl, refl, refl)
  inserted_at laws [] apart (suc i) = inl refl
  inserted_at laws (e ∷ es) apart i =
      by (eq k e.0) (λ is. unmarked es (none_past_head laws k e es apart is)) (inserted_at laws es (IsDistinct-tail eq e.0 (keys_of es) apart)) refl i
    where
      by : (t : Bool) → (eq k e.0 ≡ true → (j : ℕ) → slice_get es j ≡ option_map marked (slice_get es j)) → ((j : ℕ) → IsInserted es (slice_get es j) (slice_get (insert_entry eq es k v) j)) → eq k e.0 ≡ t
          → (j : ℕ) → IsInserted (e ∷ es) (slice_get (e ∷ es) j) (slice_get (if t then (e.0, v) ∷ es else e ∷ insert_entry eq es k v) j)
      by true none below is zero = inl (ap (λ (t : Bool). Some (cond t (e.0, v) e)) (sym is))
      by true none below is (suc j) = inl (none is j)
      by false none below is zero = inl (ap (λ (t : Bool). Some (cond t (e.0, v) e)) (sym is))
      by false none below is (suc j) =
          elim (below j) [
            | inl same ↦ inl same
            | inr new ↦ inr (new.0, new.1, ap (λ (t : Bool). cond t (Some e.1) (lookup (eq k) es)) is ∙ new.2)
          ]

  -- the key stands where it stood, or behind all others
  pub key_at : ((x : K) → eq k x ≡ true → k ≡ x) → (es : List (K × X)) → slice_get (insert_entry eq es k v) (position_or_len (eq k) (keys_of es)) ≡ Some (k, v)
  key_at same [] = refl
  key_at same (e ∷ es) = by (eq k e.0) (key_at same es) refl
    where
      more : (n : ℕ) → 1 + n ≡ suc n
      more n = omega arith

      by : (t : Bool) → slice_get (insert_entry eq es k v) (position_or_len (eq k) (keys_of es)) ≡ Some (k, v) → eq k e.0 ≡ t
          → slice_get (if t then (e.0, v) ∷ es else e ∷ insert_entry eq es k v) (cond (not t) (1 + position_or_len (eq k) (keys_of es)) 0) ≡ Some (k, v)
      by true below is = ap (λ (x : K). Some (x, v)) (sym (same e.0 is))
      by false below is = ap (slice_get (e ∷ insert_entry eq es k v)) (more (position_or_len (eq k) (keys_of es))) ∙ below

  -- what other keys have
  pub lookup_inserted : IsEquivalence eq → (es : List (K × X)) (q : K) → lookup (eq q) (insert_entry eq es k v) ≡ cond (eq k q) (Some v) (lookup (eq q) es)
  lookup_inserted laws [] q = ap (λ (t : Bool). cond t (Some v) None) (laws.symm q k)
  lookup_inserted laws (e ∷ es) q = by (eq k e.0) (lookup_inserted laws es q) refl
    where
      by : (t : Bool) → lookup (eq q) (insert_entry eq es k v) ≡ cond (eq k q) (Some v) (lookup (eq q) es) → eq k e.0 ≡ t
          → lookup (eq q) (if t then (e.0, v) ∷ es else e ∷ insert_entry eq es k v) ≡ cond (eq k q) (Some v) (cond (eq q e.0) (Some e.1) (lookup (eq q) es))
      by true below is = here (eq k q) (laws.congr k e.0 q is) (laws.symm q e.0)
        where
          here : (b : Bool) → eq k q ≡ eq e.0 q → eq q e.0 ≡ eq e.0 q → cond (eq q e.0) (Some v) (lookup (eq q) es) ≡ cond (eq k q) (Some v) (cond (eq q e.0) (Some e.1) (lookup (eq q) es))
          here b as_key turned = through (eq q e.0) (eq k q) (as_key ∙ sym turned)
            where
              through : (x y : Bool) → y ≡ x → cond x (Some v) (lookup (eq q) es) ≡ cond y (Some v) (cond x (Some e.1) (lookup (eq q) es))
              through true y is_x = ap (λ (t : Bool). cond t (Some v) (Some e.1)) (sym is_x)
              through false y is_x = ap (λ (t : Bool). cond t (Some v) (lookup (eq q) es)) (sym is_x)
      by false below is = ap (cond (eq q e.0) (Some e.1)) below ∙ swapped (eq q e.0) (eq k q) (λ at own. true≢false (sym at ∙ sym (laws.congr k q e.0 own) ∙ is))
        where
          swapped : (x y : Bool) → (x ≡ true → y ≡ true → ⊥) → cond x (Some e.1) (cond y (Some v) (lookup (eq q) es)) ≡ cond y (Some v) (cond x (Some e.1) (lookup (eq q) es))
          swapped true true never = absurd (never refl refl)
          swapped true false never = refl
          swapped false y never = refl

  pub lookup_set : IsEquivalence eq → (es : List (K × X)) (q : K) → eq k q ≡ false → lookup (eq q) (set_value (eq k) es v) ≡ lookup (eq q) es
  lookup_set laws [] q other = refl
  lookup_set laws (e ∷ es) q other = by (eq k e.0) (lookup_set laws es q other) refl
    where
      by : (t : Bool) → lookup (eq q) (set_value (eq k) es v) ≡ lookup (eq q) es → eq k e.0 ≡ t → lookup (eq q) (cond t ((e.0, v) ∷ es) (e ∷ set_value (eq k) es v)) ≡ cond (eq q e.0) (Some e.1) (lookup (eq q) es)
      by true below is =
          let apart : eq q e.0 ≡ false = laws.symm q e.0 ∙ sym (laws.congr k e.0 q is) ∙ other in
          ap (λ (t : Bool). cond t (Some v) (lookup (eq q) es)) apart ∙ sym (ap (λ (t : Bool). cond t (Some e.1) (lookup (eq q) es)) apart)
      by false below is = ap (cond (eq q e.0) (Some e.1)) below

  pub lookup_set_own : IsEquivalence eq → (es : List (K × X)) (q : K) → eq k q ≡ true → lookup (eq q) (set_value (eq k) es v) ≡ option_map (λ _. v) (lookup (eq q) es)
  lookup_set_own laws [] q own = refl
  lookup_set_own laws (e ∷ es) q own = by (eq k e.0) (sym (laws.congr k q e.0 own)) (lookup_set_own laws es q own)
    where
      by : (t : Bool) → eq q e.0 ≡ t → lookup (eq q) (set_value (eq k) es v) ≡ option_map (λ _. v) (lookup (eq q) es)
          → lookup (eq q) (cond t ((e.0, v) ∷ es) (e ∷ set_value (eq k) es v)) ≡ option_map (λ _. v) (cond (eq q e.0) (Some e.1) (lookup (eq q) es))
      by true at below = ap (λ (t : Bool). cond t (Some v) (lookup (eq q) es)) at ∙ sym (ap (λ (t : Bool). option_map (λ _. v) (cond t (Some e.1) (lookup (eq q) es))) at)
      by false at below = ap (λ (t : Bool). cond t (Some e.1) (lookup (eq q) (set_value (eq k) es v))) at ∙ below ∙ sym (ap (λ (t : Bool). option_map (λ _. v) (cond t (Some e.1) (lookup (eq q) es))) at)

  -- a key that is not there has no value to be set
  pub set_nowhere : (es : List (K × X)) → None ≡ lookup (eq k) es → es ≡ set_value (eq k) es v
  set_nowhere [] none = refl
  set_nowhere (e ∷ es) none = by (eq k e.0) none (set_nowhere es)
    where
      by : (t : Bool) → None ≡ cond t (Some e.1) (lookup (eq k) es) → (None ≡ lookup (eq k) es → es ≡ set_value (eq k) es v) → e ∷ es ≡ cond t ((e.0, v) ∷ es) (e ∷ set_value (eq k) es v)
      by true some below = absurd cc
      by false nothing below = ap (λ (xs : List (K × X)). e ∷ xs) (below nothing)

-- what `retain` leaves of a table where the closure keeps each entry and gives it a value
module _ {K X F : Type 0} (T : F → K → X → Bool → X → F → Type 0) (g : K × X → X) (f : F)
    (says : (k : K) (v : X) (b : Bool) (w : X) (h : F) → T f k v b w h → (b ≡ true) × (w ≡ g (k, v)) × (h ≡ f)) where
  pub map-RetainsPairs : (es kept : List (K × X)) → RetainsPairs T f es kept → kept ≡ map (λ e. (e.0, g e)) es
  map-RetainsPairs [] kept h = h
  map-RetainsPairs (e ∷ es) kept h =
      let s = says e.0 e.1 h.0 h.1 h.2 h.4 in
      let rest = map-RetainsPairs es h.3 (subst (λ x. RetainsPairs T x es h.3) s.2 h.5) in
      h.6 ∙ (λ j. cond (s.0 j) ((e.0, s.1 j) ∷ rest j) (rest j))
