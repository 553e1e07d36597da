-- Rows of arrows: what is in each when an arrow more is put into one.
use Rattle.std.proofs.Common.{◌≡◌, ◌⊎◌, inl, inr, ℕ, zero, suc, ◌<◌, ◌≤◌, List, [], ◌∷◌, ◌++◌, map, length, replicate, Vec, refl, ap, ◌∙◌, arith}
use Rattle.std.specs.Prelude.{slice_get, slice_set, slice_index_or}
use Rattle.std.specs.List.{Contains}
use Rattle.std.specs.Option.{option_map_or}
use Rattle.std.specs.declared.alloc.Global.{Global}
use Rattle.std.proofs.lemmas.List.Elements.{Contains-append_left, Contains-append_right, Contains-append_cases}
use Rattle.mh_paths.specs.declared.graph.Arrow.{Arrow}
use Rattle.mh_paths.specs.declared.graph.Graph.{Graph}
use Rattle.mh_paths.specs.Chains.{arrows_of}
use Rattle.mh_flow.specs.Routes.{with_arrow}
use Rattle.mh_flow.proofs.ContainsLemmas.{no_member, here, first_or_behind}

abbrev pub items_of : List (Vec Arrow Global) → List (List Arrow)
items_of rows = map (λ row. row.items) rows

-- the row with this number
abbrev pub row : List (List Arrow) → ℕ → List Arrow
row rows u = option_map_or (λ (r : List Arrow). r) (slice_get rows u) []

-- The code's rows.

pub set_arrow : (rows : List (Vec Arrow Global)) (u : ℕ) (old new : Vec Arrow Global) (a : Arrow) → u < length rows → old ≡ slice_index_or rows u old → new.items ≡ old.items ++ a ∷ [] → items_of (slice_set rows u new) ≡ with_arrow (items_of rows) u a
set_arrow [] u old new a less e h = absurd (omega (arith, less))
set_arrow (r ∷ rows) zero old new a less e h = ap (λ (x : List Arrow). x ∷ items_of rows) (h ∙ ap (λ (x : Vec Arrow Global). x.items ++ a ∷ []) e)
set_arrow (r ∷ rows) (suc u) old new a less e h = ap (λ (x : List (List Arrow)). r.items ∷ x) (set_arrow rows u old new a (omega (arith, less)) e h)

pub past_rows : (rows : List (Vec Arrow Global)) (u : ℕ) (a : Arrow) → length rows ≤ u → items_of rows ≡ with_arrow (items_of rows) u a
past_rows [] u a h = refl
past_rows (r ∷ rows) zero a h = absurd (omega (arith, h))
past_rows (r ∷ rows) (suc u) a h = ap (λ (x : List (List Arrow)). r.items ∷ x) (past_rows rows u a (omega (arith, h)))

own_row : (rows : List (Vec Arrow Global)) (u : ℕ) → option_map_or (λ (r : Vec Arrow Global). r.items) (slice_get rows u) [] ≡ row (items_of rows) u
own_row [] u = refl
own_row (r ∷ rows) zero = refl
own_row (r ∷ rows) (suc u) = own_row rows u

pub graph_row : (g : Graph) (u : ℕ) → arrows_of g u ≡ row (items_of g.nodes.items) u
graph_row g u = own_row g.nodes.items u

-- One arrow more.

pub arrow_length : (rows : List (List Arrow)) (u : ℕ) (a : Arrow) → length (with_arrow rows u a) ≡ length rows
arrow_length [] u a = refl
arrow_length (r ∷ rows) zero a = refl
arrow_length (r ∷ rows) (suc u) a = ap suc (arrow_length rows u a)

pub arrow_comes : (rows : List (List Arrow)) (u : ℕ) (a : Arrow) → u < length rows → Contains (row (with_arrow rows u a) u) a
arrow_comes [] u a h = absurd (omega (arith, h))
arrow_comes (r ∷ rows) zero a h = Contains-append_right r (a ∷ []) a (here a [])
arrow_comes (r ∷ rows) (suc u) a h = arrow_comes rows u a (omega (arith, h))

pub arrow_stays : (rows : List (List Arrow)) (u : ℕ) (a : Arrow) (w : ℕ) (x : Arrow) → Contains (row rows w) x → Contains (row (with_arrow rows u a) w) x
arrow_stays [] u a w x m = m
arrow_stays (r ∷ rows) zero a zero x m = Contains-append_left r (a ∷ []) x m
arrow_stays (r ∷ rows) zero a (suc w) x m = m
arrow_stays (r ∷ rows) (suc u) a zero x m = m
arrow_stays (r ∷ rows) (suc u) a (suc w) x m = arrow_stays rows u a w x m

pub arrow_or_new : (rows : List (List Arrow)) (u : ℕ) (a : Arrow) (w : ℕ) (x : Arrow) → Contains (row (with_arrow rows u a) w) x → Contains (row rows w) x ⊎ ((u ≡ w) × (a ≡ x))
arrow_or_new [] u a w x m = inl m
arrow_or_new (r ∷ rows) zero a zero x m = by (Contains-append_cases r (a ∷ []) x m)
  where
    one : (a ≡ x) ⊎ Contains [] x → Contains r x ⊎ ((zero ≡ zero) × (a ≡ x))
    one (inl e) = inr (refl, e)
    one (inr none) = absurd (no_member x none)

    by : Contains r x ⊎ Contains (a ∷ []) x → Contains r x ⊎ ((zero ≡ zero) × (a ≡ x))
    by (inl k) = inl k
    by (inr k) = one (first_or_behind a [] x k)
arrow_or_new (r ∷ rows) zero a (suc w) x m = inl m
arrow_or_new (r ∷ rows) (suc u) a zero x m = inl m
arrow_or_new (r ∷ rows) (suc u) a (suc w) x m = by (arrow_or_new rows u a w x m)
  where
    by : Contains (row rows w) x ⊎ ((u ≡ w) × (a ≡ x)) → Contains (row rows w) x ⊎ ((suc u ≡ suc w) × (a ≡ x))
    by (inl k) = inl k
    by (inr k) = inr (ap suc k.0, k.1)

-- No arrows.

pub no_arrows : (n u : ℕ) (x : Arrow) → Contains (row (replicate n []) u) x → ⊥
no_arrows zero u x m = no_member x m
no_arrows (suc n) zero x m = no_member x m
no_arrows (suc n) (suc u) x m = no_arrows n u x m
