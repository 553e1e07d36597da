-- Edges between sets.
use Rattle.std.specs.Prelude.{◌≡◌, ◌⊎◌, ◌&&◌, ◌||◌, not, if◌then◌else◌, nat_eq, Bool, true, false, List, [], ◌∷◌, ◌++◌, ℕ, refl}
use Rattle.std.specs.List.{Contains, list_any}
use Rattle.std.proofs.Common.{inl, inr, ap, ◌∙◌, sym, subst, eqb-true}
use Rattle.indexmap.specs.IndexSet.{insert_key}
use Rattle.mh_flow.specs.declared.fixpoint.edges.Edge.{Edge}
use Rattle.mh_flow.specs.declared.fixpoint.edges.Edges.{Edges}
use Rattle.mh_flow.specs.Rows.{row, Pushed}
use Rattle.mh_flow.specs.Edging.{ends, same_edge, AreTabled, HasEdge}
use Rattle.mh_flow.proofs.RowLemmas.{longer_has}

any_pushed : (p : Edge → Bool) (xs : List Edge) (y : Edge) → list_any p (xs ++ y ∷ []) ≡ true → (list_any p xs ≡ true) ⊎ (p y ≡ true)
any_pushed p [] y e = by (p y) e
  where
    by : (b : Bool) → (b || false) ≡ true → (false ≡ true) ⊎ (b ≡ true)
    by true e = inr refl
    by false e = inl e
any_pushed p (x ∷ xs) y e = by (p x) (any_pushed p xs y) e
  where
    by : (b : Bool) → (list_any p (xs ++ y ∷ []) ≡ true → (list_any p xs ≡ true) ⊎ (p y ≡ true)) → (b || list_any p (xs ++ y ∷ [])) ≡ true → ((b || list_any p xs) ≡ true) ⊎ (p y ≡ true)
    by true below e = inl refl
    by false below e = below e

any_inserted : (p : Edge → Bool) (xs : List Edge) (y : Edge) → list_any p (insert_key same_edge xs y) ≡ true → (list_any p xs ≡ true) ⊎ (p y ≡ true)
any_inserted p xs y e = by (list_any (same_edge y) xs) e
  where
    by : (b : Bool) → list_any p (if b then xs else xs ++ y ∷ []) ≡ true → (list_any p xs ≡ true) ⊎ (p y ≡ true)
    by true e = inl e
    by false e = any_pushed p xs y e

halves : (a b : Bool) → (a && b) ≡ true → (a ≡ true) × (b ≡ true)
halves true b e = (refl, e)
halves false b e = absurd cc

ends_same : (a b : Edge) → same_edge a b ≡ true → (b.from ≡ a.from) × (b.to ≡ a.to)
ends_same a b e = let h = halves (nat_eq a.from b.from) (nat_eq a.to b.to) e in (sym (eqb-true a.from b.from h.0), sym (eqb-true a.to b.to h.1))

-- what is put into the table has been pushed to its row
pub tabled : (old new : Edges) (edge : Edge) → AreTabled old → new.table.keys ≡ insert_key same_edge old.table.keys edge → Pushed edge.from edge.to (ends old) (ends new) → AreTabled new
tabled old new edge k keys pushed e h = by (any_inserted (same_edge e) old.table.keys edge (sym (ap (λ (t : List Edge). list_any (same_edge e) t) keys) ∙ h))
  where
    by : (list_any (same_edge e) old.table.keys ≡ true) ⊎ (same_edge e edge ≡ true) → Contains (row (ends new) e.from) e.to
    by (inl before) = longer_has (ends old) (ends new) e.from e.to pushed.longer (k e before)
    by (inr same) =
        let is = ends_same e edge same in
        subst (λ (u : ℕ). Contains (row (ends new) u) e.to) is.0 (subst (λ (v : ℕ). Contains (row (ends new) edge.from) v) is.1 pushed.put)

-- what has been pushed besides leaves what stands in the table where it was
pub still_tabled : (old new : Edges) (u n : ℕ) → AreTabled old → new.table.keys ≡ old.table.keys → Pushed u n (ends old) (ends new) → AreTabled new
still_tabled old new u n k keys pushed e h = longer_has (ends old) (ends new) e.from e.to pushed.longer (k e (sym (ap (λ (t : List Edge). list_any (same_edge e) t) keys) ∙ h))

-- what stands in the table already is there
pub known_edge : (old : Edges) (edge : Edge) (is_new : Bool) → is_new ≡ false → is_new ≡ not (list_any (same_edge edge) old.table.keys) → AreTabled old → HasEdge edge.from edge.to is_new (ends old) (ends old)
known_edge old edge true e added k = absurd cc
known_edge old edge false e added k = (refl, k edge (by (list_any (same_edge edge) old.table.keys) added))
  where
    by : (b : Bool) → false ≡ not b → b ≡ true
    by true e = refl
    by false e = absurd cc
