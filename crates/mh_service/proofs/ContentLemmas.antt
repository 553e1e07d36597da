-- A name that goes into a set, and the names that are still to go there.
use Rattle.std.proofs.Common.{◌≡◌, ℕ, Bool, true, false, cond, ◌||◌, List, [], ◌∷◌, ◌++◌, refl, sym, subst, ◌<◌, ◌+◌, length, drop, get_or}
use Rattle.std.specs.List.{list_any}
use Rattle.std.specs.Str.{bytes_eq}
use Rattle.std.specs.Cmp.Lexicographic.{pointwise}
use Rattle.std.specs.Prelude.{nat_eq}
use Rattle.std.proofs.lemmas.List.{drop_more}
use Rattle.std.proofs.lemmas.List.Folds.{list_any-append}
use Rattle.std.proofs.lemmas.Slice.Eq.{bytes_eq-Decides}
use Rattle.indexmap.specs.IndexSet.{insert_key}

pub inserted : (name k : List ℕ) (keys rest : List (List ℕ)) → list_any (bytes_eq name) (insert_key (pointwise nat_eq) keys k ++ rest) ≡ list_any (bytes_eq name) (keys ++ k ∷ rest)
inserted name k keys rest = by (list_any (bytes_eq k) keys) refl
  where
    joined : (a b r : Bool) → ((a || (b || false)) || r) ≡ (a || (b || r))
    joined true b r = refl
    joined false true r = refl
    joined false false r = refl

    covered : (a b r : Bool) → (b ≡ true → a ≡ true) → (a || r) ≡ (a || (b || r))
    covered true b r h = refl
    covered false false r h = refl
    covered false true r h =
        let no = h refl in
        cc

    by : (b : Bool) → list_any (bytes_eq k) keys ≡ b → list_any (bytes_eq name) (cond b keys (keys ++ k ∷ []) ++ rest) ≡ list_any (bytes_eq name) (keys ++ k ∷ rest)
    by true e =
        rw (list_any-append (bytes_eq name) keys rest, list_any-append (bytes_eq name) keys (k ∷ rest)) (covered (list_any (bytes_eq name) keys) (bytes_eq name k) (list_any (bytes_eq name) rest) (λ h. subst (λ (n : List ℕ). list_any (bytes_eq n) keys ≡ true) (sym ((bytes_eq-Decides name k).0 h)) e))
    by false e =
        rw (list_any-append (bytes_eq name) (keys ++ k ∷ []) rest, list_any-append (bytes_eq name) keys (k ∷ []), list_any-append (bytes_eq name) keys (k ∷ rest)) (joined (list_any (bytes_eq name) keys) (bytes_eq name k) (list_any (bytes_eq name) rest))

-- one more of a list of names
pub more_inserted : (name : List ℕ) (keys new named : List (List ℕ)) (i : ℕ) (x k : List ℕ) → i < length named → x ≡ get_or named i x → k ≡ x → new ≡ insert_key (pointwise nat_eq) keys k → list_any (bytes_eq name) (new ++ drop (i + 1) named) ≡ list_any (bytes_eq name) (keys ++ drop i named)
more_inserted name keys new named i x k within is same added =
    rw (added, same, drop_more named i x within, sym is) (inserted name x keys (drop (i + 1) named))
