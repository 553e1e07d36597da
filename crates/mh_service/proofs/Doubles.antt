-- Two of some numbers are one: as a look-out finds it that keeps those it has seen, and as it is said.
use Rattle.std.proofs.Common.{◌≡◌, ℕ, Bool, true, false, cond, ◌||◌, List, [], ◌∷◌, ◌++◌, nat_eq, refl, ◌∙◌, if◌then◌else◌}
use Rattle.std.specs.List.{list_any}
use Rattle.std.proofs.lemmas.Cmp.{nat_eq_equiv}
use Rattle.mh_service.specs.Refusals.{has_double}

-- one of the numbers was seen, or comes twice
abbrev pub seen_double : List ℕ → List ℕ → Bool
seen_double seen [] = false
seen_double seen (n ∷ ns) = if list_any (nat_eq n) seen then true else seen_double (seen ++ n ∷ []) ns

seen_more : (m n : ℕ) (seen : List ℕ) → list_any (nat_eq m) (seen ++ n ∷ []) ≡ (list_any (nat_eq m) seen || nat_eq n m)
seen_more m n [] = one (nat_eq m n) ∙ nat_eq_equiv.symm m n
  where
    one : (b : Bool) → (b || false) ≡ b
    one true = refl
    one false = refl
seen_more m n (k ∷ seen) = rw (seen_more m n seen) (joined (nat_eq m k) (list_any (nat_eq m) seen) (nat_eq n m))
  where
    joined : (a b c : Bool) → (a || (b || c)) ≡ ((a || b) || c)
    joined true b c = refl
    joined false b c = refl

some_seen_more : (n : ℕ) (seen ns : List ℕ) → list_any (λ m. list_any (nat_eq m) (seen ++ n ∷ [])) ns ≡ (list_any (λ m. list_any (nat_eq m) seen) ns || list_any (nat_eq n) ns)
some_seen_more n seen [] = refl
some_seen_more n seen (m ∷ ns) = rw (seen_more m n seen, some_seen_more n seen ns) (mixed (list_any (nat_eq m) seen) (nat_eq n m) (list_any (λ m. list_any (nat_eq m) seen) ns) (list_any (nat_eq n) ns))
  where
    mixed : (a e b c : Bool) → ((a || e) || (b || c)) ≡ ((a || b) || (e || c))
    mixed true e b c = refl
    mixed false true true c = refl
    mixed false true false c = refl
    mixed false false b c = refl

double_behind : (seen ns : List ℕ) → seen_double seen ns ≡ (list_any (λ m. list_any (nat_eq m) seen) ns || has_double ns)
double_behind seen [] = refl
double_behind seen (n ∷ ns) = rw (double_behind (seen ++ n ∷ []) ns, some_seen_more n seen ns) (joined (list_any (nat_eq n) seen) (list_any (λ m. list_any (nat_eq m) seen) ns) (list_any (nat_eq n) ns) (has_double ns))
  where
    joined : (s q r h : Bool) → cond s true ((q || r) || h) ≡ ((s || q) || (r || h))
    joined true q r h = refl
    joined false true r h = refl
    joined false false r h = refl

pub seen_nothing : (ns : List ℕ) → seen_double [] ns ≡ has_double ns
seen_nothing ns = rw (double_behind [] ns) (none ns)
  where
    none : (ms : List ℕ) → (list_any (λ m. false) ms || has_double ns) ≡ has_double ns
    none [] = refl
    none (m ∷ ms) = none ms
