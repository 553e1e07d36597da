-- Sets to which lists are added one behind the other.
use Rattle.std.specs.Prelude.{◌≡◌, Bool, true, false, ◌||◌, if◌then◌else◌, List, [], ◌∷◌, ◌++◌, refl}
use Rattle.std.specs.List.{list_any}
use Rattle.std.proofs.Common.{ap, sym, subst, inl, inr, ◌∙◌}
use Rattle.std.proofs.lemmas.List.Folds.{list_any-append}
use Rattle.std.proofs.lemmas.List.Sums.{fold-append}
use Rattle.indexmap.specs.IndexSet.{insert_all, insert_key}
use Rattle.mh_laws.specs.Each.{Among}

pub put_both : {K : Type 0} (same : K → K → Bool) (ks xs ys : List K) → insert_all same (insert_all same ks xs) ys ≡ insert_all same ks (xs ++ ys)
put_both same ks xs ys = sym (fold-append (insert_key same) ks xs ys)

pub put_three : {K : Type 0} (same : K → K → Bool) (ks xs ys zs : List K) → insert_all same (insert_all same (insert_all same ks xs) ys) zs ≡ insert_all same ks (xs ++ ys ++ zs)
put_three {K} same ks xs ys zs = ap (λ (t : List K). insert_all same t zs) (put_both same ks xs ys) ∙ put_both same ks (xs ++ ys) zs

-- What is put in is there.

pub or_first : (a b : Bool) → a ≡ true → (a || b) ≡ true
or_first true b h = refl
or_first false b h = absurd cc

pub or_second : (a b : Bool) → b ≡ true → (a || b) ≡ true
or_second true b h = refl
or_second false b h = h

stays : {K : Type 0} (same : K → K → Bool) (x k : K) (ks : List K) → list_any (same x) ks ≡ true → list_any (same x) (insert_key same ks k) ≡ true
stays same x k ks h = by (list_any (same k) ks)
  where
    by : (b : Bool) → list_any (same x) (if b then ks else ks ++ k ∷ []) ≡ true
    by true = h
    by false = list_any-append (same x) ks (k ∷ []) ∙ or_first (list_any (same x) ks) (list_any (same x) (k ∷ [])) h

comes : {K : Type 0} (same : K → K → Bool) (k : K) (ks : List K) → same k k ≡ true → list_any (same k) (insert_key same ks k) ≡ true
comes same k ks self = by (list_any (same k) ks) refl
  where
    by : (b : Bool) → list_any (same k) ks ≡ b → list_any (same k) (if b then ks else ks ++ k ∷ []) ≡ true
    by true e = e
    by false e = list_any-append (same k) ks (k ∷ []) ∙ or_second (list_any (same k) ks) (list_any (same k) (k ∷ [])) (or_first (same k k) false self)

pub all_stay : {K : Type 0} (same : K → K → Bool) (x : K) (ks ys : List K) → list_any (same x) ks ≡ true → list_any (same x) (insert_all same ks ys) ≡ true
all_stay same x ks [] h = h
all_stay same x ks (y ∷ ys) h = all_stay same x (insert_key same ks y) ys (stays same x y ks h)

pub put_there : {K : Type 0} (same : K → K → Bool) → ((k : K) → same k k ≡ true) → (ks xs : List K) (x : K) → Among xs x → list_any (same x) (insert_all same ks xs) ≡ true
put_there same self ks [] x h = absurd cc
put_there {K} same self ks (y ∷ ys) x (inl e) = all_stay same x (insert_key same ks y) ys (subst (λ (z : K). list_any (same z) (insert_key same ks y) ≡ true) e (comes same y ks (self y)))
put_there same self ks (y ∷ ys) x (inr h) = put_there same self (insert_key same ks y) ys x h
