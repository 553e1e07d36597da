-- What holds of each of a list, and what a filter keeps.
use Rattle.std.specs.Prelude.{◌≡◌, Bool, true, false, cond, List, [], ◌∷◌, filter, refl}
use Rattle.std.specs.List.{AllByRecursion}
use Rattle.std.proofs.Common.{ap}

pub all_mapped : {X : Type 0} (P Q : X → Type 0) (l : List X) → ((x : X) → P x → Q x) → AllByRecursion P l → AllByRecursion Q l
all_mapped P Q [] f all = all
all_mapped P Q (x ∷ xs) f all = (f x all.0, all_mapped P Q xs f all.1)

pub all_joined : {X : Type 0} (P Q : X → Type 0) (l : List X) → AllByRecursion P l → AllByRecursion Q l → AllByRecursion (λ x. P x × Q x) l
all_joined P Q [] one two = one
all_joined P Q (x ∷ xs) one two = ((one.0, two.0), all_joined P Q xs one.1 two.1)

pub all_filter : {X : Type 0} (P : X → Type 0) (p : X → Bool) (l : List X) → AllByRecursion P l → AllByRecursion P (filter p l)
all_filter P p [] all = all
all_filter P p (x ∷ xs) all = by (p x) (all_filter P p xs all.1)
  where
    by : (b : Bool) → AllByRecursion P (filter p xs) → AllByRecursion P (cond b (x ∷ filter p xs) (filter p xs))
    by true rest = (all.0, rest)
    by false rest = rest

pub all_kept : {X : Type 0} (P : X → Type 0) (p : X → Bool) (l : List X) → AllByRecursion (λ x. p x ≡ true → P x) l → AllByRecursion P (filter p l)
all_kept P p [] all = all
all_kept P p (x ∷ xs) all = by (all_kept P p xs all.1) (p x) refl
  where
    by : AllByRecursion P (filter p xs) → (b : Bool) → p x ≡ b → AllByRecursion P (cond b (x ∷ filter p xs) (filter p xs))
    by rest true is = (all.0 is, rest)
    by rest false is = rest

pub filter_whole : {X : Type 0} (p : X → Bool) (l : List X) → AllByRecursion (λ x. p x ≡ true) l → filter p l ≡ l
filter_whole p [] all = refl
filter_whole {X} p (x ∷ xs) all = rw all.0 (ap (λ (l : List X). x ∷ l) (filter_whole p xs all.1))

pub filter_none : {X : Type 0} (p : X → Bool) (l : List X) → AllByRecursion (λ x. p x ≡ false) l → filter p l ≡ []
filter_none p [] none = refl
filter_none p (x ∷ xs) none = rw none.0 (filter_none p xs none.1)

-- where two tests answer alike, they keep the same
pub filter_alike : {X : Type 0} (p q : X → Bool) (l : List X) → AllByRecursion (λ x. p x ≡ q x) l → filter p l ≡ filter q l
filter_alike p q [] all = refl
filter_alike p q (x ∷ xs) all = rw all.0 (ap (λ l. cond (q x) (x ∷ l) l) (filter_alike p q xs all.1))
