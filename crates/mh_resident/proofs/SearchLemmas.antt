-- The first place at which a target stands is the one that a search finds.
use Rattle.std.proofs.Common.{◌≡◌, ◌≢◌, ℕ, zero, suc, ◌+◌, ◌<◌, ◌≤◌, Bool, true, false, if◌then◌else◌, List, [], ◌∷◌, take, drop, length, bytes_eq, Option, Some, None, refl, ap, ◌∙◌, sym, arith, length-take, length-drop, ⊎_elim}
use Rattle.std.proofs.lemmas.Bool.{cases_Bool, cases_eq, false≢true}
use Rattle.std.proofs.lemmas.Slice.Eq.{bytes_eq-Decides}
use Rattle.std.specs.Option.{option_map}
use Rattle.memchr.specs.Find.{FindsNeedle, OccursAt}
use Rattle.memchr.proofs.lemmas.MatchLemmas.{OccursAt-part, OccursAt-from_part}
use Rattle.mh_model.specs.Programs.{searched}

-- the target stands behind so many octets
abbrev pub Stands : List ℕ → List ℕ → ℕ → Type 0
Stands what os n = take (length what) (drop n os) ≡ what

here : (what : List ℕ) (c : ℕ) (cs : List ℕ) (b : Bool) → b ≡ true → (if b then Some 0 else option_map suc (searched what cs)) ≡ Some 0
here what c cs true e = refl
here what c cs false e = absurd (false≢true e)

passed : (what : List ℕ) (c : ℕ) (cs : List ℕ) (b : Bool) → b ≡ false → (if b then Some 0 else option_map suc (searched what cs)) ≡ option_map suc (searched what cs)
passed what c cs false e = refl
passed what c cs true e = absurd (false≢true (sym e))

-- it stands not at the front
apart : (what os : List ℕ) → take (length what) os ≢ what → bytes_eq (take (length what) os) what ≡ false
apart what os differs = ⊎_elim (λ yes. absurd (differs ((bytes_eq-Decides _ what).0 yes))) (λ is. is) (cases_Bool (bytes_eq (take (length what) os) what))

nowhere : (what os : List ℕ) → ((k : ℕ) → k < length os → ¬ Stands what os k) → searched what os ≡ None
nowhere what [] none = refl
nowhere what (c ∷ cs) none =
    passed what c cs _ (apart what (c ∷ cs) (none 0 (omega arith)))
    ∙ ap (option_map suc) (nowhere what cs (λ k l. none (suc k) (omega (arith, l))))

first : (what os : List ℕ) (n : ℕ) → n < length os → ((k : ℕ) → k < n → ¬ Stands what os k) → Stands what os n → searched what os ≡ Some n
first what [] n l none is = absurd (omega (arith, l))
first what (c ∷ cs) zero l none is = here what c cs _ ((bytes_eq-Decides _ what).1 is)
first what (c ∷ cs) (suc n) l none is =
    passed what c cs _ (apart what (c ∷ cs) (none 0 (omega arith)))
    ∙ ap (option_map suc) (first what cs n (omega (arith, l)) (λ k m. none (suc k) (omega (arith, m))) is)

-- where it stands it fits
occurs : (what os : List ℕ) (k : ℕ) → k < length os → Stands what os k → OccursAt os what k
occurs what os k l is =
    let cut = sym (length-take (length what) (drop k os)) ∙ ap length is in
    OccursAt-from_part os what k (omega (arith, l, cut, length-drop k os)) is

-- a target without octets stands in front of the first one
inside : (what os : List ℕ) (n : ℕ) → 0 < length os → ((k : ℕ) → k < n → ¬ OccursAt os what k) → n + length what ≤ length os → n < length os
inside what os n some none fits =
    ⊎_elim
    (λ end. absurd (none 0 (omega (arith, end, some)) (record { fits = omega (arith, end, fits); reads = λ j l. absurd (omega (arith, end, fits, l)) })))
    (λ other. omega (arith, other, fits))
    (cases_eq n (length os))

pub is_searched : (what os : List ℕ) (r : Option ℕ) → 0 < length os → FindsNeedle os what 0 r → r ≡ searched what os
is_searched what os None some h = sym (nowhere what os (λ k l is. h k (omega arith) (omega (arith, l)) (occurs what os k l is)))
is_searched what os (Some n) some h =
    let before = λ (k : ℕ) (l : k < n). h.0.before k (omega arith) l in
    let low = inside what os n some before h.1.fits in
    sym (first what os n low (λ k l is. before k l (occurs what os k (omega (arith, l, low)) is)) (OccursAt-part os what n h.1))
