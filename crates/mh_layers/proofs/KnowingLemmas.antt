-- What the meter of known costs comes to; and prices by numbers, as the meters of costs and of nodes read them.
use Rattle.std.specs.Prelude.{◌≡◌, ℕ, ◌+◌, Bool, false, [], max, min, Result, Ok, Err, IfOk, refl}
use Rattle.std.specs.List.{list_any}
use Rattle.std.proofs.Common.{arith, ap, ◌∙◌, sym}
use Rattle.mh_laws.specs.Price.{Price, Nothing, One, Node, Plus, Most, counted_in}
use Rattle.mh_prices.specs.Meter.{Adds, onto, raise}
use Rattle.mh_prices.specs.Meters.{finding, listing}
use Rattle.mh_prices.proofs.FoundLemmas.{found_from_nothing}
use Rattle.mh_prices.proofs.KeysLemmas.{lists_from_nothing}
use Rattle.mh_layers.specs.Known.{added, knowing, known_worth, larger, top}
use Rattle.mh_layers.specs.Numbered.{numbered, through}
use Rattle.mh_layers.proofs.NamedLemmas.{known_numbered}
use Rattle.mh_layers.proofs.OntoLemmas.{through_onto}

abbrev Low : {E : Type 0} → Result ℕ E → Type 0
Low s = added s (Ok 0) ≡ s

pub join : {E : Type 0} (x y z : Result ℕ E) → added (added x y) z ≡ added x (added y z)
join (Err e) y z = refl
join (Ok a) (Err e) z = refl
join (Ok a) (Ok b) (Err e) = refl
join {E} (Ok a) (Ok b) (Ok c) = ap (λ n. Ok n) (by a b c)
  where
    by : (a b c : ℕ) → min (min (a + b) top + c) top ≡ min (a + min (b + c) top) top
    by a b c = omega arith

larger_join : {E : Type 0} (x y z : Result ℕ E) → larger (larger x y) z ≡ larger x (larger y z)
larger_join (Err e) y z = refl
larger_join (Ok a) (Err e) z = refl
larger_join (Ok a) (Ok b) (Err e) = refl
larger_join {E} (Ok a) (Ok b) (Ok c) = ap (λ n. Ok n) (by a b c)
  where
    by : (a b c : ℕ) → max (max a b) c ≡ max a (max b c)
    by a b c = omega arith

larger_none : {E : Type 0} (x : Result ℕ E) → larger (Ok 0) x ≡ x
larger_none (Err e) = refl
larger_none (Ok a) = ap (λ n. Ok n) (by a)
  where
    by : (a : ℕ) → max 0 a ≡ a
    by a = omega arith

low_added : {E : Type 0} (x y : Result ℕ E) → Low (added x y)
low_added (Err e) y = refl
low_added (Ok a) (Err e) = refl
low_added (Ok a) (Ok b) = ap (λ n. Ok n) (by a b)
  where
    by : (a b : ℕ) → min (min (a + b) top + 0) top ≡ min (a + b) top
    by a b = omega arith

spread : {E : Type 0} (x y : Result ℕ E) → added (Ok 0) (larger x y) ≡ larger (added (Ok 0) x) (added (Ok 0) y)
spread (Err e) y = refl
spread (Ok a) (Err e) = refl
spread (Ok a) (Ok b) = ap (λ n. Ok n) (by a b)
  where
    by : (a b : ℕ) → min (0 + max a b) top ≡ max (min (0 + a) top) (min (0 + b) top)
    by a b = omega arith

-- what is known is never above the largest number
pub cut : {K E : Type 0} (f : K → Result ℕ E) (p : Price K) → added (Ok 0) (known_worth f p) ≡ known_worth f p
cut f Nothing = refl
cut f One = refl
cut f (Node k) = sym (join (Ok 0) (Ok 0) (f k))
cut f (Plus p q) = sym (join (Ok 0) (known_worth f p) (known_worth f q)) ∙ (λ i. added (cut f p i) (known_worth f q))
cut f (Most p q) = spread (known_worth f p) (known_worth f q) ∙ (λ i. larger (cut f p i) (cut f q i))

record WaitOf {K E : Type 0} (f : K → Result ℕ E) (p : Price K) : Type 0 where
  sum : (s : Result ℕ E) → Low s → onto (knowing f) p s ≡ added s (known_worth f p)
  base : (b m : Result ℕ E) → (raise (knowing f) p ((b, m), Ok 0)).0.0 ≡ b
  best : (b m : Result ℕ E) → larger (raise (knowing f) p ((b, m), Ok 0)).0.1 (raise (knowing f) p ((b, m), Ok 0)).1 ≡ larger m (known_worth f p)

waits : {K E : Type 0} (f : K → Result ℕ E) (p : Price K) → WaitOf f p
waits f Nothing = record { sum = λ s low. sym low; base = λ b m. refl; best = λ b m. refl }
waits f One = record { sum = λ s low. refl; base = λ b m. refl; best = λ b m. refl }
waits {K} {E} f (Node k) = record {
  sum = λ s low. ap (λ (t : Result ℕ E). added t (f k)) (sym low) ∙ join s (Ok 0) (f k);
  base = λ b m. refl;
  best = λ b m. refl;
}
waits {K} {E} f (Plus p q) = plus (waits f p) (waits f q)
  where
    plus : WaitOf f p → WaitOf f q → WaitOf f (Plus p q)
    plus h k =
        let sums : ((s : Result ℕ E) → Low s → onto (knowing f) (Plus p q) s ≡ added s (known_worth f (Plus p q))) =
        λ s low. ap (onto (knowing f) q) (h.sum s low) ∙ k.sum (added s (known_worth f p)) (low_added s (known_worth f p)) ∙ join s (known_worth f p) (known_worth f q) in
        record { sum = sums; base = λ b m. refl; best = λ b m. ap (larger m) (sums (Ok 0) refl ∙ cut f (Plus p q)) }
waits {K} {E} f (Most p q) = most (waits f p) (waits f q)
  where
    most : WaitOf f p → WaitOf f q → WaitOf f (Most p q)
    most h k =
        let first : (onto (knowing f) p (Ok 0) ≡ known_worth f p) = h.sum (Ok 0) refl ∙ cut f p in
        record {
          sum = λ s low.
              (λ i. added (k.base s (larger (Ok 0) (onto (knowing f) p (Ok 0))) i) (k.best s (larger (Ok 0) (onto (knowing f) p (Ok 0))) i))
              ∙ (λ i. added s (larger (larger (Ok 0) (first i)) (known_worth f q)))
              ∙ (λ i. added s (larger (larger_none (known_worth f p) i) (known_worth f q)));
          base = λ b m. k.base b (larger m (onto (knowing f) p (Ok 0)));
          best = λ b m.
              k.best b (larger m (onto (knowing f) p (Ok 0)))
              ∙ (λ i. larger (larger m (first i)) (known_worth f q))
              ∙ larger_join m (known_worth f p) (known_worth f q);
        }

pub waits_from_nothing : {K E : Type 0} (f : K → Result ℕ E) (p : Price K) → onto (knowing f) p (Ok 0) ≡ known_worth f p
waits_from_nothing f p = (waits f p).sum (Ok 0) refl ∙ cut f p

-- By numbers

pub known_named : {K L E : Type 0} (g : K → L) (f : L → Result ℕ E) (p : Price K) → onto (through g (knowing f)) p (Ok 0) ≡ known_worth (λ k. f (g k)) p
known_named g f p = waits_from_nothing (λ k. f (g k)) p

pub known_numbers : {K L E : Type 0} (g : K → L) (f : L → Result ℕ E) (p : Price K) → onto (through g (knowing f)) p (Ok 0) ≡ known_worth f (numbered g p)
known_numbers g f p = known_named g f p ∙ sym (known_numbered g f p)

pub known_adds : {K L E F : Type 0} (g : K → L) (f : L → Result ℕ E) (p : Price K) (r : Result (Result ℕ E) F)
    → Adds (λ (s : Result ℕ E). s) (through g (knowing f)) p (Ok 0) r → IfOk r (λ (w : Result ℕ E). w ≡ known_worth f (numbered g p))
known_adds g f p (Ok w) h = h ∙ known_numbers g f p
known_adds g f p (Err e) h = tt

pub counted_numbers : {K L : Type 0} (g : K → L) (p : Price K) → onto (through g listing) p [] ≡ counted_in (numbered g p)
counted_numbers g p = through_onto g listing p [] ∙ lists_from_nothing (numbered g p)

pub sought_numbers : {K L : Type 0} (g : K → L) (is : L → Bool) (p : Price K) → onto (through g (finding is)) p false ≡ list_any is (counted_in (numbered g p))
sought_numbers g is p = through_onto g (finding is) p false ∙ found_from_nothing is (numbered g p)
