-- A number in decimal digits: the last one behind those of the number without it, and a sign in front.
use Rattle.std.specs.Prelude.{◌≡◌, false, int_lt, ℕ, ◌+◌, ◌/◌, ◌%◌, ◌<◌, ◌≤◌, ◌^◌, ℤ, pos, negsuc, unsigned_abs, List, [], ◌∷◌, ◌++◌, Result, Ok, Err, OnOk}
use Rattle.std.specs.Fmt.{decimal, signed_decimal}
use Rattle.std.proofs.Common.{refl, ap, ◌∙◌, sym, arith, append_assoc}
use Rattle.std.proofs.lemmas.Bool.Decides.{nat_tests}
use Rattle.std.proofs.lemmas.Fmt.{decimal_step, decimal_digit}
use Rattle.mh_text.specs.Printed.{integer, sign}

-- what follows from what is said of a success is said of it too
on_ok : {T E : Type 0} (r : Result T E) (P Q : Type 0) → (P → Q) → OnOk r P → OnOk r Q
on_ok (Ok x) P Q f p = f p
on_ok (Err e) P Q f p = tt

pub digit_behind : {T E : Type 0} (r : Result T E) (n : ℕ) (text front new : List ℕ) → 10 ≤ n → n < 2 ^ 64 → front ≡ text ++ decimal (n / 10) → OnOk r (new ≡ front ++ (48 + n % 10) ∷ []) → OnOk r (new ≡ text ++ decimal n)
digit_behind r n text front new large fits before put =
    on_ok r (new ≡ front ++ (48 + n % 10) ∷ []) (new ≡ text ++ decimal n)
    (λ e. e ∙ ap (λ (xs : List ℕ). xs ++ (48 + n % 10) ∷ []) before ∙ append_assoc text (decimal (n / 10)) ((48 + n % 10) ∷ []) ∙ ap (λ (xs : List ℕ). text ++ xs) (sym (decimal_step n large fits)))
    put

pub digit_alone : {T E : Type 0} (r : Result T E) (n : ℕ) (text new : List ℕ) → n < 10 → OnOk r (new ≡ text ++ (48 + n) ∷ []) → OnOk r (new ≡ text ++ decimal n)
digit_alone r n text new small put =
    on_ok r (new ≡ text ++ (48 + n) ∷ []) (new ≡ text ++ decimal n)
    (λ e. e ∙ ap (λ (xs : List ℕ). text ++ xs) (sym (decimal_digit n small)))
    put

not_below : (n : ℕ) → int_lt (pos n) (pos 0) ≡ false
not_below n = grind (arith, nat_tests)

signed : (x : ℤ) → sign x ++ decimal (unsigned_abs x) ≡ integer x
unfolding integer
signed (pos n) = rw (not_below n) refl
signed (negsuc n) = refl

pub integer_put : {T E : Type 0} (r : Result T E) (x : ℤ) (k : ℕ) (old mid new : List ℕ) → k ≡ unsigned_abs x → mid ≡ old ++ sign x → OnOk r (new ≡ mid ++ decimal k) → OnOk r (new ≡ old ++ integer x)
integer_put r x k old mid new same front put =
    on_ok r (new ≡ mid ++ decimal k) (new ≡ old ++ integer x)
    (λ e. e ∙ ap (λ (xs : List ℕ). xs ++ decimal k) front ∙ append_assoc old (sign x) (decimal k) ∙ ap (λ (n : ℕ). old ++ (sign x ++ decimal n)) same ∙ ap (λ (xs : List ℕ). old ++ xs) (signed x))
    put
