-- A number in decimal digits, the last one behind those of the number without it.
use Rattle.std.specs.Prelude.{◌≡◌, ℕ, ◌+◌, ◌/◌, ◌%◌, ◌<◌, ◌≤◌, ◌^◌, List, [], ◌∷◌, ◌++◌, Result, Ok, Err, OnOk}
use Rattle.std.specs.Fmt.{decimal}
use Rattle.std.proofs.Common.{ap, ◌∙◌, sym, arith, append_assoc}
use Rattle.std.proofs.lemmas.Fmt.{decimal_step, decimal_digit}

-- what follows from what is said of a success is said of it too
on_ok : {T E : Type 0} (r : Result T E) (P Q : Type 0) → (P → Q) → OnOk r P → OnOk r Q
on_ok (Ok x) P Q f p = f p
on_ok (Err e) P Q f p = tt

pub digit_behind : {T E : Type 0} (r : Result T E) (n : ℕ) (text front new : List ℕ) → 10 ≤ n → n < 2 ^ 64 → front ≡ text ++ decimal (n / 10) → OnOk r (new ≡ front ++ (48 + n % 10) ∷ []) → OnOk r (new ≡ text ++ decimal n)
digit_behind r n text front new large fits before put =
    on_ok r (new ≡ front ++ (48 + n % 10) ∷ []) (new ≡ text ++ decimal n)
    (λ e. e ∙ ap (λ (xs : List ℕ). xs ++ (48 + n % 10) ∷ []) before ∙ append_assoc text (decimal (n / 10)) ((48 + n % 10) ∷ []) ∙ ap (λ (xs : List ℕ). text ++ xs) (sym (decimal_step n large fits)))
    put

pub digit_alone : {T E : Type 0} (r : Result T E) (n : ℕ) (text front new : List ℕ) → n < 10 → front ≡ text → OnOk r (new ≡ front ++ (48 + n % 10) ∷ []) → OnOk r (new ≡ text ++ decimal n)
digit_alone r n text front new small same put =
    let whole : n % 10 ≡ n = omega (arith, small) in
    on_ok r (new ≡ front ++ (48 + n % 10) ∷ []) (new ≡ text ++ decimal n)
    (λ e. e ∙ ap (λ (xs : List ℕ). xs ++ (48 + n % 10) ∷ []) same ∙ ap (λ (d : ℕ). text ++ (48 + d) ∷ []) whole ∙ ap (λ (xs : List ℕ). text ++ xs) (sym (decimal_digit n small)))
    put
