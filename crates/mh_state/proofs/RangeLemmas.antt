-- A test of one number after another.
use Rattle.std.specs.Prelude.{◌≡◌, ℕ, suc, ◌+◌, ◌-◌, ◌<◌, ◌≤◌, ◌||◌, Bool, true, false}
use Rattle.std.specs.List.{list_any, range_with_len}
use Rattle.std.proofs.Common.{ap, sym, ◌∙◌, arith}

pub any_next : (f : ℕ → Bool) (i n : ℕ) → i < n → f i ≡ false → list_any f (range_with_len (i + 1) (n - (i + 1))) ≡ list_any f (range_with_len i (n - i))
any_next f i n less none =
    let next : n - i ≡ suc (n - (i + 1)) = omega arith in
    sym (ap (λ (k : ℕ). list_any f (range_with_len i k)) next ∙ ap (λ (b : Bool). b || list_any f (range_with_len (i + 1) (n - (i + 1)))) none)

pub any_here : (f : ℕ → Bool) (i n : ℕ) → i < n → f i ≡ true → list_any f (range_with_len i (n - i)) ≡ true
any_here f i n less here =
    let next : n - i ≡ suc (n - (i + 1)) = omega arith in
    ap (λ (k : ℕ). list_any f (range_with_len i k)) next ∙ ap (λ (b : Bool). b || list_any f (range_with_len (i + 1) (n - (i + 1)))) here

pub any_over : (f : ℕ → Bool) (i n : ℕ) → n ≤ i → list_any f (range_with_len i (n - i)) ≡ false
any_over f i n over =
    let none : n - i ≡ 0 = omega arith in
    ap (λ (k : ℕ). list_any f (range_with_len i k)) none
