-- The digits of a number: one more at the end, and none in front that says nothing.
use Rattle.std.proofs.Common.{◌≡◌, ℕ, zero, suc, ◌+◌, ◌*◌, ◌/◌, ◌%◌, ◌<◌, ◌≤◌, ◌^◌, List, [], ◌∷◌, ◌++◌, length, map, take, drop, get_or, sym, ◌∙◌, ap, arith, drop-cons, append_assoc, append-nil}
use Rattle.std.proofs.lemmas.List.{map-append}
use Rattle.std.proofs.Math.Nat.{mul-le-mul_left}
use Rattle.std.proofs.lemmas.Nat.{div-mul-add, mod-mul-add}
use Rattle.std.specs.Int.Digits.{digits_of, number_from_digits, number_from_digits_after, AllBelowBase}
use Rattle.std.proofs.lemmas.Int.Digits.{digits_of_step, length-digits_of_step, length-digits_of-le, number_after_ge}

-- every octet is below 256
abbrev pub AreBytes : List ℕ → Type 0
AreBytes bs = (k : ℕ) → get_or bs k 0 < 256

pub bytes_below : (bs : List ℕ) → AreBytes bs → AllBelowBase 256 bs
bytes_below [] h = tt
bytes_below (b ∷ bs) h = (h 0, bytes_below bs (λ k. h (suc k)))

pub below_bytes : (bs : List ℕ) → AllBelowBase 256 bs → AreBytes bs
below_bytes [] h k = omega arith
below_bytes (b ∷ bs) h zero = h.0
below_bytes (b ∷ bs) h (suc k) = below_bytes bs h.1 k

pub below_take : (n : ℕ) (bs : List ℕ) → AllBelowBase 256 bs → AllBelowBase 256 (take n bs)
below_take zero bs h = tt
below_take (suc n) [] h = tt
below_take (suc n) (b ∷ bs) h = (h.0, below_take n bs h.1)

pub below_drop : (n : ℕ) (bs : List ℕ) → AllBelowBase 256 bs → AllBelowBase 256 (drop n bs)
below_drop zero bs h = h
below_drop (suc n) [] h = tt
below_drop (suc n) (b ∷ bs) h = below_drop n bs h.1

pub below_front : (xs ys : List ℕ) → AllBelowBase 256 (xs ++ ys) → AllBelowBase 256 xs
below_front [] ys h = tt
below_front (x ∷ xs) ys h = (h.0, below_front xs ys h.1)

pub below_behind : (xs ys : List ℕ) → AllBelowBase 256 (xs ++ ys) → AllBelowBase 256 ys
below_behind [] ys h = h
below_behind (x ∷ xs) ys h = below_behind xs ys h.1

-- digits of base 256
pub bytes_more : (n : ℕ) → 0 < n → digits_of 256 n ≡ digits_of 256 (n / 256) ++ (n % 256 ∷ [])
bytes_more n h = digits_of_step 256 n (omega arith) h

pub count_more : (n : ℕ) → 0 < n → length (digits_of 256 n) ≡ length (digits_of 256 (n / 256)) + 1
count_more n h = length-digits_of_step 256 n (omega arith) h

pub few_bytes : (n : ℕ) → n < 2 ^ 64 → length (digits_of 256 n) ≤ 8
few_bytes n h = length-digits_of-le 256 8 n (omega arith) (omega arith)

-- more digits never make a number smaller
pub digits_past : (limit n i : ℕ) (ds : List ℕ) → i < length ds → limit ≤ n * 256 + get_or ds i 0
    → number_from_digits_after 256 n (drop i ds) ≡ number_from_digits 256 ds → limit ≤ number_from_digits 256 ds
digits_past limit n i ds within above rest =
    let here = rw (drop-cons ds i 0) at rest in
    omega (arith, here, number_after_ge 256 (n * 256 + get_or ds i 0) (drop (suc i) ds) (omega arith))

-- one more digit behind those of a number
pub digits_push : (b n d : ℕ) → 2 ≤ b → d < b → 0 < n * b + d → digits_of b (n * b + d) ≡ digits_of b n ++ (d ∷ [])
digits_push b n d base small some = rw (div-mul-add n b d small, mod-mul-add n b d small) at (digits_of_step b (n * b + d) base some)

-- the digits of the number that digits write behind those of another
digits_after : (b n : ℕ) (ds : List ℕ) → 2 ≤ b → 0 < n → AllBelowBase b ds → digits_of b (number_from_digits_after b n ds) ≡ digits_of b n ++ ds
digits_after b n [] base some h = sym (append-nil (digits_of b n))
digits_after b n (d ∷ ds) base some h =
    let more : 0 < n * b + d = omega (arith, mul-le-mul_left n base) in
    digits_after b (n * b + d) ds base more h.1
    ∙ ap (λ (front : List ℕ). front ++ ds) (digits_push b n d base h.0 more)
    ∙ append_assoc (digits_of b n) (d ∷ []) ds

-- digits of which the first is not zero are those of the number that they write
pub digits_number : (b d : ℕ) (ds : List ℕ) → 2 ≤ b → 0 < d → d < b → AllBelowBase b ds → digits_of b (number_from_digits b (d ∷ ds)) ≡ d ∷ ds
digits_number b d ds base some small h =
    let more : 0 < 0 * b + d = omega arith in
    digits_after b (0 * b + d) ds base more h ∙ ap (λ (front : List ℕ). front ++ ds) (digits_push b 0 d base small more)

-- digits of base 128
fronts_more : (n : ℕ) → 0 < n → digits_of 128 n ≡ digits_of 128 (n / 128) ++ (n % 128 ∷ [])
fronts_more n h = digits_of_step 128 n (omega arith) h

pub front_count_more : (n : ℕ) → 0 < n → length (digits_of 128 n) ≡ length (digits_of 128 (n / 128)) + 1
front_count_more n h = length-digits_of_step 128 n (omega arith) h

pub few_fronts : (n : ℕ) → n < 2 ^ 14 → length (digits_of 128 n) ≤ 2
few_fronts n h = length-digits_of-le 128 2 n (omega arith) (omega arith)

-- in front of the last digit each has its highest bit set
abbrev pub marked : ℕ → List ℕ
marked n = map (λ d. 128 + d) (digits_of 128 n)

pub marked_more : (n : ℕ) → 0 < n → marked n ≡ marked (n / 128) ++ ((128 + n % 128) ∷ [])
marked_more n h = ap (map (λ d. 128 + d)) (fronts_more n h) ∙ map-append (λ d. 128 + d) (digits_of 128 (n / 128)) (n % 128 ∷ [])

pub marked_push : (n d : ℕ) → d < 128 → 0 < n * 128 + d → marked (n * 128 + d) ≡ marked n ++ ((128 + d) ∷ [])
marked_push n d small some = ap (map (λ d. 128 + d)) (digits_push 128 n d (omega arith) small some) ∙ map-append (λ d. 128 + d) (digits_of 128 n) (d ∷ [])
