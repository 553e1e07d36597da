-- Lists of numbers that are the same, part by part.
use Rattle.std.proofs.Common.{◌≡◌, ◌∙◌, sym, ap, refl, ℕ, zero, suc, ◌+◌, ◌≤◌, length, arith, Bool, true, false, ◌&&◌, nat_eq, List, [], ◌∷◌, take, drop}
use Rattle.std.specs.Simd.Lanes.{chunk}
use Rattle.std.specs.Str.{bytes_eq}
use Rattle.std.proofs.Math.ListN.{drop_of_length-le}
use Rattle.std.proofs.lemmas.List.{drop-drop}

joined : (a b c : Bool) → (a && (b && c)) ≡ ((a && b) && c)
joined true b c = refl
joined false b c = refl

pub parted : (n : ℕ) (xs ys : List ℕ) → bytes_eq xs ys ≡ (bytes_eq (take n xs) (take n ys) && bytes_eq (drop n xs) (drop n ys))
parted zero xs ys = refl
parted (suc n) [] [] = refl
parted (suc n) [] (y ∷ ys) = refl
parted (suc n) (x ∷ xs) [] = refl
parted (suc n) (x ∷ xs) (y ∷ ys) = ap (λ b. nat_eq x y && b) (parted n xs ys) ∙ joined (nat_eq x y) _ _

-- eight numbers that are the same, and the rest
pub parted_at : (at n : ℕ) (xs ys : List ℕ) → bytes_eq (drop at xs) (drop at ys) ≡ (bytes_eq (chunk at n xs) (chunk at n ys) && bytes_eq (drop (at + n) xs) (drop (at + n) ys))
parted_at at n xs ys =
    parted n (drop at xs) (drop at ys)
    ∙ ap (λ t. bytes_eq (chunk at n xs) (chunk at n ys) && bytes_eq t (drop n (drop at ys))) (drop-drop n at xs)
    ∙ ap (λ t. bytes_eq (chunk at n xs) (chunk at n ys) && bytes_eq (drop (at + n) xs) t) (drop-drop n at ys)

-- where they are, the rest tells
pub told_behind : (at n : ℕ) (xs ys : List ℕ) → true ≡ bytes_eq (chunk at n xs) (chunk at n ys) → bytes_eq (drop (at + n) xs) (drop (at + n) ys) ≡ bytes_eq (drop at xs) (drop at ys)
told_behind at n xs ys same = sym (parted_at at n xs ys ∙ ap (λ b. b && bytes_eq (drop (at + n) xs) (drop (at + n) ys)) (sym same))

-- where they are not, all is not the same
pub told_here : (at n : ℕ) (xs ys : List ℕ) → false ≡ bytes_eq (chunk at n xs) (chunk at n ys) → bytes_eq (drop at xs) (drop at ys) ≡ false
told_here at n xs ys other = parted_at at n xs ys ∙ ap (λ b. b && bytes_eq (drop (at + n) xs) (drop (at + n) ys)) (sym other)

right_of : (a b : Bool) → (a && b) ≡ true → b ≡ true
right_of true b e = e
right_of false b e = absurd cc

and_false : (a : Bool) → (a && false) ≡ false
and_false true = refl
and_false false = refl

-- of 60 numbers the last four are among the last eight
pub tail_same : (xs ys : List ℕ) → length xs ≡ 60 → length ys ≡ 60 → true ≡ bytes_eq (chunk 52 8 xs) (chunk 52 8 ys) → bytes_eq (drop 56 xs) (drop 56 ys) ≡ true
tail_same xs ys long same alike =
    let none : drop 60 xs ≡ [] = (let most : length xs ≤ 60 = omega (arith, long) in drop_of_length-le xs most) in
    let none_other : drop 60 ys ≡ [] = (let most : length ys ≤ 60 = omega (arith, same) in drop_of_length-le ys most) in
    let ends : bytes_eq (drop 52 xs) (drop 52 ys) ≡ true = sym (told_behind 52 8 xs ys alike) ∙ (λ i. bytes_eq (none i) (none_other i)) in
    let four : bytes_eq (drop 4 (drop 52 xs)) (drop 4 (drop 52 ys)) ≡ true = right_of (bytes_eq (take 4 (drop 52 xs)) (take 4 (drop 52 ys))) _ (sym (parted 4 (drop 52 xs) (drop 52 ys)) ∙ ends) in
    (λ i. bytes_eq (sym (drop-drop 4 52 xs) i) (sym (drop-drop 4 52 ys) i)) ∙ four

-- where the last eight differ, all is not the same
pub other_tail : (xs ys : List ℕ) → false ≡ bytes_eq (chunk 52 8 xs) (chunk 52 8 ys) → bytes_eq xs ys ≡ false
other_tail xs ys other = parted 52 xs ys ∙ ap (λ b. bytes_eq (take 52 xs) (take 52 ys) && b) (told_here 52 8 xs ys other) ∙ and_false (bytes_eq (take 52 xs) (take 52 ys))
