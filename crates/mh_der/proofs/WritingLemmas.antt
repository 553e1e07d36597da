-- Elements whose length is written when their contents stand.
use Rattle.std.proofs.Common.{◌≡◌, ℕ, zero, suc, ◌+◌, ◌-◌, ◌/◌, ◌%◌, ◌<◌, ◌≤◌, Bool, true, false, ◌||◌, ◌==◌, nat_lt, List, [], ◌∷◌, ◌++◌, length, take, drop, slice_set, insert, Result, Ok, Err, OnOk, refl, sym, ◌∙◌, ap, subst, arith, append_assoc, length-append}
use Rattle.std.proofs.lemmas.Bool.Decides.{nat_tests}
use Rattle.std.proofs.Math.Seq.{take-append_seam}
use Rattle.std.specs.Int.Digits.{digits_of}
use Rattle.mh_der.specs.declared.tag.Tag.{Tag}
use Rattle.mh_der.specs.Element.{element, identifier, length_octets, begun, ended}
use Rattle.mh_der.proofs.DigitLemmas.{bytes_more}
use Rattle.mh_der.proofs.LengthLemmas.{drop_seam, octets_short, octets_long}

-- an octet in place of another
put_there : (i : ℕ) (xs : List ℕ) (x : ℕ) → i < length xs → slice_set xs i x ≡ take i xs ++ (x ∷ drop (suc i) xs)
put_there i [] x within = absurd (omega (arith, within))
put_there zero (y ∷ ys) x within = refl
put_there (suc i) (y ∷ ys) x within = ap (λ (l : List ℕ). y ∷ l) (put_there i ys x (omega (arith, within)))

-- the same list, cut behind the octet
pub put_before : (i : ℕ) (xs : List ℕ) (x : ℕ) → i < length xs → take (suc i) (slice_set xs i x) ≡ take i xs ++ (x ∷ [])
put_before i [] x within = absurd (omega (arith, within))
put_before zero (y ∷ ys) x within = refl
put_before (suc i) (y ∷ ys) x within = ap (λ (l : List ℕ). y ∷ l) (put_before i ys x (omega (arith, within)))

pub put_behind : (i : ℕ) (xs : List ℕ) (x : ℕ) → drop (suc i) (slice_set xs i x) ≡ drop (suc i) xs
put_behind i [] x = refl
put_behind zero (y ∷ ys) x = refl
put_behind (suc i) (y ∷ ys) x = put_behind i ys x

insert_before : (i : ℕ) (xs : List ℕ) (x : ℕ) → i ≤ length xs → take i (insert xs i x) ≡ take i xs
insert_before zero xs x within = refl
insert_before (suc i) [] x within = absurd (omega (arith, within))
insert_before (suc i) (y ∷ ys) x within = ap (λ (l : List ℕ). y ∷ l) (insert_before i ys x (omega (arith, within)))

insert_behind : (i : ℕ) (xs : List ℕ) (x : ℕ) → i ≤ length xs → drop i (insert xs i x) ≡ x ∷ drop i xs
insert_behind zero xs x within = refl
insert_behind (suc i) [] x within = absurd (omega (arith, within))
insert_behind (suc i) (y ∷ ys) x within = insert_behind i ys x (omega (arith, within))

-- the last digit goes in first, and the others in front of it
pub digits_inserted : (i n : ℕ) (xs new : List ℕ) → i ≤ length xs → 0 < n
    → new ≡ take i (insert xs i (n % 256)) ++ (digits_of 256 (n / 256) ++ drop i (insert xs i (n % 256)))
    → new ≡ take i xs ++ (digits_of 256 n ++ drop i xs)
digits_inserted i n xs new within some made =
    let last = n % 256 in
    let front : List ℕ = digits_of 256 (n / 256) in
    made
    ∙ ap (λ (l : List ℕ). l ++ (front ++ drop i (insert xs i last))) (insert_before i xs last within)
    ∙ ap (λ (l : List ℕ). take i xs ++ (front ++ l)) (insert_behind i xs last within)
    ∙ ap (λ (l : List ℕ). take i xs ++ l) (sym (append_assoc front (last ∷ []) (drop i xs)))
    ∙ ap (λ (l : List ℕ). take i xs ++ (l ++ drop i xs)) (sym (bytes_more n some))

inserted_at : (i n : ℕ) (xs set new : List ℕ) → suc i ≤ length xs → 127 < n
    → set ≡ slice_set xs i (128 + length (digits_of 256 n))
    → new ≡ take (suc i) set ++ (digits_of 256 n ++ drop (suc i) set)
    → new ≡ take i xs ++ (length_octets n ++ drop (suc i) xs)
inserted_at i n xs set new within long put made =
    let ds : List ℕ = digits_of 256 n in
    let count = 128 + length ds in
    made
    ∙ ap (λ (l : List ℕ). take (suc i) l ++ (ds ++ drop (suc i) l)) put
    ∙ ap (λ (l : List ℕ). l ++ (ds ++ drop (suc i) (slice_set xs i count))) (put_before i xs count (omega (arith, within)))
    ∙ ap (λ (l : List ℕ). (take i xs ++ (count ∷ [])) ++ (ds ++ l)) (put_behind i xs count)
    ∙ append_assoc (take i xs) (count ∷ []) (ds ++ drop (suc i) xs)
    ∙ ap (λ (l : List ℕ). take i xs ++ (l ++ drop (suc i) xs)) (sym (octets_long n (omega (arith, long))))

same_place : (start : ℕ) → 0 < start → suc (start - 1) ≡ start
same_place start some = omega (arith, some)

-- the count of the digits in place of an octet, and the digits behind it
pub length_inserted : (start n : ℕ) (xs set new : List ℕ) → 0 < start → start ≤ length xs → 127 < n
    → set ≡ slice_set xs (start - 1) (128 + length (digits_of 256 n))
    → new ≡ take start set ++ (digits_of 256 n ++ drop start set)
    → new ≡ take (start - 1) xs ++ (length_octets n ++ drop start xs)
length_inserted start n xs set new some within long put =
    subst (λ (s : ℕ). s ≤ length xs → new ≡ take s set ++ (digits_of 256 n ++ drop s set) → new ≡ take (start - 1) xs ++ (length_octets n ++ drop s xs))
    (same_place start some)
    (λ w made. inserted_at (start - 1) n xs set new w long put made)
    within

is_begun : (start n : ℕ) → 0 < start → start ≤ n → (start == 0 || nat_lt n start) ≡ false
is_begun start n some within = grind (arith, nat_tests)

pub ended_at_zero : (start : ℕ) (xs : List ℕ) → start ≡ 0 → ended start xs ≡ xs
unfolding ended
ended_at_zero start xs none = rw none refl

is_past : (start n : ℕ) → n < start → (start == 0 || nat_lt n start) ≡ true
is_past start n past = grind (arith, nat_tests)

pub ended_past : (start : ℕ) (xs : List ℕ) → length xs < start → ended start xs ≡ xs
unfolding ended
ended_past start xs past = rw (is_past start (length xs) past) refl

pub ended_is : (start : ℕ) (xs : List ℕ) → 0 < start → start ≤ length xs → ended start xs ≡ take (start - 1) xs ++ (length_octets (length xs - start) ++ drop start xs)
unfolding ended
ended_is start xs some within = rw (is_begun start (length xs) some within) refl

short_at : (i n : ℕ) (xs : List ℕ) → suc i ≤ length xs → n < 128 → slice_set xs i n ≡ take i xs ++ (length_octets n ++ drop (suc i) xs)
short_at i n xs within short =
    put_there i xs n (omega (arith, within))
    ∙ ap (λ (l : List ℕ). take i xs ++ (l ++ drop (suc i) xs)) (sym (octets_short n short))

-- a length of one octet in place of another
pub ended_short : (start n : ℕ) (xs : List ℕ) → 0 < start → start ≤ length xs → n ≡ length xs - start → n < 128 → slice_set xs (start - 1) n ≡ ended start xs
ended_short start n xs some within size short =
    subst (λ (s : ℕ). s ≤ length xs → slice_set xs (start - 1) n ≡ take (start - 1) xs ++ (length_octets n ++ drop s xs))
    (same_place start some) (λ w. short_at (start - 1) n xs w short) within
    ∙ ap (λ (k : ℕ). take (start - 1) xs ++ (length_octets k ++ drop start xs)) size
    ∙ sym (ended_is start xs some within)

-- What was begun, with its contents behind it, ends as the element.
pub ended_begun : (before : List ℕ) (t : Tag) (contents : List ℕ) → ended (length (before ++ begun t)) ((before ++ begun t) ++ contents) ≡ before ++ element t contents
unfolding begun element
ended_begun before t contents =
    let front : List ℕ = before ++ identifier t in
    let head : List ℕ = before ++ (identifier t ++ (0 ∷ [])) in
    let same : head ≡ front ++ (0 ∷ []) = sym (append_assoc before (identifier t) (0 ∷ [])) in
    let long : length head ≡ length front + 1 = ap length same ∙ length-append front (0 ∷ []) in
    let whole = length-append head contents in
    let n : length (head ++ contents) - length head ≡ length contents = omega (arith, whole) in
    let cut : take (length head - 1) (head ++ contents) ≡ front =
    let less : length head - 1 ≡ length front = omega (arith, long) in
    ap (λ (k : ℕ). take k (head ++ contents)) less
    ∙ ap (λ (l : List ℕ). take (length front) (l ++ contents)) same
    ∙ ap (λ (l : List ℕ). take (length front) l) (append_assoc front (0 ∷ []) contents)
    ∙ take-append_seam front ((0 ∷ []) ++ contents) in
    ended_is (length head) (head ++ contents) (omega (arith, long)) (omega (arith, whole))
    ∙ ap (λ (l : List ℕ). l ++ (length_octets (length (head ++ contents) - length head) ++ drop (length head) (head ++ contents))) cut
    ∙ ap (λ (k : ℕ). front ++ (length_octets k ++ drop (length head) (head ++ contents))) n
    ∙ ap (λ (l : List ℕ). front ++ (length_octets (length contents) ++ l)) (drop_seam head contents)
    ∙ append_assoc before (identifier t) (length_octets (length contents) ++ contents)

-- what follows from what is said of a success is said of it too
on_ok : {T E : Type 0} (r : Result T E) (P Q : Type 0) → (P → Q) → OnOk r P → OnOk r Q
on_ok (Ok x) P Q f p = f p
on_ok (Err e) P Q f p = tt

-- a length that was put in is one that ends the element
pub on_ended : {T E : Type 0} (start n : ℕ) (xs new : List ℕ) (r : Result T E) → 0 < start → start ≤ length xs → n ≡ length xs - start
    → OnOk r (new ≡ take (start - 1) xs ++ (length_octets n ++ drop start xs)) → OnOk r (new ≡ ended start xs)
on_ended start n xs new r some within size put =
    on_ok r (new ≡ take (start - 1) xs ++ (length_octets n ++ drop start xs)) (new ≡ ended start xs)
    (λ made. made ∙ ap (λ (k : ℕ). take (start - 1) xs ++ (length_octets k ++ drop start xs)) size ∙ sym (ended_is start xs some within)) put
