-- A message in its frame is read as that message.
use Rattle.std.specs.Prelude.{◌≡◌, ℕ, suc, ◌+◌, ◌-◌, ◌<◌, ◌≤◌, ◌^◌, ◌==◌, nat_le, nat_lt, Bool, true, false, cond, ◌&&◌, ◌||◌, not, if◌then◌else◌, List, [], ◌∷◌, ◌++◌, decimal, drop, length, position, take, Option, Some, None, refl}
use Rattle.std.specs.List.{list_all, position_or_len, prefix_len}
use Rattle.std.proofs.Common.{ap, ◌∙◌, arith, rules, append_assoc, length-append}
use Rattle.std.proofs.lemmas.Bool.Decides.{nat_tests}
use Rattle.std.proofs.lemmas.Fmt.{decimal_nonempty, digits_decimal, digits_value-decimal}
use Rattle.std.proofs.lemmas.Str.Parse.{IsNumeralModel, numerals_by_fold}
use Rattle.mh_protocol.specs.declared.frame.TheConstants.{HEAD_END, LARGEST_MESSAGE, LENGTH_NAME, MOST_LINES}
use Rattle.mh_protocol.specs.declared.frame.Frame.TheVariants as frame
use Rattle.mh_protocol.specs.declared.head.Head.TheVariants as head
use Rattle.mh_protocol.specs.declared.head.Line.TheVariants as line
use Rattle.mh_protocol.specs.declared.head.Step.TheVariants as step_is
use Rattle.mh_protocol.specs.Heads.{after, head_in, is_digit, is_feed, is_space, line_of, number_behind, number_of, step, step_by, taken, told}
use Rattle.mh_protocol.specs.Frames.{FramesReadBack, frame_behind, frame_in, head_text}

-- LISTS

take_front : (xs ys : List ℕ) → take (length xs) (xs ++ ys) ≡ xs
take_front [] ys = refl
take_front (x ∷ xs) ys = ap (λ zs. x ∷ zs) (take_front xs ys)

drop_front : (xs ys : List ℕ) → drop (length xs) (xs ++ ys) ≡ ys
drop_front [] ys = refl
drop_front (x ∷ xs) ys = drop_front xs ys

drop_line : (xs : List ℕ) (y : ℕ) (ys : List ℕ) → drop (length xs + 1) (xs ++ y ∷ ys) ≡ ys
drop_line xs y ys = ap (λ (n : ℕ). drop n (xs ++ y ∷ ys)) (one (length xs)) ∙ further xs
  where
    one : (n : ℕ) → n + 1 ≡ suc n
    one n = omega arith

    further : (zs : List ℕ) → drop (suc (length zs)) (zs ++ y ∷ ys) ≡ ys
    further [] = refl
    further (z ∷ zs) = further zs

-- how far the first that passes stands

front_size : (p : ℕ → Bool) (xs : List ℕ) (y : ℕ) (ys : List ℕ) → list_all p xs ≡ true → p y ≡ false → prefix_len p (xs ++ y ∷ ys) ≡ length xs
front_size p [] y ys all ends = ap (λ (b : Bool). cond b (1 + prefix_len p ys) 0) ends
front_size p (x ∷ xs) y ys all ends = by (p x) (λ rest. front_size p xs y ys rest ends) all
  where
    one : (n : ℕ) → 1 + n ≡ suc n
    one n = omega arith

    by : (b : Bool) → (list_all p xs ≡ true → prefix_len p (xs ++ y ∷ ys) ≡ length xs) → (b && list_all p xs) ≡ true → cond b (1 + prefix_len p (xs ++ y ∷ ys)) 0 ≡ suc (length xs)
    by true further rest = ap (λ (n : ℕ). 1 + n) (further rest) ∙ one (length xs)
    by false further rest = absurd cc

passes_not : (b : Bool) → b ≡ true → not b ≡ false
passes_not true is = refl
passes_not false is = absurd cc

below_more : (n m : ℕ) → nat_lt n (n + suc m) ≡ true
below_more n m = grind (arith, nat_tests)

found_at : (p : ℕ → Bool) (xs : List ℕ) (y : ℕ) (ys : List ℕ) → list_all (λ x. not (p x)) xs ≡ true → p y ≡ true → position p (xs ++ y ∷ ys) ≡ Some (length xs)
found_at p xs y ys none is =
    let here : position_or_len p (xs ++ y ∷ ys) ≡ length xs = front_size (λ x. not (p x)) xs y ys none (passes_not (p y) is) in
    let within : nat_lt (length xs) (length (xs ++ y ∷ ys)) ≡ true = ap (nat_lt (length xs)) (length-append xs (y ∷ ys)) ∙ below_more (length xs) (length ys) in
    ap (λ (n : ℕ). cond (nat_lt n (length (xs ++ y ∷ ys))) (Some n) None) here
    ∙ ap (λ (b : Bool). cond b (Some (length xs)) None) within

-- DIGITS

and_first : (x y : Bool) → (x && y) ≡ true → x ≡ true
and_first true y is = refl
and_first false y is = absurd cc

and_second : (x y : Bool) → (x && y) ≡ true → y ≡ true
and_second true y is = is
and_second false y is = absurd cc

both : (x y : Bool) → x ≡ true → y ≡ true → (x && y) ≡ true
both true y is also = also
both false y is also = absurd cc

own : IsNumeralModel (λ ds. list_all is_digit ds ≡ true) (number_behind 0)
own = numerals_by_fold _ (search rules) number_behind (search rules)

no_space : (d : ℕ) → is_digit d ≡ true → is_space d ≡ false
no_space d is = grind (arith, nat_tests)

no_feed : (d : ℕ) → is_digit d ≡ true → not (is_feed d) ≡ true
no_feed d is = grind (arith, nat_tests)

feedless : (ds : List ℕ) → list_all is_digit ds ≡ true → list_all (λ b. not (is_feed b)) (ds ++ 13 ∷ []) ≡ true
feedless [] all = refl
feedless (d ∷ ds) all =
    both (not (is_feed d)) (list_all (λ b. not (is_feed b)) (ds ++ 13 ∷ [])) (no_feed d (and_first (is_digit d) (list_all is_digit ds) all))
    (feedless ds (and_second (is_digit d) (list_all is_digit ds) all))

spaceless : (ds ys : List ℕ) → 0 < length ds → list_all is_digit ds ≡ true → prefix_len is_space (ds ++ ys) ≡ 0
spaceless [] ys some all = absurd (omega (arith, some))
spaceless (d ∷ ds) ys some all = ap (λ (b : Bool). cond b (1 + prefix_len is_space (ds ++ ys)) 0) (no_space d (and_first (is_digit d) (list_all is_digit ds) all))

-- THE NUMBER OF A HEADER

abbrev by_value : ℕ → Option ℕ
by_value v = if nat_le v 2147483648 then Some v else None

abbrev by_size : List ℕ → ℕ → Option ℕ
by_size ds n = if n == 0 || not (list_all is_space (drop n ds)) then None else by_value (number_behind 0 (take n ds))

not_none : (n : ℕ) → 0 < n → (n == 0) ≡ false
not_none n some = grind (arith, nat_tests)

sized : (ds : List ℕ) (n : ℕ) → 0 < length ds → number_behind 0 ds ≡ n → nat_le n 2147483648 ≡ true → by_size (ds ++ 13 ∷ []) (length ds) ≡ Some n
sized ds n some is small =
    ap (λ (zs : List ℕ). if length ds == 0 || not (list_all is_space zs) then None else by_value (number_behind 0 (take (length ds) (ds ++ 13 ∷ [])))) (drop_front ds (13 ∷ []))
    ∙ ap (λ (b : Bool). if b || not (list_all is_space (13 ∷ [])) then None else by_value (number_behind 0 (take (length ds) (ds ++ 13 ∷ [])))) (not_none (length ds) some)
    ∙ ap (λ (zs : List ℕ). by_value (number_behind 0 zs)) (take_front ds (13 ∷ []))
    ∙ ap by_value is
    ∙ ap (λ (b : Bool). if b then Some n else None) small

number_told : (ds : List ℕ) (n : ℕ) → 0 < length ds → list_all is_digit ds ≡ true → number_behind 0 ds ≡ n → nat_le n 2147483648 ≡ true
    → number_of (32 ∷ (ds ++ 13 ∷ [])) ≡ Some n
unfolding number_of
number_told ds n some all is small =
    ap (λ (k : ℕ). by_size (drop (1 + k) (32 ∷ (ds ++ 13 ∷ []))) (prefix_len is_digit (drop (1 + k) (32 ∷ (ds ++ 13 ∷ []))))) (spaceless ds (13 ∷ []) some all)
    ∙ ap (by_size (ds ++ 13 ∷ [])) (front_size is_digit ds 13 [] all refl)
    ∙ sized ds n some is small

-- A HEADER

abbrev line_for : List ℕ → List ℕ
line_for ds = LENGTH_NAME.now ++ ds ++ 13 ∷ []

line_told : (ds : List ℕ) (n : ℕ) → number_of (32 ∷ (ds ++ 13 ∷ [])) ≡ Some n → line_of (line_for ds) ≡ line.Length n
unfolding line_of
line_told ds n is = ap told is

first_line : (ds z : List ℕ) (n : ℕ) → list_all is_digit ds ≡ true → number_of (32 ∷ (ds ++ 13 ∷ [])) ≡ Some n
    → step None (line_for ds ++ 10 ∷ z) ≡ step_is.On (length (line_for ds) + 1) (Some n)
unfolding step
first_line ds z n all is =
    ap (step_by None (line_for ds ++ 10 ∷ z)) (found_at is_feed (line_for ds) 10 z (feedless ds all) refl)
    ∙ ap (λ (l : List ℕ). taken None (length (line_for ds) + 1) (length (drop (length (line_for ds) + 1) (line_for ds ++ 10 ∷ z))) (line_of l))
    (take_front (line_for ds) (10 ∷ z))
    ∙ ap (taken None (length (line_for ds) + 1) (length (drop (length (line_for ds) + 1) (line_for ds ++ 10 ∷ z)))) (line_told ds n is)

second_line : (n : ℕ) (w : List ℕ) → step (Some n) (13 ∷ 10 ∷ w) ≡ step_is.Done (head.Ends (length w) n)
unfolding step line_of
second_line n w = ap (step_by (Some n) (13 ∷ 10 ∷ w)) (found_at is_feed (13 ∷ []) 10 w refl refl)

header : (ds w : List ℕ) (n : ℕ) → list_all is_digit ds ≡ true → number_of (32 ∷ (ds ++ 13 ∷ [])) ≡ Some n
    → head_in MOST_LINES None (line_for ds ++ 10 ∷ 13 ∷ 10 ∷ w) ≡ head.Ends (length w) n
header ds w n all is =
    ap (after (head_in 15) (line_for ds ++ 10 ∷ 13 ∷ 10 ∷ w)) (first_line ds (13 ∷ 10 ∷ w) n all is)
    ∙ ap (head_in 15 (Some n)) (drop_line (line_for ds) 10 (13 ∷ 10 ∷ w))
    ∙ ap (after (head_in 14) (13 ∷ 10 ∷ w)) (second_line n w)

-- ALL

shape : (xs body rest : List ℕ) → xs ++ HEAD_END.now ++ body ++ rest ≡ (xs ++ 13 ∷ []) ++ 10 ∷ 13 ∷ 10 ∷ (body ++ rest)
shape [] body rest = refl
shape (x ∷ xs) body rest = ap (λ ys. x ∷ ys) (shape xs body rest)

whole : (all s left n : ℕ) → nat_lt LARGEST_MESSAGE n ≡ false → nat_lt left n ≡ false → all - left ≡ s → frame_behind all (head.Ends left n) ≡ frame.Whole s n
whole all s left n small there is =
    ap (λ (b : Bool). if b then frame.Large (all - left) n else (if nat_lt left n then frame.More else frame.Whole (all - left) n)) small
    ∙ ap (λ (b : Bool). if b then frame.More else frame.Whole (all - left) n) there
    ∙ ap (λ (k : ℕ). frame.Whole k n) is

not_below : (n m : ℕ) → m ≤ n → nat_lt n m ≡ false
not_below n m most = grind (arith, nat_tests)

small_number : (n : ℕ) → n ≤ LARGEST_MESSAGE → nat_le n 2147483648 ≡ true
small_number n most = grind (arith, nat_tests)

fits : (n : ℕ) → n ≤ LARGEST_MESSAGE → n < 2 ^ 64
fits n most = omega (arith, most)

pub framed_reads : FramesReadBack
unfolding frame_in head_text
framed_reads body rest most =
    let n = length body in
    let ds = decimal n in
    let all : list_all is_digit ds ≡ true = digits_decimal own n (fits n most) in
    let is : number_of (32 ∷ (ds ++ 13 ∷ [])) ≡ Some n =
    number_told ds n (decimal_nonempty n (fits n most)) all (digits_value-decimal own n (fits n most)) (small_number n most) in
    let bs = head_text n ++ body ++ rest in
    let sizes : length bs ≡ length (head_text n) + (length body + length rest) =
    ap length (append_assoc (head_text n) body rest) ∙ length-append (head_text n) (body ++ rest) ∙ ap (λ (k : ℕ). length (head_text n) + k) (length-append body rest) in
    let left : length (body ++ rest) ≡ length body + length rest = length-append body rest in
    let size : length bs - length (body ++ rest) ≡ length (head_text n) = omega (arith, sizes, left) in
    ap (λ (xs : List ℕ). frame_behind (length bs) (head_in MOST_LINES None xs)) (shape (LENGTH_NAME.now ++ ds) body rest)
    ∙ ap (frame_behind (length bs)) (header ds (body ++ rest) n all is)
    ∙ whole (length bs) (length (head_text n)) (length (body ++ rest)) n (not_below LARGEST_MESSAGE n most) (not_below (length (body ++ rest)) n (omega (arith, left))) size
