-- The comments of a text are those of its lines, one behind the other, whatever blanks stand in front of these.
use Rattle.std.proofs.Common.{◌≡◌, ℕ, suc, ◌+◌, Bool, true, false, cond, ◌&&◌, ◌||◌, not, ◌==◌, if◌then◌else◌, List, [], ◌∷◌, ◌++◌, take, Option, Some, None, refl, ap, ap₂, sym, ◌∙◌, arith}
use Rattle.std.specs.List.{list_any, prefix_len}
use Rattle.std.proofs.lemmas.Bool.Decides.{nat_tests}
use Rattle.std.proofs.lemmas.Bool.{or_parts}
use Rattle.mh_text.specs.Bytes.{begins_with}
use Rattle.mh_text.specs.Words.{IsLine}
use Rattle.mh_edit.specs.Layout.{comments_in, first_line, is_blank, is_no_feed, mark_of}
use Rattle.mh_edit.proofs.WordLines.{line_behind}

one : (n : ℕ) → 1 + n ≡ suc n
one n = omega arith

or_true : (b : Bool) → (b || true) ≡ true
or_true true = refl
or_true false = refl

begins_same : (l rest : List ℕ) → begins_with 47 (l ++ 10 ∷ rest) ≡ begins_with 47 l
begins_same [] rest = refl
begins_same (b ∷ l) rest = refl

first_more : (b : ℕ) (bs : List ℕ) → is_no_feed b ≡ true → first_line (b ∷ bs) ≡ b ∷ first_line bs
first_more b bs is =
    ap (λ (t : Bool). take (cond t (1 + prefix_len is_no_feed bs) 0) (b ∷ bs)) is
    ∙ ap (λ (n : ℕ). take n (b ∷ bs)) (one (prefix_len is_no_feed bs))

line_same : (l rest : List ℕ) → IsLine l → first_line (l ++ 10 ∷ rest) ≡ first_line l
line_same [] rest line = refl
line_same (b ∷ l) rest line =
    let no : is_no_feed b ≡ true = ap not (or_parts (b == 10) (list_any (λ c. c == 10) l) line).0 in
    first_more b (l ++ 10 ∷ rest) no ∙ ap (λ (xs : List ℕ). b ∷ xs) (line_same l rest (line_behind b l line)) ∙ sym (first_more b l no)

either : (t : Bool) (x y : List ℕ) (a b c d rest : List (List ℕ)) → x ≡ y → a ≡ c ++ rest → b ≡ d ++ rest
    → (if t then x ∷ a else b) ≡ (if t then y ∷ c else d) ++ rest
either true x y a b c d rest is front behind = ap₂ (λ (v : List ℕ) (vs : List (List ℕ)). v ∷ vs) is front
either false x y a b c d rest is front behind = behind

pub joined : (m : Option ℕ) (l rest : List ℕ) → IsLine l → comments_in m (l ++ 10 ∷ rest) ≡ comments_in m l ++ comments_in None rest
joined None [] rest line = refl
joined (Some m) [] rest line = ap (λ (t : Bool). comments_in (if t then None else Some m) rest) (or_true (10 == m))
joined None (b ∷ l) rest line =
    ap (λ (t : Bool). if b == 47 && t then first_line (b ∷ (l ++ 10 ∷ rest)) ∷ comments_in (Some 10) (l ++ 10 ∷ rest) else comments_in (mark_of b) (l ++ 10 ∷ rest))
    (begins_same l rest)
    ∙ either (b == 47 && begins_with 47 l) (first_line (b ∷ (l ++ 10 ∷ rest))) (first_line (b ∷ l)) (comments_in (Some 10) (l ++ 10 ∷ rest))
    (comments_in (mark_of b) (l ++ 10 ∷ rest)) (comments_in (Some 10) l) (comments_in (mark_of b) l) (comments_in None rest)
    (line_same (b ∷ l) rest line) (joined (Some 10) l rest (line_behind b l line)) (joined (mark_of b) l rest (line_behind b l line))
joined (Some m) (b ∷ l) rest line = joined (if b == m || b == 10 then None else Some m) l rest (line_behind b l line)

blank_no_slash : (b : ℕ) → is_blank b ≡ true → (b == 47) ≡ false
blank_no_slash b is = grind (arith, nat_tests)

blank_no_mark : (b : ℕ) → is_blank b ≡ true → (b == 34 || b == 39) ≡ false
blank_no_mark b is = grind (arith, nat_tests)

pub blank_passed : (b : ℕ) (l : List ℕ) → is_blank b ≡ true → comments_in None (b ∷ l) ≡ comments_in None l
blank_passed b l is =
    ap (λ (t : Bool). if t && begins_with 47 l then first_line (b ∷ l) ∷ comments_in (Some 10) l else comments_in (mark_of b) l) (blank_no_slash b is)
    ∙ ap (λ (t : Bool). comments_in (if t then Some b else None) l) (blank_no_mark b is)
