-- White space at the front of a text.
use Rattle.std.proofs.Common.{◌≡◌, ℕ, ◌+◌, ◌⊎◌, inl, inr, Bool, true, false, ◌&&◌, ◌||◌, not, ◌==◌, nat_le, if◌then◌else◌, List, [], ◌∷◌, ◌++◌, take, drop, refl, ap, ap₂, sym, ◌∙◌, subst, arith, add-one, append_assoc}
use Rattle.std.specs.List.{list_any}
use Rattle.std.proofs.lemmas.Bool.Decides.{nat_tests}
use Rattle.std.proofs.lemmas.Bool.{and_parts, or_parts}
use Rattle.mh_text.specs.Bytes.{is_space, begins_with}
use Rattle.mh_text.specs.Lexing.{gap_length}
use Rattle.mh_text.specs.Words.{IsLine, IsGap, nothing, blank, comment, IsLastGap}

pub same_number : (n m : ℕ) → (n == m) ≡ true → n ≡ m
same_number n m h = grind (arith, nat_tests)

-- what stands before and at the place to which white space goes, seen from outside of a comment
abbrev pub Outside : List ℕ → ℕ → Type 0
Outside bs n = IsGap (take n bs) ⊎ ((drop n bs ≡ []) × IsLastGap bs)

-- a comment up to its line's end, and white space to the end of the text
abbrev pub LastInside : List ℕ → Type 0
LastInside bs = IsLine bs ⊎ ((line : List ℕ) × (rest : List ℕ) × (bs ≡ line ++ 10 ∷ rest) × IsLine line × IsLastGap rest)

-- the same, seen from within a comment
abbrev pub Inside : List ℕ → ℕ → Type 0
Inside bs n = ((line : List ℕ) × (gap : List ℕ) × (take n bs ≡ line ++ 10 ∷ gap) × IsLine line × IsGap gap) ⊎ ((drop n bs ≡ []) × LastInside bs)

take_one : (n : ℕ) (b : ℕ) (bs : List ℕ) → take (n + 1) (b ∷ bs) ≡ b ∷ take n bs
take_one n b bs = rw add-one refl

drop_one : (n : ℕ) (b : ℕ) (bs : List ℕ) → drop (n + 1) (b ∷ bs) ≡ drop n bs
drop_one n b bs = rw add-one refl

line_behind : (b : ℕ) (bs : List ℕ) → IsLine (b ∷ bs) → IsLine bs
line_behind b bs h = (or_parts (b == 10) (list_any (λ c. c == 10) bs) h).1

line_before : (b : ℕ) (bs : List ℕ) → (b == 10) ≡ false → IsLine bs → IsLine (b ∷ bs)
line_before b bs h line = rw h line

-- white space, and white space at the end of a text
pub last_behind : (b : ℕ) (bs : List ℕ) → is_space b ≡ true → IsLastGap bs → IsLastGap (b ∷ bs)
last_behind b bs h (inl gap) = inl (blank b bs h gap)
last_behind b bs h (inr (gap, line, is_gap, is_line, e)) = inr (b ∷ gap, line, blank b gap h is_gap, is_line, ap (λ (l : List ℕ). b ∷ l) e)

last_comment : (line rest : List ℕ) → IsLine line → IsLastGap rest → IsLastGap (47 ∷ 47 ∷ (line ++ 10 ∷ rest))
last_comment line rest is_line (inl gap) = inl (comment line rest is_line gap)
last_comment line rest is_line (inr (gap, last, is_gap, is_last, e)) =
    inr (
      47 ∷ 47 ∷ (line ++ 10 ∷ gap),
      last,
      comment line gap is_line is_gap,
      is_last,
      ap (λ (l : List ℕ). 47 ∷ 47 ∷ (line ++ 10 ∷ l)) e ∙ ap (λ (l : List ℕ). 47 ∷ 47 ∷ l) (sym (append_assoc line (10 ∷ gap) (47 ∷ 47 ∷ last))),
    )

blank_at : (b : ℕ) (bs : List ℕ) (n : ℕ) → is_space b ≡ true → Outside bs n → Outside (b ∷ bs) (n + 1)
blank_at b bs n h (inl gap) = inl (subst IsGap (sym (take_one n b bs)) (blank b (take n bs) h gap))
blank_at b bs n h (inr (end, last)) = inr (drop_one n b bs ∙ end, last_behind b bs h last)

two_same : (b x : ℕ) (l : List ℕ) → b ≡ 47 → x ≡ 47 → b ∷ x ∷ l ≡ 47 ∷ 47 ∷ l
two_same b x l h g = ap₂ (λ (c d : ℕ). c ∷ d ∷ l) h g

comment_gap : (b x : ℕ) (xs line gap : List ℕ) (n : ℕ) → b ≡ 47 → x ≡ 47 → take (n + 1) (x ∷ xs) ≡ line ++ 10 ∷ gap → IsLine line → IsGap gap → IsGap (b ∷ take (n + 1) (x ∷ xs))
comment_gap b x xs [] gap n h g e is_line is_gap =
    let first : x ≡ 10 = cc (take_one n x xs) in
    absurd (omega arith)
comment_gap b x xs (l ∷ ls) gap n h g e is_line is_gap =
    let first : x ≡ l = cc (take_one n x xs) in
    subst IsGap (sym (two_same b l (ls ++ 10 ∷ gap) h (sym first ∙ g)) ∙ ap (λ (t : List ℕ). b ∷ t) (sym e)) (comment ls gap (line_behind l ls is_line) is_gap)

comment_last : (b x : ℕ) (xs line rest : List ℕ) → b ≡ 47 → x ≡ 47 → x ∷ xs ≡ line ++ 10 ∷ rest → IsLine line → IsLastGap rest → IsLastGap (b ∷ x ∷ xs)
comment_last b x xs [] rest h g e is_line last =
    let first : x ≡ 10 = cc in
    absurd (omega arith)
comment_last b x xs (l ∷ ls) rest h g e is_line last =
    let first : x ≡ l = cc in
    subst IsLastGap (sym (two_same b l (ls ++ 10 ∷ rest) h (sym first ∙ g)) ∙ ap (λ (t : List ℕ). b ∷ t) (sym e)) (last_comment ls rest (line_behind l ls is_line) last)

comment_at : (b x : ℕ) (xs : List ℕ) (n : ℕ) → b ≡ 47 → x ≡ 47 → Inside (x ∷ xs) (n + 1) → Outside (b ∷ x ∷ xs) (n + 1 + 1)
comment_at b x xs n h g (inl (line, gap, e, is_line, is_gap)) = inl (subst IsGap (sym (take_one (n + 1) b (x ∷ xs))) (comment_gap b x xs line gap n h g e is_line is_gap))
comment_at b x xs n h g (inr (end, inl line)) =
    inr (drop_one (n + 1) b (x ∷ xs) ∙ end, inr ([], xs, nothing, line_behind x xs line, two_same b x xs h g))
comment_at b x xs n h g (inr (end, inr (line, rest, e, is_line, last))) =
    inr (drop_one (n + 1) b (x ∷ xs) ∙ end, comment_last b x xs line rest h g e is_line last)

slashes : (b : ℕ) (bs : List ℕ) → (b == 47 && begins_with 47 bs) ≡ true → Inside bs (gap_length true bs) → Outside (b ∷ bs) (gap_length true bs + 1)
slashes b [] h inside = absurd (cc (and_parts (b == 47) false h).1)
slashes b (x ∷ xs) h inside =
    let both = and_parts (b == 47) (x == 47) h in
    comment_at b x xs (gap_length (not (x == 10)) xs) (same_number b 47 both.0) (same_number x 47 both.1) inside

outside_if : (b : ℕ) (bs : List ℕ) (c s : Bool) → (b == 47 && begins_with 47 bs) ≡ c → is_space b ≡ s → Outside bs (gap_length false bs) → Inside bs (gap_length true bs)
    → Outside (b ∷ bs) (if c then gap_length true bs + 1 else (if s then gap_length false bs + 1 else 0))
outside_if b bs true s h g out within = slashes b bs h within
outside_if b bs false true h g out within = blank_at b bs (gap_length false bs) g out
outside_if b bs false false h g out within = inl nothing

inside_if : (b : ℕ) (bs : List ℕ) (t : Bool) → (b == 10) ≡ t → Outside bs (gap_length false bs) → Inside bs (gap_length true bs) → Inside (b ∷ bs) (gap_length (not t) bs + 1)
inside_if b bs true h (inl gap) within =
    inl ([], take (gap_length false bs) bs, take_one (gap_length false bs) b bs ∙ ap (λ c. c ∷ take (gap_length false bs) bs) (same_number b 10 h), refl, gap)
inside_if b bs true h (inr (end, last)) within =
    inr (drop_one (gap_length false bs) b bs ∙ end, inr ([], bs, ap (λ c. c ∷ bs) (same_number b 10 h), refl, last))
inside_if b bs false h out (inl (line, gap, e, is_line, is_gap)) =
    inl (b ∷ line, gap, take_one (gap_length true bs) b bs ∙ ap (λ (l : List ℕ). b ∷ l) e, line_before b line h is_line, is_gap)
inside_if b bs false h out (inr (end, inl line)) = inr (drop_one (gap_length true bs) b bs ∙ end, inl (line_before b bs h line))
inside_if b bs false h out (inr (end, inr (line, rest, e, is_line, last))) =
    inr (drop_one (gap_length true bs) b bs ∙ end, inr (b ∷ line, rest, ap (λ (l : List ℕ). b ∷ l) e, line_before b line h is_line, last))

gaps : (bs : List ℕ) → Outside bs (gap_length false bs) × Inside bs (gap_length true bs)
gaps [] = (inl nothing, inr (refl, inl refl))
gaps (b ∷ bs) = (outside_if b bs _ _ refl refl (gaps bs).0 (gaps bs).1, inside_if b bs _ refl (gaps bs).0 (gaps bs).1)

-- the white space that the reader passes over
pub gap_found : (bs : List ℕ) → Outside bs (gap_length false bs)
gap_found bs = (gaps bs).0

-- a byte that is neither control nor space nor slash is no white space
no_blank : (b : ℕ) → (nat_le b 32 || b == 47) ≡ false → is_space b ≡ false
no_blank b h = grind (arith, nat_tests)

-- before a byte that is neither control nor space nor slash stands no white space
pub gap_none : (b : ℕ) (bs : List ℕ) → (nat_le b 32 || b == 47) ≡ false → gap_length false (b ∷ bs) ≡ 0
gap_none b bs h = rw ((or_parts (nat_le b 32) (b == 47) h).1, no_blank b h) refl

-- and before such a one behind a space stands that space
pub gap_one : (b : ℕ) (bs : List ℕ) → (nat_le b 32 || b == 47) ≡ false → gap_length false (32 ∷ b ∷ bs) ≡ 1
gap_one b bs h = ap (λ n. n + 1) (gap_none b bs h)
