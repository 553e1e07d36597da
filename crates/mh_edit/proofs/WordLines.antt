-- A line has no line feed in it, and no word has one.
use Rattle.std.proofs.Common.{◌≡◌, ℕ, inl, inr, Bool, true, false, ◌==◌, List, [], ◌∷◌, ◌++◌, refl, ap₂, sym, ◌∙◌, subst, arith}
use Rattle.std.specs.List.{list_all, list_any}
use Rattle.std.proofs.lemmas.Bool.Decides.{nat_tests}
use Rattle.std.proofs.lemmas.Bool.{and_parts, or_parts}
use Rattle.mh_text.specs.declared.token.kind.TokenKind.{TokenKind}
use Rattle.mh_text.specs.declared.token.kind.TokenKind.TheVariants as kind
use Rattle.mh_text.specs.Bytes.{is_letter, is_digit, is_letter_or_digit, is_hexadecimal, is_text_byte, is_quoted_byte}
use Rattle.mh_text.specs.Words.{IsLine, Quotes, nothing, plain, escaped, IsWord}

-- LINES

pub line_behind : (b : ℕ) (bs : List ℕ) → IsLine (b ∷ bs) → IsLine bs
line_behind b bs line = (or_parts (b == 10) (list_any (λ c. c == 10) bs) line).1

pub line_rest : (xs ys : List ℕ) → IsLine (xs ++ ys) → IsLine ys
line_rest [] ys line = line
line_rest (x ∷ xs) ys line = line_rest xs ys (line_behind x (xs ++ ys) line)

feed_is : (c : ℕ) → c ≡ 10 → (c == 10) ≡ true
feed_is c is = grind (arith, nat_tests)

no_feed : (c : ℕ) (l : List ℕ) → IsLine (c ∷ l) → c ≡ 10 → ⊥
no_feed c l line is =
    let no : (c == 10) ≡ false = (or_parts (c == 10) (list_any (λ b. b == 10) l) line).0 in
    let clash : true ≡ false = sym (feed_is c is) ∙ no in
    absurd (cc clash)

pub feed_within : (l rest line : List ℕ) → line ≡ l ++ 10 ∷ rest → IsLine line → ⊥
feed_within [] rest line e is = no_feed 10 rest (subst IsLine e is) refl
feed_within (c ∷ l) rest line e is = feed_within l rest (l ++ 10 ∷ rest) refl (line_behind c (l ++ 10 ∷ rest) (subst IsLine e is))

-- a text has one first line
pub one_line : (a l bs rest : List ℕ) → IsLine a → IsLine l → a ++ 10 ∷ bs ≡ l ++ 10 ∷ rest → (a ≡ l) × (bs ≡ rest)
one_line [] [] bs rest x y e = let behind : bs ≡ rest = cc in (refl, behind)
one_line [] (c ∷ l) bs rest x y e = let is : c ≡ 10 = cc in absurd (no_feed c l y is)
one_line (b ∷ a) [] bs rest x y e = let is : b ≡ 10 = cc in absurd (no_feed b a x is)
one_line (b ∷ a) (c ∷ l) bs rest x y e =
    let is : b ≡ c = cc in
    let behind : a ++ 10 ∷ bs ≡ l ++ 10 ∷ rest = cc in
    let same = one_line a l bs rest (line_behind b a x) (line_behind c l y) behind in
    (ap₂ (λ (n : ℕ) (ns : List ℕ). n ∷ ns) is same.0, same.1)

-- THE BYTES OF WORDS

all_line : (p : ℕ → Bool) (bs : List ℕ) → ((b : ℕ) → p b ≡ true → (b == 10) ≡ false) → list_all p bs ≡ true → IsLine bs
all_line p [] never all = refl
all_line p (b ∷ bs) never all =
    let parts = and_parts (p b) (list_all p bs) all in
    rw (never b parts.0) (all_line p bs never parts.1)

letter_no_feed : (b : ℕ) → is_letter b ≡ true → (b == 10) ≡ false
letter_no_feed b h = grind (arith, nat_tests)

digit_no_feed : (b : ℕ) → is_digit b ≡ true → (b == 10) ≡ false
digit_no_feed b h = grind (arith, nat_tests)

either_no_feed : (b : ℕ) → is_letter_or_digit b ≡ true → (b == 10) ≡ false
either_no_feed b h = grind (arith, nat_tests)

hexadecimal_no_feed : (b : ℕ) → is_hexadecimal b ≡ true → (b == 10) ≡ false
hexadecimal_no_feed b h = grind (arith, nat_tests)

text_no_feed : (b : ℕ) → is_text_byte b ≡ true → (b == 10) ≡ false
text_no_feed b h = grind (arith, nat_tests)

quoted_no_feed : (b : ℕ) → is_quoted_byte b ≡ true → (b == 10) ≡ false
quoted_no_feed b h = grind (arith, nat_tests)

line_end : (c : ℕ) (bs : List ℕ) → IsLine bs → (c == 10) ≡ false → IsLine (bs ++ c ∷ [])
line_end c [] line other = rw other refl
line_end c (b ∷ bs) line other =
    let parts = or_parts (b == 10) (list_any (λ x. x == 10) bs) line in
    rw parts.0 (line_end c bs parts.1 other)

quotes_line : (bs os : List ℕ) → Quotes bs os → IsLine bs
quotes_line bs os nothing = refl
quotes_line bs os (plain b cs ps is other quotes) = rw (quoted_no_feed b is) (quotes_line cs ps quotes)
quotes_line bs os (escaped high low cs ps is also quotes) = rw (hexadecimal_no_feed high is, hexadecimal_no_feed low also) (quotes_line cs ps quotes)

pub word_line : (k : TokenKind) (bs : List ℕ) → IsWord k bs → IsLine bs
word_line kind.OpenBrace bs e = subst IsLine (sym e) refl
word_line kind.CloseBrace bs e = subst IsLine (sym e) refl
word_line kind.OpenParenthesis bs e = subst IsLine (sym e) refl
word_line kind.CloseParenthesis bs e = subst IsLine (sym e) refl
word_line kind.Keyword bs (first, others, e, letter, all) =
    subst IsLine (sym e) (rw (letter_no_feed first letter) (all_line is_letter_or_digit others either_no_feed all))
word_line kind.Word bs (some, all) = all_line is_letter bs letter_no_feed all
word_line kind.Integer bs (inl (some, all)) = all_line is_digit bs digit_no_feed all
word_line kind.Integer bs (inr (ds, e, (some, all))) = subst IsLine (sym e) (all_line is_digit ds digit_no_feed all)
word_line kind.Text bs (inner, e, all) = subst IsLine (sym e) (line_end 34 inner (all_line is_text_byte inner text_no_feed all) refl)
word_line kind.Quoted bs (inner, octets, e, quotes) = subst IsLine (sym e) (line_end 39 inner (quotes_line inner octets quotes) refl)
