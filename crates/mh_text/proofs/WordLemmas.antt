-- A word at the front of a text, behind white space, is the token there.
use Rattle.std.proofs.Common.{◌≡◌, ℕ, ◌+◌, ◌<◌, ◌≢◌, inl, inr, Bool, true, false, ◌==◌, List, [], ◌∷◌, ◌++◌, length, refl, ap, sym, ◌∙◌, subst, arith, append_assoc, append-nil, length-append}
use Rattle.std.specs.List.{list_all, list_any}
use Rattle.std.proofs.lemmas.Bool.Decides.{nat_tests}
use Rattle.std.proofs.lemmas.Bool.{and_parts, or_parts}
use Rattle.mh_text.specs.declared.token.kind.TokenKind.{TokenKind}
use Rattle.mh_text.specs.declared.token.kind.TokenKind.TheVariants as kind
use Rattle.mh_text.specs.Bytes.{is_space, is_letter, is_digit, is_letter_or_digit}
use Rattle.mh_text.specs.Lexing.{gap_length}
use Rattle.mh_text.specs.Words.{IsLine, IsGap, nothing, blank, comment, IsLastGap, IsWord, needs_gap, Written, AreWords}

-- white space
line_length : (line rest : List ℕ) → IsLine line → gap_length true (line ++ 10 ∷ rest) ≡ length line + 1 + gap_length false rest
line_length [] rest h = omega arith
line_length (b ∷ bs) rest h =
    let parts = or_parts (b == 10) (list_any (λ c. c == 10) bs) h in
    let behind = line_length bs rest parts.1 in
    rw parts.0 (omega arith)

space_no_slash : (b : ℕ) → is_space b ≡ true → (b == 47) ≡ false
space_no_slash b h = grind (arith, nat_tests)

pub gap_exact : (gap rest : List ℕ) → IsGap gap → gap_length false rest ≡ 0 → gap_length false (gap ++ rest) ≡ length gap
gap_exact gap rest nothing none = none
gap_exact gap rest (blank b bs h g) none = rw (space_no_slash b h, h) (omega (arith, gap_exact bs rest g none))
gap_exact gap rest (comment line bs is_line g) none =
    let inside = line_length line (bs ++ rest) is_line in
    let behind = gap_exact bs rest g none in
    rw (append_assoc line (10 ∷ bs) rest) (omega (arith, length-append line (10 ∷ bs)))

-- a whole text of white space
last_line : (line : List ℕ) → IsLine line → gap_length true line ≡ length line
last_line [] h = refl
last_line (b ∷ bs) h =
    let parts = or_parts (b == 10) (list_any (λ c. c == 10) bs) h in
    rw parts.0 (omega (arith, last_line bs parts.1))

last_gap : (gap line : List ℕ) → IsGap gap → IsLine line → gap_length false (gap ++ 47 ∷ 47 ∷ line) ≡ length (gap ++ 47 ∷ 47 ∷ line)
last_gap gap line nothing is_line = omega (arith, last_line line is_line)
last_gap gap line (blank b bs h g) is_line = rw (space_no_slash b h, h) (omega (arith, last_gap bs line g is_line))
last_gap gap line (comment above bs is_above g) is_line =
    let inside = line_length above (bs ++ 47 ∷ 47 ∷ line) is_above in
    let behind = last_gap bs line g is_line in
    rw (append_assoc above (10 ∷ bs) (47 ∷ 47 ∷ line)) (omega (arith, length-append above (10 ∷ (bs ++ 47 ∷ 47 ∷ line))))

pub all_gap : (bs : List ℕ) → IsLastGap bs → gap_length false bs ≡ length bs
all_gap bs (inl gap) = ap (gap_length false) (sym (append-nil bs)) ∙ gap_exact bs [] gap refl
all_gap bs (inr (gap, line, is_gap, is_line, e)) = subst (λ l. gap_length false l ≡ length l) (sym e) (last_gap gap line is_gap is_line)

-- a byte that no white space begins with
pub record Begins (bs : List ℕ) : Type 0 where
  pub first : ℕ
  pub others : List ℕ
  pub is : bs ≡ first ∷ others
  pub no_slash : (first == 47) ≡ false
  pub no_space : is_space first ≡ false

begins_plain : (b : ℕ) (bs : List ℕ) → (b == 47) ≡ false → is_space b ≡ false → Begins (b ∷ bs)
begins_plain b bs h g = record { first = b; others = bs; is = refl; no_slash = h; no_space = g }

letter_plain : (b : ℕ) → is_letter b ≡ true → ((b == 47) ≡ false) × (is_space b ≡ false)
letter_plain b h = (grind (arith, nat_tests), grind (arith, nat_tests))

digit_plain : (b : ℕ) → is_digit b ≡ true → ((b == 47) ≡ false) × (is_space b ≡ false)
digit_plain b h = (grind (arith, nat_tests), grind (arith, nat_tests))

begins_letters : (bs : List ℕ) → 0 < length bs → list_all is_letter bs ≡ true → Begins bs
begins_letters [] some all = absurd (omega arith)
begins_letters (b ∷ bs) some all =
    let p = letter_plain b (and_parts (is_letter b) (list_all is_letter bs) all).0 in
    begins_plain b bs p.0 p.1

begins_digits : (bs : List ℕ) → 0 < length bs → list_all is_digit bs ≡ true → Begins bs
begins_digits [] some all = absurd (omega arith)
begins_digits (b ∷ bs) some all =
    let p = digit_plain b (and_parts (is_digit b) (list_all is_digit bs) all).0 in
    begins_plain b bs p.0 p.1

pub begins : (k : TokenKind) (bs : List ℕ) → IsWord k bs → Begins bs
begins kind.OpenBrace bs e = subst Begins (sym e) (begins_plain 123 [] refl refl)
begins kind.CloseBrace bs e = subst Begins (sym e) (begins_plain 125 [] refl refl)
begins kind.OpenParenthesis bs e = subst Begins (sym e) (begins_plain 40 [] refl refl)
begins kind.CloseParenthesis bs e = subst Begins (sym e) (begins_plain 41 [] refl refl)
begins kind.Keyword bs (first, others, e, _, _) = subst Begins (sym e) (begins_plain 58 (first ∷ others) refl refl)
begins kind.Word bs (some, all) = begins_letters bs some all
begins kind.Integer bs (inl (some, all)) = begins_digits bs some all
begins kind.Integer bs (inr (ds, e, _)) = subst Begins (sym e) (begins_plain 45 ds refl refl)
begins kind.Text bs (inner, e, _) = subst Begins (sym e) (begins_plain 34 (inner ++ 34 ∷ []) refl refl)
begins kind.Quoted bs (inner, octets, e, _) = subst Begins (sym e) (begins_plain 39 (inner ++ 39 ∷ []) refl refl)

pub no_gap_at : (bs rest : List ℕ) → Begins bs → gap_length false (bs ++ rest) ≡ 0
no_gap_at bs rest b =
    let here : gap_length false (b.first ∷ (b.others ++ rest)) ≡ 0 = rw (b.no_slash, b.no_space) refl in
    subst (λ l. gap_length false (l ++ rest) ≡ 0) (sym b.is) here

-- what cannot lengthen a keyword, a word or a number
abbrev pub IsLoose : List ℕ → Type 0
IsLoose [] = Unit {0}
IsLoose (b ∷ bs) = is_letter_or_digit b ≡ false

space_loose : (b : ℕ) → is_space b ≡ true → is_letter_or_digit b ≡ false
space_loose b h = grind (arith, nat_tests)

gap_loose : (gap rest : List ℕ) → IsGap gap → (gap ≡ [] → IsLoose rest) → IsLoose (gap ++ rest)
gap_loose gap rest nothing h = h refl
gap_loose gap rest (blank b bs s g) h = space_loose b s
gap_loose gap rest (comment line bs is_line g) h = refl

last_loose : (bs : List ℕ) → IsLastGap bs → IsLoose bs
last_loose bs (inl gap) = subst IsLoose (append-nil bs) (gap_loose bs [] gap (λ _. tt))
last_loose bs (inr (gap, line, is_gap, is_line, e)) = subst IsLoose (sym e) (gap_loose gap (47 ∷ 47 ∷ line) is_gap (λ _. refl))

word_loose : (k : TokenKind) (bs rest : List ℕ) → needs_gap k ≡ false → IsWord k bs → IsLoose (bs ++ rest)
word_loose kind.OpenBrace bs rest h e = subst (λ l. IsLoose (l ++ rest)) (sym e) refl
word_loose kind.CloseBrace bs rest h e = subst (λ l. IsLoose (l ++ rest)) (sym e) refl
word_loose kind.OpenParenthesis bs rest h e = subst (λ l. IsLoose (l ++ rest)) (sym e) refl
word_loose kind.CloseParenthesis bs rest h e = subst (λ l. IsLoose (l ++ rest)) (sym e) refl
word_loose kind.Text bs rest h (inner, e, _) = subst (λ l. IsLoose (l ++ rest)) (sym e) refl
word_loose kind.Quoted bs rest h (inner, octets, e, _) = subst (λ l. IsLoose (l ++ rest)) (sym e) refl
word_loose _ bs rest h e = absurd cc

first_loose : (t : Bool) (gap bs rest : List ℕ) (k : TokenKind) → needs_gap k ≡ t → IsGap gap → IsWord k bs → (t ≡ true → gap ≢ []) → IsLoose (gap ++ bs ++ rest)
first_loose true gap bs rest k h is_gap word parted = subst IsLoose (sym (append_assoc gap bs rest)) (gap_loose gap (bs ++ rest) is_gap (λ none. absurd (parted refl none)))
first_loose false gap bs rest k h is_gap word parted = subst IsLoose (sym (append_assoc gap bs rest)) (gap_loose gap (bs ++ rest) is_gap (λ _. word_loose k bs rest h word))

words_loose : (bs : List ℕ) (ws : List Written) → AreWords true bs ws → IsLoose bs
words_loose bs [] last = last_loose bs last
words_loose bs (w ∷ ws) (gap, rest, is_gap, e, word, parted, _) =
    subst IsLoose (sym e) (first_loose (needs_gap w.kind) gap w.text rest w.kind refl is_gap word (parted refl))

pub loose_behind : (k : TokenKind) (bs : List ℕ) (ws : List Written) → AreWords (needs_gap k) bs ws → needs_gap k ≡ true → IsLoose bs
loose_behind k bs ws words h = words_loose bs ws (subst (λ t. AreWords t bs ws) h words)
