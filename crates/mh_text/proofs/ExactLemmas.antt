-- Which token stands at the front of a text that goes on behind a word.
use Rattle.std.proofs.Common.{◌≡◌, ℕ, ◌+◌, ◌<◌, inl, inr, Bool, true, false, ◌==◌, if◌then◌else◌, List, [], ◌∷◌, ◌++◌, length, take, drop, Option, Some, None, refl, ap, ap₂, sym, ◌∙◌, subst, arith, append_assoc, length-append, length-drop}
use Rattle.std.specs.List.{list_all, prefix_len}
use Rattle.std.proofs.Math.Seq.{take-append_seam, drop-append_seam}
use Rattle.std.proofs.lemmas.Bool.Decides.{nat_tests}
use Rattle.std.proofs.lemmas.Bool.{and_parts, or_parts}
use Rattle.mh_base.specs.Reading.{Rest}
use Rattle.mh_text.specs.declared.token.kind.TokenKind.{TokenKind}
use Rattle.mh_text.specs.declared.token.kind.TokenKind.TheVariants as kind
use Rattle.mh_text.specs.Bytes.{is_letter, is_digit, is_letter_or_digit, is_hexadecimal, is_text_byte, is_quoted_byte, begins_with}
use Rattle.mh_text.specs.Lexing.{gap_length, is_escaped, number_length, keyword_length, text_length, quoted_length, behind_first, number_or_word, bare_token_at, token_at}
use Rattle.mh_text.specs.Left.{finished, token, cut, lexed_at, lexed}
use Rattle.mh_text.specs.Words.{Quotes, nothing, plain, escaped, AreDigits, IsWord, needs_gap, Written, AreWords}
use Rattle.mh_text.proofs.WordLemmas.{all_gap, IsLoose, loose_behind, Begins, begins, no_gap_at, gap_exact}

-- elements that pass, and then one that does not
prefix_exact : (p : ℕ → Bool) (xs rest : List ℕ) → list_all p xs ≡ true → prefix_len p rest ≡ 0 → prefix_len p (xs ++ rest) ≡ length xs
prefix_exact p [] rest all none = none
prefix_exact p (x ∷ xs) rest all none =
    let parts = and_parts (p x) (list_all p xs) all in
    rw parts.0 (omega (arith, prefix_exact p xs rest parts.1 none))

stops_at : (p : ℕ → Bool) (b : ℕ) (bs : List ℕ) → p b ≡ false → prefix_len p (b ∷ bs) ≡ 0
stops_at p b bs h = rw h refl

loose_parts : (b : ℕ) → is_letter_or_digit b ≡ false → (is_letter b ≡ false) × (is_digit b ≡ false)
loose_parts b h = or_parts (is_letter b) (is_digit b) h

loose_letter : (bs : List ℕ) → IsLoose bs → prefix_len is_letter bs ≡ 0
loose_letter [] h = refl
loose_letter (b ∷ bs) h = stops_at is_letter b bs (loose_parts b h).0

loose_digit : (bs : List ℕ) → IsLoose bs → prefix_len is_digit bs ≡ 0
loose_digit [] h = refl
loose_digit (b ∷ bs) h = stops_at is_digit b bs (loose_parts b h).1

loose_either : (bs : List ℕ) → IsLoose bs → prefix_len is_letter_or_digit bs ≡ 0
loose_either [] h = refl
loose_either (b ∷ bs) h = stops_at is_letter_or_digit b bs h

-- a token of this kind that is this long
abbrev IsFront : TokenKind → ℕ → List ℕ → Type 0
IsFront k n bs = token_at bs ≡ Some (k, n)

same_length : (k : TokenKind) (n m : ℕ) → n ≡ m → ◌≡◌ {A = Option (TokenKind × ℕ)} (Some (k, n)) (Some (k, m))
same_length k n m e = ap (λ (x : ℕ). Some (k, x)) e

keyword_front : (first : ℕ) (others rest : List ℕ) → is_letter first ≡ true → list_all is_letter_or_digit others ≡ true → IsLoose rest
    → IsFront kind.Keyword (length (58 ∷ first ∷ others)) (58 ∷ first ∷ (others ++ rest))
unfolding token_at keyword_length
keyword_front first others rest letter all loose =
    let long = prefix_exact is_letter_or_digit others rest all (loose_either rest loose) in
    rw letter (same_length kind.Keyword _ _ (omega (arith, long)))

-- a byte that is none of those that begin other tokens
letter_other : (b : ℕ) → is_letter b ≡ true → (b == 123) ≡ false × (b == 125) ≡ false × (b == 40) ≡ false × (b == 41) ≡ false × (b == 58) ≡ false × (b == 45) ≡ false × (b == 34) ≡ false × (b == 39) ≡ false
letter_other b h = (grind (arith, nat_tests), grind (arith, nat_tests), grind (arith, nat_tests), grind (arith, nat_tests), grind (arith, nat_tests), grind (arith, nat_tests), grind (arith, nat_tests), grind (arith, nat_tests))

digit_other : (b : ℕ) → is_digit b ≡ true → (b == 123) ≡ false × (b == 125) ≡ false × (b == 40) ≡ false × (b == 41) ≡ false × (b == 58) ≡ false × (b == 45) ≡ false × (b == 34) ≡ false × (b == 39) ≡ false
digit_other b h = (grind (arith, nat_tests), grind (arith, nat_tests), grind (arith, nat_tests), grind (arith, nat_tests), grind (arith, nat_tests), grind (arith, nat_tests), grind (arith, nat_tests), grind (arith, nat_tests))

letter_no_digit : (b : ℕ) → is_letter b ≡ true → is_digit b ≡ false
letter_no_digit b h = grind (arith, nat_tests)

not_zero : (n : ℕ) → 0 < n → (n == 0) ≡ false
not_zero n h = grind (arith, nat_tests)

bare_letter : (b : ℕ) (bs : List ℕ) → is_letter b ≡ true → token_at (b ∷ bs) ≡ bare_token_at (b ∷ bs)
unfolding token_at
bare_letter b bs h =
    let o = letter_other b h in
    rw (o.0, o.1, o.2, o.3, o.4, o.5, o.6, o.7) refl

bare_digit : (b : ℕ) (bs : List ℕ) → is_digit b ≡ true → token_at (b ∷ bs) ≡ bare_token_at (b ∷ bs)
unfolding token_at
bare_digit b bs h =
    let o = digit_other b h in
    rw (o.0, o.1, o.2, o.3, o.4, o.5, o.6, o.7) refl

number_is : (ds rest : List ℕ) → AreDigits ds → IsLoose rest → number_length (ds ++ rest) ≡ Some (length ds)
unfolding number_length
number_is ds rest (some, all) loose =
    let long = prefix_exact is_digit ds rest all (loose_digit rest loose) in
    rw (long, not_zero (length ds) some) refl

number_long : (n letters : ℕ) → (n == 0) ≡ false → number_or_word (if n == 0 then None else Some n) letters ≡ Some (kind.Integer, n)
number_long n letters h = rw h refl

bare_digits : (bs rest : List ℕ) → AreDigits bs → IsLoose rest → bare_token_at (bs ++ rest) ≡ Some (kind.Integer, length bs)
unfolding bare_token_at
bare_digits bs rest digits loose = ap (λ o. number_or_word o (prefix_len is_letter (bs ++ rest))) (number_is bs rest digits loose)

word_long : (n m : ℕ) → n ≡ 0 → (m == 0) ≡ false → number_or_word (if n == 0 then None else Some n) m ≡ Some (kind.Word, m)
word_long n m h g = rw (h, g) refl

bare_letters : (b : ℕ) (bs rest : List ℕ) → is_letter b ≡ true → list_all is_letter (b ∷ bs) ≡ true → IsLoose rest → bare_token_at (b ∷ (bs ++ rest)) ≡ Some (kind.Word, length (b ∷ bs))
unfolding bare_token_at number_length
bare_letters b bs rest letter all loose =
    let long = prefix_exact is_letter (b ∷ bs) rest all (loose_letter rest loose) in
    word_long (prefix_len is_digit (b ∷ (bs ++ rest))) (prefix_len is_letter (b ∷ (bs ++ rest))) (stops_at is_digit b (bs ++ rest) (letter_no_digit b letter)) (not_zero _ (omega (arith, long)))
    ∙ same_length kind.Word _ _ long

word_front : (bs rest : List ℕ) → 0 < length bs → list_all is_letter bs ≡ true → IsLoose rest → IsFront kind.Word (length bs) (bs ++ rest)
word_front [] rest some all loose = absurd (omega arith)
word_front (b ∷ bs) rest some all loose =
    let letter = (and_parts (is_letter b) (list_all is_letter bs) all).0 in
    bare_letter b (bs ++ rest) letter ∙ bare_letters b bs rest letter all loose

digits_front : (bs rest : List ℕ) → AreDigits bs → IsLoose rest → IsFront kind.Integer (length bs) (bs ++ rest)
digits_front [] rest digits loose = absurd (omega (arith, digits.0))
digits_front (b ∷ bs) rest digits loose =
    bare_digit b (bs ++ rest) (and_parts (is_digit b) (list_all is_digit bs) digits.1).0 ∙ bare_digits (b ∷ bs) rest digits loose

negative_front : (ds rest : List ℕ) → AreDigits ds → IsLoose rest → IsFront kind.Integer (length (45 ∷ ds)) (45 ∷ (ds ++ rest))
unfolding token_at
negative_front ds rest digits loose = ap (behind_first kind.Integer) (number_is ds rest digits loose) ∙ same_length kind.Integer _ _ (omega arith)

-- strings
closed_is : (bs rest : List ℕ) (mark : ℕ) → begins_with mark (drop (length bs) (bs ++ mark ∷ rest)) ≡ true
closed_is bs rest mark = rw (drop-append_seam bs (mark ∷ rest)) (same mark)
  where
    same : (n : ℕ) → (n == n) ≡ true
    same n = grind (arith, nat_tests)

text_if : (bs rest : List ℕ) (n : ℕ) → n ≡ length bs → (if begins_with 34 (drop n (bs ++ 34 ∷ rest)) then Some (n + 1) else None) ≡ Some (length bs + 1)
text_if bs rest n h = rw (h, closed_is bs rest 34) refl

text_front : (bs rest : List ℕ) → list_all is_text_byte bs ≡ true → IsFront kind.Text (length (34 ∷ (bs ++ 34 ∷ []))) (34 ∷ (bs ++ 34 ∷ rest))
unfolding token_at text_length
text_front bs rest all =
    let long = prefix_exact is_text_byte bs (34 ∷ rest) all refl in
    ap (behind_first kind.Text) (text_if bs rest _ long) ∙ same_length kind.Text _ _ (omega (arith, length-append bs (34 ∷ [])))

hexadecimal_quoted : (b : ℕ) → is_hexadecimal b ≡ true → is_quoted_byte b ≡ true
hexadecimal_quoted b h = grind (arith, nat_tests)

quotes_pass : (bs os : List ℕ) → Quotes bs os → (list_all is_quoted_byte bs ≡ true) × (is_escaped 0 bs ≡ true)
quotes_pass bs os nothing = (refl, refl)
quotes_pass bs os (plain b bs' os' q ne h) =
    let rest = quotes_pass bs' os' h in
    let other : (b == 61) ≡ false = grind (arith, nat_tests) in
    (rw q rest.0, rw other rest.1)
quotes_pass bs os (escaped high low bs' os' q r h) =
    let rest = quotes_pass bs' os' h in
    (rw (hexadecimal_quoted high q, hexadecimal_quoted low r) rest.0, rw (q, r) rest.1)

quoted_if : (bs rest : List ℕ) (n : ℕ) → n ≡ length bs → is_escaped 0 bs ≡ true
    → (if begins_with 39 (drop n (bs ++ 39 ∷ rest)) then (if is_escaped 0 (take n (bs ++ 39 ∷ rest)) then Some (n + 1) else None) else None) ≡ Some (length bs + 1)
quoted_if bs rest n h e = rw (h, closed_is bs rest 39, take-append_seam bs (39 ∷ rest), e) refl

quoted_front : (bs os rest : List ℕ) → Quotes bs os → IsFront kind.Quoted (length (39 ∷ (bs ++ 39 ∷ []))) (39 ∷ (bs ++ 39 ∷ rest))
unfolding token_at quoted_length
quoted_front bs os rest quotes =
    let passes = quotes_pass bs os quotes in
    let long = prefix_exact is_quoted_byte bs (39 ∷ rest) passes.0 refl in
    ap (behind_first kind.Quoted) (quoted_if bs rest _ long passes.1) ∙ same_length kind.Quoted _ _ (omega (arith, length-append bs (39 ∷ [])))

bracket : (k : TokenKind) (c : ℕ) (bs rest : List ℕ) → bs ≡ c ∷ [] → IsFront k 1 (c ∷ rest) → IsFront k (length bs) (bs ++ rest)
bracket k c bs rest e h = subst (λ l. IsFront k (length l) (l ++ rest)) (sym e) h

front : (k : TokenKind) (bs rest : List ℕ) → IsWord k bs → (needs_gap k ≡ true → IsLoose rest) → IsFront k (length bs) (bs ++ rest)
unfolding token_at
front kind.OpenBrace bs rest e loose = bracket kind.OpenBrace 123 bs rest e refl
front kind.CloseBrace bs rest e loose = bracket kind.CloseBrace 125 bs rest e refl
front kind.OpenParenthesis bs rest e loose = bracket kind.OpenParenthesis 40 bs rest e refl
front kind.CloseParenthesis bs rest e loose = bracket kind.CloseParenthesis 41 bs rest e refl
front kind.Keyword bs rest (first, others, e, letter, all) loose =
    subst (λ l. IsFront kind.Keyword (length l) (l ++ rest)) (sym e) (keyword_front first others rest letter all (loose refl))
front kind.Word bs rest (some, all) loose = word_front bs rest some all (loose refl)
front kind.Integer bs rest (inl digits) loose = digits_front bs rest digits (loose refl)
front kind.Integer bs rest (inr (ds, e, digits)) loose =
    subst (λ l. IsFront kind.Integer (length l) (l ++ rest)) (sym e) (negative_front ds rest digits (loose refl))
front kind.Text bs rest (inner, e, all) loose =
    subst (λ l. IsFront kind.Text (length l) (l ++ rest)) (sym e)
    (subst (λ (l : List ℕ). IsFront kind.Text (length (34 ∷ (inner ++ 34 ∷ []))) (34 ∷ l)) (sym (append_assoc inner (34 ∷ []) rest)) (text_front inner rest all))
front kind.Quoted bs rest (inner, octets, e, quotes) loose =
    subst (λ l. IsFront kind.Quoted (length l) (l ++ rest)) (sym e)
    (subst (λ (l : List ℕ). IsFront kind.Quoted (length (39 ∷ (inner ++ 39 ∷ []))) (39 ∷ l)) (sym (append_assoc inner (39 ∷ []) rest)) (quoted_front inner octets rest quotes))

-- what is found where the text goes on with a word
cut_front : (start : ℕ) (k : TokenKind) (bs rest : List ℕ) → Begins bs → IsFront k (length bs) (bs ++ rest)
    → lexed_at start (bs ++ rest) ≡ token k start bs (record { offset = start + length bs; bytes = rest })
cut_front start k [] rest b f = absurd (cc b.is)
cut_front start k (c ∷ cs) rest b f =
    ap (cut start (c ∷ (cs ++ rest))) f
    ∙ ap₂ (λ (x y : List ℕ). token k start x (record { offset = start + length (c ∷ cs); bytes = y })) (take-append_seam (c ∷ cs) rest) (drop-append_seam (c ∷ cs) rest)

lexed_front : (r : Rest) (n : ℕ) (gap behind : List ℕ) → r.bytes ≡ gap ++ behind → n ≡ length gap → gap_length false (gap ++ behind) ≡ n → lexed r ≡ lexed_at (r.offset + length gap) behind
unfolding lexed
lexed_front r n gap behind e h g =
    let long : gap_length false r.bytes ≡ length gap = ap (gap_length false) e ∙ g ∙ h in
    ap₂ (λ (m : ℕ) (l : List ℕ). lexed_at (r.offset + m) (drop m l)) long e ∙ ap (lexed_at (r.offset + length gap)) (drop-append_seam gap behind)

-- the token at which the next word stands
pub record IsNext (r : Rest) (wants : Bool) (w : Written) (ws : List Written) : Type 0 where
  pub start : ℕ
  pub rest : Rest
  pub is : lexed r ≡ token w.kind start w.text rest
  pub parted : wants ≡ true → needs_gap w.kind ≡ true → start ≡ r.offset → ⊥
  pub word : IsWord w.kind w.text
  pub words : AreWords (needs_gap w.kind) rest.bytes ws

no_length : (l : List ℕ) → length l ≡ 0 → l ≡ []
no_length [] h = refl
no_length (x ∷ xs) h = absurd (omega arith)

pub next_word : (r : Rest) (wants : Bool) (w : Written) (ws : List Written) → AreWords wants r.bytes (w ∷ ws) → IsNext r wants w ws
next_word r wants w ws (gap, rest, is_gap, e, word, parted, behind) =
    let b = begins w.kind w.text word in
    let none = no_gap_at w.text rest b in
    let long = gap_exact gap (w.text ++ rest) is_gap none in
    record {
      start = r.offset + length gap;
      rest = record { offset = r.offset + length gap + length w.text; bytes = rest };
      is = lexed_front r (length gap) gap (w.text ++ rest) (e ∙ append_assoc gap w.text rest) refl long
          ∙ cut_front (r.offset + length gap) w.kind w.text rest b (front w.kind w.text rest word (loose_behind w.kind rest ws behind));
      parted = λ t n same. parted t n (no_length gap (omega arith));
      word = word;
      words = behind;
    }

pub last_word : (r : Rest) (wants : Bool) → AreWords wants r.bytes [] → lexed r ≡ finished
unfolding lexed
last_word r wants last =
    let long = all_gap r.bytes last in
    let none : drop (gap_length false r.bytes) r.bytes ≡ [] = no_length _ (omega (arith, length-drop (gap_length false r.bytes) r.bytes)) in
    ap (lexed_at (r.offset + gap_length false r.bytes)) none
