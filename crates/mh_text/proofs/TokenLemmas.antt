-- The token at the front of a text is a word.
use Rattle.std.proofs.Common.{◌≡◌, ℕ, zero, suc, ◌+◌, ◌-◌, ◌<◌, ◌≢◌, min, inl, inr, Bool, true, false, ◌&&◌, ◌==◌, if◌then◌else◌, List, [], ◌∷◌, ◌++◌, length, take, drop, Option, Some, None, IfSome, refl, ap, ap₂, sym, ◌∙◌, subst, arith, add-one, one-add, append_assoc, append-nil, length-take, length-drop, take-append-drop}
use Rattle.std.specs.List.{list_all, prefix_len}
use Rattle.std.proofs.lemmas.Bool.{and_parts}
use Rattle.std.proofs.lemmas.Bool.Decides.{nat_tests}
use Rattle.std.proofs.lemmas.List.Folds.{length-prefix_len}
use Rattle.mh_base.specs.Reading.{Rest}
use Rattle.mh_text.specs.declared.token.kind.TokenKind.{TokenKind}
use Rattle.mh_text.specs.declared.token.kind.TokenKind.TheVariants as kind
use Rattle.mh_text.specs.declared.octet_text.Escape.TheVariants as escape
use Rattle.mh_text.specs.Bytes.{is_letter, is_digit, is_letter_or_digit, is_hexadecimal, is_text_byte, is_quoted_byte, begins_with}
use Rattle.mh_text.specs.Escapes.{unescaped}
use Rattle.mh_text.specs.Lexing.{gap_length, is_escaped, number_length, keyword_length, text_length, quoted_length, behind_first, number_or_word, bare_token_at, token_at}
use Rattle.mh_text.specs.Left.{finished, token, cut, lexed_at, lexed}
use Rattle.mh_text.specs.Words.{IsGap, IsLastGap, Quotes, nothing, plain, escaped, AreDigits, IsWord}
use Rattle.mh_text.proofs.GapLemmas.{same_number, Outside, gap_found}

-- the token, if there is one, is a word
record IsWordAt (o : Option (TokenKind × ℕ)) (bs : List ℕ) : Type 0 where
  pub word : IfSome o (λ found. IsWord found.0 (take found.1 bs))

word_if : (t : Bool) (x y : Option (TokenKind × ℕ)) (bs : List ℕ) → (t ≡ true → IsWordAt x bs) → (t ≡ false → IsWordAt y bs) → IsWordAt (if t then x else y) bs
word_if true x y bs p q = p refl
word_if false x y bs p q = q refl

-- elements at the front that pass all pass
all_if : (p : ℕ → Bool) (b : ℕ) (bs : List ℕ) (t : Bool) → p b ≡ t → list_all p (take (prefix_len p bs) bs) ≡ true → list_all p (take (if t then 1 + prefix_len p bs else 0) (b ∷ bs)) ≡ true
all_if p b bs true h rest = rw (one-add, h) rest
all_if p b bs false h rest = refl

prefix_passes : (p : ℕ → Bool) (bs : List ℕ) → list_all p (take (prefix_len p bs) bs) ≡ true
prefix_passes p [] = refl
prefix_passes p (b ∷ bs) = all_if p b bs (p b) refl (prefix_passes p bs)

take_more : (n b : ℕ) (bs : List ℕ) → take (1 + n) (b ∷ bs) ≡ b ∷ take n bs
take_more n b bs = rw one-add refl

above : (n : ℕ) → (n == 0) ≡ false → 0 < n
above n h = grind (arith, nat_tests)

-- names of keywords
keyword_if : (c : ℕ) (cs : List ℕ) (t : Bool) → is_letter c ≡ t → IsWordAt (behind_first kind.Keyword (if t then Some (prefix_len is_letter_or_digit (c ∷ cs)) else None)) (58 ∷ c ∷ cs)
keyword_if c cs false h = record { word = tt }
keyword_if c cs true h = record {
  word =
      let both : is_letter_or_digit c ≡ true = rw h refl in
      let long : prefix_len is_letter_or_digit (c ∷ cs) ≡ 1 + prefix_len is_letter_or_digit cs = ap (λ (t : Bool). if t then 1 + prefix_len is_letter_or_digit cs else 0) both in (
        c,
        take (prefix_len is_letter_or_digit cs) cs,
        take_more _ 58 (c ∷ cs) ∙ ap (λ (n : ℕ). 58 ∷ take n (c ∷ cs)) long ∙ ap (λ (l : List ℕ). 58 ∷ l) (take_more _ c cs),
        h,
        prefix_passes is_letter_or_digit cs,
      );
}

keyword_word : (b : ℕ) (bs : List ℕ) → b ≡ 58 → IsWordAt (behind_first kind.Keyword (keyword_length bs)) (b ∷ bs)
unfolding keyword_length
keyword_word b [] h = record { word = tt }
keyword_word b (c ∷ cs) h = subst (λ (x : ℕ). IsWordAt (behind_first kind.Keyword (keyword_length (c ∷ cs))) (x ∷ c ∷ cs)) (sym h) (keyword_if c cs (is_letter c) refl)

-- numbers
digits_word : (bs : List ℕ) → (prefix_len is_digit bs == 0) ≡ false → AreDigits (take (prefix_len is_digit bs) bs)
digits_word bs h = (rw (length-prefix_len is_digit bs) (above _ h), prefix_passes is_digit bs)

negative_if : (bs : List ℕ) (t : Bool) → (prefix_len is_digit bs == 0) ≡ t → IsWordAt (behind_first kind.Integer (if t then None else Some (prefix_len is_digit bs))) (45 ∷ bs)
negative_if bs true h = record { word = tt }
negative_if bs false h = record { word = inr (take (prefix_len is_digit bs) bs, take_more _ 45 bs, digits_word bs h) }

negative_word : (b : ℕ) (bs : List ℕ) → b ≡ 45 → IsWordAt (behind_first kind.Integer (number_length bs)) (b ∷ bs)
unfolding number_length
negative_word b bs h = subst (λ (x : ℕ). IsWordAt (behind_first kind.Integer (number_length bs)) (x ∷ bs)) (sym h) (negative_if bs (prefix_len is_digit bs == 0) refl)

letters_if : (bs : List ℕ) (t : Bool) → (prefix_len is_letter bs == 0) ≡ t → IsWordAt (if t then None else Some (kind.Word, prefix_len is_letter bs)) bs
letters_if bs true h = record { word = tt }
letters_if bs false h = record { word = (rw (length-prefix_len is_letter bs) (above _ h), prefix_passes is_letter bs) }

bare_if : (bs : List ℕ) (t : Bool) → (prefix_len is_digit bs == 0) ≡ t → IsWordAt (number_or_word (if t then None else Some (prefix_len is_digit bs)) (prefix_len is_letter bs)) bs
bare_if bs true h = letters_if bs (prefix_len is_letter bs == 0) refl
bare_if bs false h = record { word = inl (digits_word bs h) }

bare_word : (bs : List ℕ) → IsWordAt (bare_token_at bs) bs
unfolding bare_token_at number_length
bare_word bs = bare_if bs (prefix_len is_digit bs == 0) refl

-- strings
begins_same : (c : ℕ) (b : ℕ) (bs : List ℕ) → begins_with c (b ∷ bs) ≡ true → b ≡ c
begins_same c b bs h = same_number b c h

take_closed : (n : ℕ) (bs : List ℕ) (c : ℕ) → begins_with c (drop n bs) ≡ true → take (n + 1) bs ≡ take n bs ++ c ∷ []
take_closed zero [] c h = absurd cc
take_closed zero (b ∷ bs) c h = ap (λ x. x ∷ []) (begins_same c b bs h)
take_closed (suc n) [] c h = absurd cc
take_closed (suc n) (b ∷ bs) c h = rw add-one (ap (λ (l : List ℕ). b ∷ l) (rw add-one at (take_closed n bs c h)))

text_if : (bs : List ℕ) (n : ℕ) (t : Bool) → list_all is_text_byte (take n bs) ≡ true → begins_with 34 (drop n bs) ≡ t → IsWordAt (behind_first kind.Text (if t then Some (n + 1) else None)) (34 ∷ bs)
text_if bs n false all h = record { word = tt }
text_if bs n true all h = record { word = (take n bs, take_more _ 34 bs ∙ ap (λ (l : List ℕ). 34 ∷ l) (take_closed n bs 34 h), all) }

text_word : (b : ℕ) (bs : List ℕ) → b ≡ 34 → IsWordAt (behind_first kind.Text (text_length bs)) (b ∷ bs)
unfolding text_length
text_word b bs h = subst (λ (x : ℕ). IsWordAt (behind_first kind.Text (text_length bs)) (x ∷ bs)) (sym h)
    (text_if bs (prefix_len is_text_byte bs) _ (prefix_passes is_text_byte bs) refl)

plain_quotes : (b : ℕ) (bs : List ℕ) → (b == 61) ≡ false → is_quoted_byte b ≡ true → Quotes bs (unescaped escape.Outside bs) → Quotes (b ∷ bs) (unescaped escape.Outside (b ∷ bs))
plain_quotes b bs h q rest =
    let other : b ≢ 61 = grind (arith, nat_tests) in
    rw h (plain b bs (unescaped escape.Outside bs) q other rest)

first_all : (p : ℕ → Bool) (b : ℕ) (bs : List ℕ) → list_all p (b ∷ bs) ≡ true → (p b ≡ true) × (list_all p bs ≡ true)
first_all p b bs h = and_parts (p b) (list_all p bs) h

-- the rest of a quoted string, behind its first byte
quotes_if : (b : ℕ) (bs : List ℕ) (t : Bool) → (b == 61) ≡ t → list_all is_quoted_byte (b ∷ bs) ≡ true → (if t then is_escaped 2 bs else is_escaped 0 bs) ≡ true
    → (is_escaped 0 bs ≡ true → Quotes bs (unescaped escape.Outside bs))
    → (is_escaped 2 bs ≡ true → Quotes (61 ∷ bs) (unescaped escape.Begun bs))
    → Quotes (b ∷ bs) (unescaped escape.Outside (b ∷ bs))
quotes_if b bs false h all e plainly begun = plain_quotes b bs h (first_all is_quoted_byte b bs all).0 (plainly e)
quotes_if b bs true h all e plainly begun = subst (λ (x : ℕ). Quotes (x ∷ bs) (unescaped escape.Outside (x ∷ bs))) (sym (same_number b 61 h)) (begun e)

begun_quotes : (high low : ℕ) (bs : List ℕ) → (is_hexadecimal high && (is_hexadecimal low && is_escaped 0 bs)) ≡ true → (is_escaped 0 bs ≡ true → Quotes bs (unescaped escape.Outside bs))
    → Quotes (61 ∷ high ∷ low ∷ bs) (unescaped escape.Begun (high ∷ low ∷ bs))
begun_quotes high low bs e rest =
    let first = and_parts (is_hexadecimal high) (is_hexadecimal low && is_escaped 0 bs) e in
    let second = and_parts (is_hexadecimal low) (is_escaped 0 bs) first.1 in
    escaped high low bs (unescaped escape.Outside bs) first.0 second.0 (rest second.1)

quotes_made : (bs : List ℕ) → list_all is_quoted_byte bs ≡ true → is_escaped 0 bs ≡ true → Quotes bs (unescaped escape.Outside bs)
quotes_made [] all e = nothing
quotes_made (b ∷ []) all e =
    quotes_if b [] (b == 61) refl all e (λ g. quotes_made [] refl g) (λ g. absurd cc)
quotes_made (b ∷ h ∷ []) all e =
    quotes_if b (h ∷ []) (b == 61) refl all e (λ g. quotes_made (h ∷ []) (first_all is_quoted_byte b (h ∷ []) all).1 g)
    (λ g. absurd (cc (and_parts (is_hexadecimal h) false g).1))
quotes_made (b ∷ h ∷ l ∷ rest) all e =
    let behind = (first_all is_quoted_byte b (h ∷ l ∷ rest) all).1 in
    quotes_if b (h ∷ l ∷ rest) (b == 61) refl all e (λ g. quotes_made (h ∷ l ∷ rest) behind g)
    (λ g. begun_quotes h l rest g (λ f. quotes_made rest (first_all is_quoted_byte l rest (first_all is_quoted_byte h (l ∷ rest) behind).1).1 f))

quoted_if : (bs : List ℕ) (n : ℕ) (t s : Bool) → list_all is_quoted_byte (take n bs) ≡ true → begins_with 39 (drop n bs) ≡ t → is_escaped 0 (take n bs) ≡ s
    → IsWordAt (behind_first kind.Quoted (if t then (if s then Some (n + 1) else None) else None)) (39 ∷ bs)
quoted_if bs n false s all h g = record { word = tt }
quoted_if bs n true false all h g = record { word = tt }
quoted_if bs n true true all h g = record {
  word = (
    take n bs,
    unescaped escape.Outside (take n bs),
    take_more _ 39 bs ∙ ap (λ (l : List ℕ). 39 ∷ l) (take_closed n bs 39 h),
    quotes_made (take n bs) all g,
  );
}

quoted_word : (b : ℕ) (bs : List ℕ) → b ≡ 39 → IsWordAt (behind_first kind.Quoted (quoted_length bs)) (b ∷ bs)
unfolding quoted_length
quoted_word b bs h = subst (λ (x : ℕ). IsWordAt (behind_first kind.Quoted (quoted_length bs)) (x ∷ bs)) (sym h)
    (quoted_if bs (prefix_len is_quoted_byte bs) _ _ (prefix_passes is_quoted_byte bs) refl refl)

one_word : (b : ℕ) (bs : List ℕ) (k : TokenKind) (c : ℕ) → b ≡ c → IsWord k (c ∷ []) → IsWordAt (Some (k, 1)) (b ∷ bs)
one_word b bs k c h word = record { word = subst (λ (x : ℕ). IsWord k (x ∷ [])) (sym h) word }

word_at : (bs : List ℕ) → IsWordAt (token_at bs) bs
unfolding token_at
word_at [] = record { word = tt }
word_at (b ∷ bs) =
    word_if (b == 123) _ _ (b ∷ bs) (λ e. one_word b bs kind.OpenBrace 123 (same_number b 123 e) refl) (λ _.
    word_if (b == 125) _ _ (b ∷ bs) (λ e. one_word b bs kind.CloseBrace 125 (same_number b 125 e) refl) (λ _.
    word_if (b == 40) _ _ (b ∷ bs) (λ e. one_word b bs kind.OpenParenthesis 40 (same_number b 40 e) refl) (λ _.
    word_if (b == 41) _ _ (b ∷ bs) (λ e. one_word b bs kind.CloseParenthesis 41 (same_number b 41 e) refl) (λ _.
    word_if (b == 58) _ _ (b ∷ bs) (λ e. keyword_word b bs (same_number b 58 e)) (λ _.
    word_if (b == 45) _ _ (b ∷ bs) (λ e. negative_word b bs (same_number b 45 e)) (λ _.
    word_if (b == 34) _ _ (b ∷ bs) (λ e. text_word b bs (same_number b 34 e)) (λ _.
    word_if (b == 39) _ _ (b ∷ bs) (λ e. quoted_word b bs (same_number b 39 e)) (λ _. bare_word (b ∷ bs)))))))))

-- a token was cut off, behind white space
pub record IsCut (r : Rest) (k : TokenKind) (start : ℕ) (text : List ℕ) (rest : Rest) : Type 0 where
  pub gap : List ℕ
  pub is_gap : IsGap gap
  pub bytes : r.bytes ≡ gap ++ text ++ rest.bytes
  pub tight : gap ≡ [] → start ≡ r.offset
  pub word : IsWord k text

front_is : (n start : ℕ) (r : Rest) (bs : List ℕ) (o : Option (TokenKind × ℕ)) → Outside r.bytes n → drop n r.bytes ≡ bs → 0 < length bs → IsWordAt o bs
    → (k : TokenKind) (s : ℕ) (text : List ℕ) (rest : Rest) → start ≡ r.offset + n → cut start bs o ≡ token k s text rest → IsCut r k s text rest
front_is n start r bs None out d some word k s text rest at e = absurd cc
front_is n start r bs (Some found) (inr (end, _)) d some word k s text rest at e =
    let none : length bs ≡ 0 = ap length (sym d ∙ end) in
    absurd (omega arith)
front_is n start r bs (Some found) (inl gap) d some word k s text rest at e =
    let kinds : found.0 ≡ k = cc in
    let texts : take found.1 bs ≡ text = cc in
    let starts : start ≡ s = cc in
    let rests : record { offset = start + found.1; bytes = drop found.1 bs } ≡ rest = cc in
    let whole : r.bytes ≡ take n r.bytes ++ bs = sym (take-append-drop n r.bytes) ∙ ap (λ l. take n r.bytes ++ l) d in
    let parts : bs ≡ text ++ rest.bytes = sym (take-append-drop found.1 bs) ∙ ap₂ (λ (a b : List ℕ). a ++ b) texts (ap (λ (x : Rest). x.bytes) rests) in
    record {
      gap = take n r.bytes;
      is_gap = gap;
      bytes = whole ∙ ap (λ l. take n r.bytes ++ l) parts ∙ sym (append_assoc (take n r.bytes) text rest.bytes);
      tight = λ none.
          let short : min n (length r.bytes) ≡ 0 = sym (length-take n r.bytes) ∙ ap length none in
          let left : length r.bytes - n ≡ length bs = sym (length-drop n r.bytes) ∙ ap length d in
          omega arith;
      word = subst (λ t. IsWord k t) texts (subst (λ x. IsWord x (take found.1 bs)) kinds word.word);
    }

lexed_from : (n start : ℕ) (r : Rest) (bs : List ℕ) → Outside r.bytes n → drop n r.bytes ≡ bs → (k : TokenKind) (s : ℕ) (text : List ℕ) (rest : Rest) → start ≡ r.offset + n
    → lexed_at start bs ≡ token k s text rest → IsCut r k s text rest
lexed_from n start r [] out d k s text rest at e = absurd cc
lexed_from n start r (b ∷ bs) out d k s text rest at e = front_is n start r (b ∷ bs) (token_at (b ∷ bs)) out d (omega arith) (word_at (b ∷ bs)) k s text rest at e

pub lexed_token : (r : Rest) (k : TokenKind) (s : ℕ) (text : List ℕ) (rest : Rest) → lexed r ≡ token k s text rest → IsCut r k s text rest
unfolding lexed
lexed_token r k s text rest e =
    lexed_from (gap_length false r.bytes) (r.offset + gap_length false r.bytes) r (drop (gap_length false r.bytes) r.bytes) (gap_found r.bytes) refl k s text rest refl e

cut_no_end : (start : ℕ) (bs : List ℕ) (o : Option (TokenKind × ℕ)) → cut start bs o ≡ finished → ⊥
cut_no_end start bs None e = cc
cut_no_end start bs (Some found) e = cc

append_nil_of : (all : List ℕ) (n : ℕ) → drop n all ≡ [] → all ≡ take n all
append_nil_of all n d = sym (take-append-drop n all) ∙ ap (λ l. take n all ++ l) d ∙ append-nil (take n all)

ended_from : (n start : ℕ) (all bs : List ℕ) → Outside all n → drop n all ≡ bs → lexed_at start bs ≡ finished → IsLastGap all
ended_from n start all [] (inl gap) d e = inl (subst IsGap (sym (append_nil_of all n d)) gap)
ended_from n start all [] (inr (end, last)) d e = last
ended_from n start all (b ∷ bs) out d e = absurd (cut_no_end start (b ∷ bs) (token_at (b ∷ bs)) e)

pub lexed_finished : (r : Rest) → lexed r ≡ finished → IsLastGap r.bytes
unfolding lexed
lexed_finished r e = ended_from (gap_length false r.bytes) (r.offset + gap_length false r.bytes) r.bytes (drop (gap_length false r.bytes) r.bytes) (gap_found r.bytes) refl e
