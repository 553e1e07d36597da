-- What is left in a text, token by token.
use Rattle.std.proofs.Common.{◌≡◌, ℕ, zero, suc, ◌+◌, ◌<◌, Bool, true, false, ◌==◌, if◌then◌else◌, List, [], ◌∷◌, length, drop, Option, Some, None, IfSome, Result, Ok, Err, refl, ap, ◌∙◌, arith, length-drop}
use Rattle.mh_text.specs.declared.token.kind.TokenKind.{TokenKind}
use Rattle.std.specs.List.{prefix_len}
use Rattle.std.proofs.lemmas.Bool.Decides.{nat_tests}
use Rattle.mh_base.specs.Reading.{Rest, refused}
use Rattle.mh_text.specs.declared.token.kind.TokenKind.TheVariants.{Word}
use Rattle.mh_text.specs.Bytes.{is_digit, is_letter}
use Rattle.mh_text.specs.Lexing.{gap_length, token_at, bare_token_at, number_length, behind_first, number_or_word}
use Rattle.mh_text.specs.Signs.{sign_of}
use Rattle.mh_text.specs.Words.{needs_gap}
use Rattle.mh_text.specs.declared.sign.Sign.{Sign}
use Rattle.mh_text.specs.declared.text_error.Why.{Why}
use Rattle.mh_text.specs.declared.text_error.Why.TheVariants as why
use Rattle.mh_text.specs.declared.text_error.TextError.{TextError}
use Rattle.mh_text.specs.declared.text_error.TextError.TheVariants.{At, NoMemory}
use Rattle.mh_text.specs.Gives.{Fails}
use Rattle.mh_text.specs.Reading.{taken, next}
use Rattle.mh_text.specs.Rest.{Left, Piece, piece, bad_at}
use Rattle.mh_text.specs.Left.{Lexed, finished, bad, token, cut, lexed_at, lexed, IsBad, meant, left_in, left_of, left}

-- the token, if there is one, has a byte
pub record IsLong (o : Option (TokenKind × ℕ)) : Type 0 where
  pub above : IfSome o (λ found. 0 < found.1)

long_if : (b : Bool) (x y : Option (TokenKind × ℕ)) → IsLong x → IsLong y → IsLong (if b then x else y)
long_if true x y p q = p
long_if false x y p q = q

long_one : (kind : TokenKind) → IsLong (Some (kind, 1))
long_one kind = record { above = omega arith }

long_behind : (kind : TokenKind) (o : Option ℕ) → IsLong (behind_first kind o)
long_behind kind (Some n) = record { above = omega arith }
long_behind kind None = record { above = tt }

above_zero : (n : ℕ) → (n == 0) ≡ false → 0 < n
above_zero n h = grind (arith, nat_tests)

long_word : (n : ℕ) (b : Bool) → (n == 0) ≡ b → IsLong (if b then None else Some (Word, n))
long_word n true h = record { above = tt }
long_word n false h = record { above = above_zero n h }

long_number : (n letters : ℕ) (b : Bool) → (n == 0) ≡ b → IsLong (number_or_word (if b then None else Some n) letters)
long_number n letters true h = long_word letters (letters == 0) refl
long_number n letters false h = record { above = above_zero n h }

long_bare : (bs : List ℕ) → IsLong (bare_token_at bs)
unfolding bare_token_at number_length
long_bare bs = long_number (prefix_len is_digit bs) (prefix_len is_letter bs) (prefix_len is_digit bs == 0) refl

pub long_token : (bs : List ℕ) → IsLong (token_at bs)
unfolding token_at
long_token [] = record { above = tt }
long_token (b ∷ bs) =
    long_if (b == 123) _ _ (long_one _) (long_if (b == 125) _ _ (long_one _) (long_if (b == 40) _ _ (long_one _) (long_if (b == 41) _ _ (long_one _)
    (long_if (b == 58) _ _ (long_behind _ _) (long_if (b == 45) _ _ (long_behind _ _) (long_if (b == 34) _ _ (long_behind _ _) (long_if (b == 39) _ _ (long_behind _ _) (long_bare (b ∷ bs)))))))))

-- behind a token fewer bytes are left
cut_shorter : (start : ℕ) (bs : List ℕ) (o : Option (TokenKind × ℕ)) → IsLong o → 0 < length bs
    → (kind : TokenKind) (s : ℕ) (text : List ℕ) (rest : Rest) → cut start bs o ≡ token kind s text rest → length rest.bytes < length bs
cut_shorter start bs None long some kind s text rest e = absurd cc
cut_shorter start bs (Some found) long some kind s text rest e =
    let above : 0 < found.1 = long.above in
    let same : record { offset = start + found.1; bytes = drop found.1 bs } ≡ rest = cc in
    omega (arith, ap (λ (r : Rest). length r.bytes) same, length-drop found.1 bs)

lexed_at_shorter : (start : ℕ) (bs : List ℕ) (kind : TokenKind) (s : ℕ) (text : List ℕ) (rest : Rest)
    → lexed_at start bs ≡ token kind s text rest → length rest.bytes < length bs
lexed_at_shorter start [] kind s text rest e = absurd cc
lexed_at_shorter start (b ∷ bs) kind s text rest e = cut_shorter start (b ∷ bs) (token_at (b ∷ bs)) (long_token (b ∷ bs)) (omega arith) kind s text rest e

pub lexed_shorter : (r : Rest) (kind : TokenKind) (s : ℕ) (text : List ℕ) (rest : Rest)
    → lexed r ≡ token kind s text rest → length rest.bytes < length r.bytes
unfolding lexed
lexed_shorter r kind s text rest e =
    omega (arith, lexed_at_shorter _ _ kind s text rest e, length-drop (gap_length false r.bytes) r.bytes)

same_in : (f g : Bool → Rest → Left) (wants : Bool) (r : Rest) (l : Lexed)
    → ((kind : TokenKind) (s : ℕ) (text : List ℕ) (rest : Rest) (w : Bool) → l ≡ token kind s text rest → f w rest ≡ g w rest)
    → left_in f wants r l ≡ left_in g wants r l
same_in f g wants r finished h = refl
same_in f g wants r (bad start) h = refl
same_in f g wants r (token kind s text rest) h = ap (meant wants r.offset kind s text (sign_of kind text)) (h kind s text rest (needs_gap kind) refl)

left_enough : (n m : ℕ) (wants : Bool) (r : Rest) → length r.bytes < n → length r.bytes < m → left_of n wants r ≡ left_of m wants r
left_enough zero m wants r h g = absurd (omega arith)
left_enough (suc n) zero wants r h g = absurd (omega arith)
left_enough (suc n) (suc m) wants r h g =
    same_in (left_of n) (left_of m) wants r (lexed r) (λ kind s text rest w e.
    let shorter : length rest.bytes < length r.bytes = lexed_shorter r kind s text rest e in
    left_enough n m w rest (omega arith) (omega arith))

-- what is left is what lexing finds at the front, and then what is left behind it
pub left_is : (wants : Bool) (r : Rest) → left wants r ≡ left_in left wants r (lexed r)
unfolding left
left_is wants r =
    same_in (left_of (length r.bytes)) left wants r (lexed r) (λ kind s text rest w e.
    let shorter : length rest.bytes < length r.bytes = lexed_shorter r kind s text rest e in
    left_enough (length r.bytes) (suc (length rest.bytes)) w rest (omega arith) (omega arith))

-- what is taken at the end
pub taken_finished : (wants : Bool) (r : Rest) → lexed r ≡ finished → taken (left wants r) ≡ Ok None
taken_finished wants r e = ap taken (left_is wants r ∙ ap (left_in left wants r) e)

-- what is taken where no token begins
pub taken_bad : (wants : Bool) (r : Rest) (error : TextError) → IsBad error (lexed r) → Fails error (taken (left wants r))
taken_bad wants r (At why.Lexical start) e = ap taken (left_is wants r ∙ ap (left_in left wants r) e)
taken_bad wants r (At _ start) e = absurd e
taken_bad wants r NoMemory e = tt

-- what is taken where a token stands
pub taken_token : (wants : Bool) (r : Rest) (kind : TokenKind) (start : ℕ) (text : List ℕ) (rest : Rest)
    → lexed r ≡ token kind start text rest
    → taken (left wants r) ≡ taken (meant wants r.offset kind start text (sign_of kind text) (left (needs_gap kind) rest))
taken_token wants r kind start text rest e = ap taken (left_is wants r ∙ ap (left_in left wants r) e)

end_if : (b : Bool) (start offset : ℕ) (p : Piece) (behind : Left)
    → taken (if b then bad_at why.Syntax start else piece p behind) ≡ Ok None
    → next (if b then bad_at why.Syntax start else piece p behind) ≡ refused why.Syntax offset
end_if true start offset p behind e = absurd cc
end_if false start offset p behind e = absurd cc

end_meant : (wants : Bool) (offset end : ℕ) (kind : TokenKind) (start : ℕ) (text : List ℕ) (s : Result Sign Why) (behind : Left)
    → taken (meant wants offset kind start text s behind) ≡ Ok None → next (meant wants offset kind start text s behind) ≡ refused why.Syntax end
end_meant wants offset end kind start text (Err w) behind e = absurd cc
end_meant wants offset end kind start text (Ok s) behind e = end_if _ start end _ behind e

end_in : (wants : Bool) (r : Rest) (l : Lexed) → taken (left_in left wants r l) ≡ Ok None
    → next (left_in left wants r l) ≡ refused why.Syntax (r.offset + length r.bytes)
end_in wants r finished e = refl
end_in wants r (bad start) e = absurd cc
end_in wants r (token kind start text rest) e = end_meant wants r.offset (r.offset + length r.bytes) kind start text (sign_of kind text) (left (needs_gap kind) rest) e

-- where nothing is taken, a token is missing at the end of the text
pub next_finished : (wants : Bool) (r : Rest) → taken (left wants r) ≡ Ok None → next (left wants r) ≡ refused why.Syntax (r.offset + length r.bytes)
next_finished wants r e = rw (left_is wants r) (end_in wants r (lexed r) (rw (left_is wants r) at e))
