-- How the reader cuts bytes: the length of the white space at the front, and the kind and length of
-- the token there.
use Rattle.std.specs.Prelude.{ℕ, ◌+◌, Bool, true, false, ◌&&◌, not, ◌==◌, if◌then◌else◌, List, [], ◌∷◌, take, drop, Option, Some, None}
use Rattle.std.specs.List.{prefix_len}
use Rattle.mh_text.specs.declared.token.kind.TokenKind.{TokenKind}
use Rattle.mh_text.specs.declared.token.kind.TokenKind.TheVariants.{OpenBrace, CloseBrace, OpenParenthesis, CloseParenthesis, Keyword, Word, Integer, Text, Quoted}
use Rattle.mh_text.specs.declared.lexing.ByteSet.{ByteSet}
use Rattle.mh_text.specs.declared.lexing.ByteSet.TheVariants as set
use Rattle.mh_text.specs.Bytes.{is_space, is_letter, is_digit, is_letter_or_digit, is_hexadecimal, is_text_byte, is_quoted_byte, begins_with}

-- the byte may stand in a row of such bytes
abbrev pub is_in : ByteSet → ℕ → Bool
is_in set.Letters = is_letter
is_in set.Digits = is_digit
is_in set.LettersAndDigits = is_letter_or_digit
is_in set.Text = is_text_byte
is_in set.Quoted = is_quoted_byte

-- how many bytes of white space and comments stand at the front; within a comment if the flag is set
abbrev pub gap_length : Bool → List ℕ → ℕ
gap_length _ [] = 0
gap_length true (b ∷ bs) = gap_length (not (b == 10)) bs + 1
gap_length false (b ∷ bs) =
    if b == 47 && begins_with 47 bs then gap_length true bs + 1
    else (if is_space b then gap_length false bs + 1 else 0)

-- each `=` has its two digits; so many digits are wanted first
abbrev pub is_escaped : ℕ → List ℕ → Bool
is_escaped wanted [] = wanted == 0
is_escaped wanted (b ∷ bs) =
    if wanted == 0 then (if b == 61 then is_escaped 2 bs else is_escaped 0 bs)
    else (if wanted == 1 then is_hexadecimal b && is_escaped 0 bs else is_hexadecimal b && is_escaped 1 bs)

-- the length of a number at the front, if a digit stands there
unfoldable pub number_length : List ℕ → Option ℕ
number_length bs = let n = prefix_len is_digit bs in if n == 0 then None else Some n

-- the length of a name at the front, if a letter stands there
unfoldable pub keyword_length : List ℕ → Option ℕ
keyword_length [] = None
keyword_length (b ∷ bs) = if is_letter b then Some (prefix_len is_letter_or_digit (b ∷ bs)) else None

-- the length of what goes to the closing `"` and takes it in
unfoldable pub text_length : List ℕ → Option ℕ
text_length bs = let n = prefix_len is_text_byte bs in if begins_with 34 (drop n bs) then Some (n + 1) else None

-- the length of what goes to the closing `'` and takes it in
unfoldable pub quoted_length : List ℕ → Option ℕ
quoted_length bs =
    let n = prefix_len is_quoted_byte bs in
    if begins_with 39 (drop n bs) then (if is_escaped 0 (take n bs) then Some (n + 1) else None) else None

-- a kind, and one byte more than the length behind the first byte
abbrev pub behind_first : TokenKind → Option ℕ → Option (TokenKind × ℕ)
behind_first kind (Some n) = Some (kind, 1 + n)
behind_first kind None = None

-- a number of this length, or else a word, where it has a letter
abbrev pub number_or_word : Option ℕ → ℕ → Option (TokenKind × ℕ)
number_or_word (Some n) _ = Some (Integer, n)
number_or_word None letters = if letters == 0 then None else Some (Word, letters)

-- the token at the front, where it is a word or begins with a digit
unfoldable pub bare_token_at : List ℕ → Option (TokenKind × ℕ)
bare_token_at bs = number_or_word (number_length bs) (prefix_len is_letter bs)

-- the kind and the length of the token at the front, or none where no token begins so
unfoldable pub token_at : List ℕ → Option (TokenKind × ℕ)
token_at [] = None
token_at (b ∷ bs) =
    if b == 123 then Some (OpenBrace, 1)
    else (if b == 125 then Some (CloseBrace, 1)
    else (if b == 40 then Some (OpenParenthesis, 1)
    else (if b == 41 then Some (CloseParenthesis, 1)
    else (if b == 58 then behind_first Keyword (keyword_length bs)
    else (if b == 45 then behind_first Integer (number_length bs)
    else (if b == 34 then behind_first Text (text_length bs)
    else (if b == 39 then behind_first Quoted (quoted_length bs)
    else bare_token_at (b ∷ bs))))))))

-- what is left behind the white space at the front
abbrev pub behind_gap : List ℕ → List ℕ
behind_gap bs = drop (gap_length false bs) bs

-- the bytes begin with an opening brace and then a colon, white space passed over
abbrev pub begins_group : List ℕ → Bool
begins_group bs = braced (behind_gap bs)
  where
    braced : List ℕ → Bool
    braced [] = false
    braced (b ∷ rest) = b == 123 && begins_with 58 (behind_gap rest)
