-- A text as words with gaps of white space between them. It is said apart from the reader, which cuts
-- bytes as `Lexing` does.
use Rattle.std.specs.Prelude.{◌≡◌, ◌≢◌, ℕ, ◌+◌, ◌*◌, ◌<◌, ◌⊎◌, Bool, true, false, ◌==◌, List, [], ◌∷◌, ◌++◌, length}
use Rattle.std.specs.List.{list_all, list_any}
use Rattle.mh_text.specs.declared.token.kind.TokenKind.{TokenKind}
use Rattle.mh_text.specs.declared.token.kind.TokenKind.TheVariants.{OpenBrace, CloseBrace, OpenParenthesis, CloseParenthesis, Keyword, Word, Integer, Text, Quoted}
use Rattle.mh_text.specs.Bytes.{is_space, is_letter, is_digit, is_letter_or_digit, is_hexadecimal, is_text_byte, is_quoted_byte, hexadecimal_value}

-- the bytes hold no line feed
abbrev pub IsLine : List ℕ → Type 0
IsLine bs = list_any (λ b. b == 10) bs ≡ false

-- white space: nothing, a byte of white space and more, a comment with its line's end and more
pub data IsGap : List ℕ → Type 0 where
  nothing : IsGap []
  blank : (b : ℕ) (bs : List ℕ) → is_space b ≡ true → IsGap bs → IsGap (b ∷ bs)
  comment : (line bs : List ℕ) → IsLine line → IsGap bs → IsGap (47 ∷ 47 ∷ (line ++ 10 ∷ bs))

-- white space at the end of a text, where a comment may want its line's end
abbrev pub IsLastGap : List ℕ → Type 0
IsLastGap bs = IsGap bs ⊎ ((gap : List ℕ) × (line : List ℕ) × IsGap gap × IsLine line × (bs ≡ gap ++ 47 ∷ 47 ∷ line))

-- what stands between the marks of a quoted string, and the octets that it stands for
pub data Quotes : List ℕ → List ℕ → Type 0 where
  nothing : Quotes [] []
  plain : (b : ℕ) (bs os : List ℕ) → is_quoted_byte b ≡ true → b ≢ 61 → Quotes bs os → Quotes (b ∷ bs) (b ∷ os)
  escaped : (high low : ℕ) (bs os : List ℕ) → is_hexadecimal high ≡ true → is_hexadecimal low ≡ true → Quotes bs os →
      Quotes (61 ∷ high ∷ low ∷ bs) ((hexadecimal_value high * 16 + hexadecimal_value low) ∷ os)

-- one digit or more
abbrev pub AreDigits : List ℕ → Type 0
AreDigits ds = (0 < length ds) × (list_all is_digit ds ≡ true)

-- the bytes are a word of this kind
abbrev pub IsWord : TokenKind → List ℕ → Type 0
IsWord OpenBrace bs = bs ≡ 123 ∷ []
IsWord CloseBrace bs = bs ≡ 125 ∷ []
IsWord OpenParenthesis bs = bs ≡ 40 ∷ []
IsWord CloseParenthesis bs = bs ≡ 41 ∷ []
IsWord Keyword bs = (first : ℕ) × (others : List ℕ) × (bs ≡ 58 ∷ first ∷ others) × (is_letter first ≡ true) × (list_all is_letter_or_digit others ≡ true)
IsWord Word bs = (0 < length bs) × (list_all is_letter bs ≡ true)
IsWord Integer bs = AreDigits bs ⊎ ((ds : List ℕ) × (bs ≡ 45 ∷ ds) × AreDigits ds)
IsWord Text bs = (inner : List ℕ) × (bs ≡ 34 ∷ (inner ++ 34 ∷ [])) × (list_all is_text_byte inner ≡ true)
IsWord Quoted bs = (inner : List ℕ) × (octets : List ℕ) × (bs ≡ 39 ∷ (inner ++ 39 ∷ [])) × Quotes inner octets

-- white space has to part two words of such kinds
abbrev pub needs_gap : TokenKind → Bool
needs_gap Keyword = true
needs_gap Word = true
needs_gap Integer = true
needs_gap _ = false

-- a word: its kind and its bytes
pub record Written : Type 0 where
  pub kind : TokenKind
  pub text : List ℕ

-- The text is these words, with white space before, between and behind them. The flag is set where
-- the word in front wants a gap behind it.
abbrev pub AreWords : Bool → List ℕ → List Written → Type 0
AreWords wants bs [] = IsLastGap bs
AreWords wants bs (w ∷ ws) = (gap : List ℕ) × (rest : List ℕ) × IsGap gap × (bs ≡ gap ++ w.text ++ rest)
    × IsWord w.kind w.text × (wants ≡ true → needs_gap w.kind ≡ true → gap ≢ []) × AreWords (needs_gap w.kind) rest ws
