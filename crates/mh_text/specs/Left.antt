-- The tokens that are left in a text, with their meaning, up to its end or to the first thing that is
-- wrong: how the reader sees a text.
use Rattle.std.specs.Prelude.{◌≡◌, ℕ, zero, suc, ◌+◌, Bool, false, ◌&&◌, ◌==◌, if◌then◌else◌, List, [], ◌∷◌, length, take, drop, Option, Some, None, Result, Ok, Err}
use Rattle.mh_base.specs.Reading.{Rest}
use Rattle.mh_text.specs.declared.token.kind.TokenKind.{TokenKind}
use Rattle.mh_text.specs.declared.sign.Sign.{Sign}
use Rattle.mh_text.specs.declared.text_error.Why.{Why}
use Rattle.mh_text.specs.declared.text_error.Why.TheVariants as why
use Rattle.mh_text.specs.declared.text_error.TextError.{TextError}
use Rattle.mh_text.specs.declared.text_error.TextError.TheVariants.{At}
use Rattle.mh_text.specs.Lexing.{gap_length, token_at}
use Rattle.mh_text.specs.Signs.{sign_of}
use Rattle.mh_text.specs.Words.{needs_gap}
use Rattle.mh_text.specs.Rest.{Left, nothing, bad_at, piece}

-- what is found behind white space: the end, bytes that begin no token, or a token and what is left
-- behind it
pub data Lexed : Type 0 where
  finished : Lexed
  bad : ℕ → Lexed
  token : TokenKind → ℕ → List ℕ → Rest → Lexed

-- bytes that begin at this offset, with the kind and the length of the token at their front
abbrev pub cut : ℕ → List ℕ → Option (TokenKind × ℕ) → Lexed
cut start bs None = bad start
cut start bs (Some found) = token found.0 start (take found.1 bs) (record { offset = start + found.1; bytes = drop found.1 bs })

abbrev pub lexed_at : ℕ → List ℕ → Lexed
lexed_at start [] = finished
lexed_at start (b ∷ bs) = cut start (b ∷ bs) (token_at (b ∷ bs))

unfoldable pub lexed : Rest → Lexed
lexed r = let gap = gap_length false r.bytes in lexed_at (r.offset + gap) (drop gap r.bytes)

-- A token that stands at start, where bytes were left from offset on, with its meaning; then what is
-- left behind it. White space is wanted in front where the flag says so and the kind needs it.
abbrev pub meant : Bool → ℕ → TokenKind → ℕ → List ℕ → Result Sign Why → Left → Left
meant wants offset kind start text (Err w) behind = bad_at w start
meant wants offset kind start text (Ok s) behind =
    if wants && needs_gap kind && start == offset then bad_at why.Syntax start
    else piece (record { sign = s; start = start; text = text }) behind

-- What is left, where further tells what is left behind a token.
abbrev pub left_in : (Bool → Rest → Left) → Bool → Rest → Lexed → Left
left_in further wants r finished = nothing (r.offset + length r.bytes)
left_in further wants r (bad start) = bad_at why.Lexical start
left_in further wants r (token kind start text rest) = meant wants r.offset kind start text (sign_of kind text) (further (needs_gap kind) rest)

-- The tokens that are left in the bytes, of which there are fewer than the first number; the flag is
-- set where the token in front wants white space behind it.
abbrev pub left_of : ℕ → Bool → Rest → Left
left_of zero wants r = nothing 0
left_of (suc n) wants r = left_in (left_of n) wants r (lexed r)

-- the tokens that are left
unfoldable pub left : Bool → Rest → Left
left wants r = left_of (suc (length r.bytes)) wants r

-- the error says that no token begins there
abbrev pub IsBad : TextError → Lexed → Type 0
IsBad (At why.Lexical offset) l = l ≡ bad offset
IsBad _ l = ⊥
