-- The tokens of a text, by where they stand.
use Rattle.std.specs.Prelude.{◌≡◌, ℕ, zero, suc, List, [], ◌∷◌, drop, length, take, Option, Some, None}
use Rattle.mh_base.specs.Reading.{Rest, whole}
use Rattle.mh_text.specs.Left.{Lexed, finished, bad, token, lexed}
use Rattle.mh_edit.specs.declared.word.Extent.{Extent}
use Rattle.mh_edit.specs.declared.word.Word.{Word}

-- the token that was found, and what is left behind it
abbrev pub word_in : Lexed → Option (Word × Rest)
word_in finished = None
word_in (bad start) = None
word_in (token kind start text rest) = Some (record { kind = kind; at = record { start = start; length = length text } }, rest)

abbrev pub first_word : Rest → Option (Word × Rest)
first_word r = word_in (lexed r)

abbrev pub after : (Rest → List Word) → Option (Word × Rest) → List Word
after further None = []
after further (Some found) = found.0 ∷ further found.1

-- the tokens of what is left, at most so many
abbrev pub words_from : ℕ → Rest → List Word
words_from zero r = []
words_from (suc n) r = after (words_from n) (first_word r)

-- the tokens of a text, up to where none begins; each has a byte at least
unfoldable pub words : List ℕ → List Word
words bs = words_from (length bs) (whole bs)

-- what stands there
abbrev pub text_of : List ℕ → Extent → List ℕ
text_of bs e = take e.length (drop e.start bs)
