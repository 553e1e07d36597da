-- Which actions of a name can be meant where a fault names an object: those in which its number is written, and those that go through a
-- variable.
use Rattle.std.specs.Prelude.{ℕ, zero, suc, ◌+◌, ◌-◌, Bool, true, false, nat_le, nat_lt, if◌then◌else◌, List, [], ◌∷◌, length, drop, codes}
use Rattle.std.specs.Str.{bytes_eq}
use Rattle.mh_base.specs.Reading.{whole}
use Rattle.mh_text.specs.declared.token.kind.TokenKind.{TokenKind}
use Rattle.mh_text.specs.declared.token.kind.TokenKind.TheVariants as kind
use Rattle.mh_text.specs.Left.{Lexed, finished, bad, token, lexed}
use Rattle.mh_why.specs.LineWords.{first_word, last_word}

-- the name of an action, and the number of an object, as words
pub record Sought : Type 0 where
  pub action : List ℕ
  pub number : List ℕ

-- the words of a fault behind its kind: the action, and the number of the object
abbrev pub sought_in : List ℕ → Sought
sought_in ws = record { action = first_word ws; number = last_word ws }

-- the token is the number, or stands in front of a variable
abbrev pub is_mention : List ℕ → TokenKind → List ℕ → Bool
is_mention number kind.Integer text = bytes_eq text number
is_mention number kind.Keyword text = bytes_eq text (codes ":IndirectRef")
is_mention number k text = false

-- the token closes the bracket of the action, where so many are open
abbrev pub ends_action : ℕ → TokenKind → Bool
ends_action depth kind.CloseParenthesis = nat_le depth 1
ends_action depth k = false

-- how many are open behind the token; no action has as many as are counted
abbrev pub depth_behind : ℕ → TokenKind → ℕ
depth_behind depth kind.OpenParenthesis = if nat_lt depth 9 then depth + 1 else depth
depth_behind depth kind.CloseParenthesis = depth - 1
depth_behind depth k = depth

-- What is found of an action from these bytes on, at which a token stands: they themselves, nothing, or what further finds.
abbrev pub mentioned : (ℕ → List ℕ → List ℕ) → List ℕ → ℕ → TokenKind → List ℕ → List ℕ → List ℕ
mentioned further number depth k text bs =
    if is_mention number k text then bs
    else (if ends_action depth k then [] else further (depth_behind depth k) (drop (length text) bs))

abbrev pub mention_in : (ℕ → List ℕ → List ℕ) → List ℕ → ℕ → List ℕ → Lexed → List ℕ
mention_in further number depth bs finished = []
mention_in further number depth bs (bad start) = []
mention_in further number depth bs (token k start text rest) =
    mentioned further number depth k text (drop start bs)

abbrev pub mention_by : List ℕ → ℕ → ℕ → List ℕ → List ℕ
mention_by number zero depth bs = []
mention_by number (suc n) depth bs = mention_in (mention_by number n) number depth bs (lexed (whole bs))

-- the bytes from the first mention on in the action with which these begin; it has no more tokens than bytes
unfoldable pub mention : List ℕ → List ℕ → List ℕ
mention number bs = mention_by number (length bs) 0 bs

abbrev pub is_some : List ℕ → Bool
is_some [] = false
is_some (b ∷ bs) = true

-- the action with which these bytes begin can be meant
abbrev pub mentions : List ℕ → List ℕ → Bool
mentions number bs = is_some (mention number bs)
