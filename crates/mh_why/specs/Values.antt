-- Where the values of an action stand in a text, or the members of a list of them. A keyword belongs to the value behind it, as `:GInteger`
-- and `:IndirectRef` do.
use Rattle.std.specs.Prelude.{ℕ, zero, suc, ◌-◌, ◌==◌, Bool, true, false, ◌&&◌, not, nat_le, if◌then◌else◌, List, [], ◌∷◌, length, drop}
use Rattle.mh_base.specs.Reading.{whole}
use Rattle.mh_cause.specs.declared.detail.Detail.{Detail}
use Rattle.mh_cause.specs.declared.detail.Detail.TheVariants as detail
use Rattle.mh_text.specs.declared.token.kind.TokenKind.{TokenKind}
use Rattle.mh_text.specs.declared.token.kind.TokenKind.TheVariants as kind
use Rattle.mh_text.specs.Left.{Lexed, finished, bad, token, lexed}
use Rattle.mh_why.specs.declared.explanation.place.values.Walk.{Walk}
use Rattle.mh_why.specs.Meant.{depth_behind, ends_action}

-- The value with a number, from 0 on, of the list that the first bracket opens

abbrev pub first_walk : ℕ → Walk
first_walk n = record { count = n; depth = 0; is_joined = false }

-- a value of the list begins with the token
abbrev pub begins : Walk → TokenKind → Bool
begins w kind.CloseParenthesis = false
begins w k = w.depth == 1 && not w.is_joined

-- the token belongs to the value behind it
abbrev pub joins : TokenKind → Bool
joins kind.Keyword = true
joins k = false

abbrev pub is_sought : Walk → TokenKind → Bool
is_sought w k = begins w k && w.count == 0

abbrev pub walk_behind : Walk → TokenKind → Walk
walk_behind w k =
    record { count = w.count - (if begins w k then 1 else 0); depth = depth_behind w.depth k; is_joined = joins k }

-- What is found from these bytes on, at which a token stands: they themselves, nothing, or what further finds.
abbrev pub value_at : (Walk → List ℕ → List ℕ) → Walk → TokenKind → List ℕ → List ℕ → List ℕ
value_at further w k text bs =
    if is_sought w k then bs
    else (if ends_action w.depth k then [] else further (walk_behind w k) (drop (length text) bs))

abbrev pub value_in : (Walk → List ℕ → List ℕ) → Walk → List ℕ → Lexed → List ℕ
value_in further w bs finished = []
value_in further w bs (bad start) = []
value_in further w bs (token k start text rest) = value_at further w k text (drop start bs)

abbrev pub value_by : ℕ → Walk → List ℕ → List ℕ
value_by zero w bs = []
value_by (suc n) w bs = value_in (value_by n) w bs (lexed (whole bs))

-- the bytes from the value on; there are no more tokens than bytes
unfoldable pub value : ℕ → List ℕ → List ℕ
value number bs = value_by (length bs) (first_walk number) bs

-- the bytes from this part on of the action, or of the list of members, with which these begin
abbrev pub detail_in : Detail → List ℕ → List ℕ
detail_in detail.Unknown bs = []
detail_in (detail.Value n) bs = value n bs
detail_in (detail.Within n k) bs = value k (value n bs)

-- How long the value is that the bytes begin with

-- the token is the last of the value, where so many brackets of it are open
abbrev pub ends_value : ℕ → TokenKind → Bool
ends_value depth kind.OpenParenthesis = false
ends_value depth kind.Keyword = false
ends_value depth kind.CloseParenthesis = nat_le depth 1
ends_value depth k = depth == 0

-- What is left behind the value from these bytes on, at which a token stands: what is left behind that, or what further finds.
abbrev pub behind_at : (ℕ → List ℕ → List ℕ) → ℕ → TokenKind → List ℕ → List ℕ → List ℕ
behind_at further depth k text bs =
    if ends_value depth k then drop (length text) bs else further (depth_behind depth k) (drop (length text) bs)

abbrev pub behind_in : (ℕ → List ℕ → List ℕ) → ℕ → List ℕ → Lexed → List ℕ
behind_in further depth bs finished = []
behind_in further depth bs (bad start) = []
behind_in further depth bs (token k start text rest) = behind_at further depth k text (drop start bs)

abbrev pub behind_by : ℕ → ℕ → List ℕ → List ℕ
behind_by zero depth bs = []
behind_by (suc n) depth bs = behind_in (behind_by n) depth bs (lexed (whole bs))

unfoldable pub behind : List ℕ → List ℕ
behind bs = behind_by (length bs) 0 bs

abbrev pub value_size : List ℕ → ℕ
value_size bs = length bs - length (behind bs)
