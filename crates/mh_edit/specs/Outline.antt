-- What a text is made of: the objects that it defines, and what its brackets hold.
use Rattle.std.specs.Prelude.{ℕ, List, [], ◌∷◌, ◌++◌, Option, Some, None, option_to_list}
use Rattle.mh_group.specs.declared.class.Class.{Class}
use Rattle.mh_text.specs.declared.token.kind.TokenKind.{TokenKind}
use Rattle.mh_text.specs.declared.token.kind.TokenKind.TheVariants as kind
use Rattle.mh_edit.specs.declared.word.Word.{Word}
use Rattle.mh_edit.specs.declared.walk.Role.{Role}
use Rattle.mh_edit.specs.declared.walk.Role.TheVariants as role
use Rattle.mh_edit.specs.declared.walk.Spot.{Spot}
use Rattle.mh_edit.specs.declared.outline.Bracket.{Bracket}
use Rattle.mh_edit.specs.declared.outline.Bracket.TheVariants as bracket
use Rattle.mh_edit.specs.declared.outline.Outlined.{Outlined}
use Rattle.mh_edit.specs.declared.outline.Pair.{Pair}

-- OBJECTS

abbrev pub outlined_as : Spot → Option Class → Role → Option Outlined
outlined_as s (Some c) (role.Defines n) = Some (record { class = c; number = n; spot = s })
outlined_as s _ _ = None

-- the object that is defined there
unfoldable pub outlined : Spot → Option Outlined
outlined s = outlined_as s s.class s.role

-- the objects that are defined, in the order in which they stand there
abbrev pub outline : List Spot → List Outlined
outline [] = []
outline (s ∷ ss) = option_to_list (outlined s) ++ outline ss

-- BRACKETS

abbrev pub bracket_of : TokenKind → Bracket
bracket_of kind.OpenBrace = bracket.Opens
bracket_of kind.OpenParenthesis = bracket.Opens
bracket_of kind.CloseBrace = bracket.Closes
bracket_of kind.CloseParenthesis = bracket.Closes
bracket_of _ = bracket.Neither

-- the last of those that are open stands first
abbrev pub first_of : List ℕ → Option ℕ
first_of [] = None
first_of (o ∷ os) = Some o

-- the pair that a bracket closes behind those that are open
abbrev pub pair_at : Bracket → ℕ → List ℕ → Option Pair
pair_at bracket.Closes close (o ∷ os) = Some (record { start = o; end = close })
pair_at _ close os = None

abbrev pub opens_behind : Bracket → ℕ → List ℕ → List ℕ
opens_behind bracket.Opens start os = start ∷ os
opens_behind bracket.Closes start [] = []
opens_behind bracket.Closes start (o ∷ os) = os
opens_behind bracket.Neither start os = os

abbrev pub pairs_in : List ℕ → List Word → List Pair
pairs_in os [] = []
pairs_in os (w ∷ ws) =
    option_to_list (pair_at (bracket_of w.kind) w.at.start os) ++ pairs_in (opens_behind (bracket_of w.kind) w.at.start os) ws

-- the brackets that belong together, in the order in which they close
abbrev pub pairs : List Word → List Pair
pairs ws = pairs_in [] ws
