-- What is found in a text besides its actions: where its classes, the numbers of its ingredients and its names stand; and
-- through which variables an action goes.
use Rattle.std.specs.Prelude.{ℕ, suc, ◌+◌, ◌-◌, Bool, true, false, ◌&&◌, ◌==◌, nat_le, if◌then◌else◌, List, [], ◌∷◌, ◌++◌, length, Option, Some, None, option_to_list, option_map, unsigned_abs}
use Rattle.mh_base.specs.Reading.{whole}
use Rattle.mh_group.specs.declared.attribute.Attribute.{Attribute}
use Rattle.mh_group.specs.declared.attribute.Attribute.TheVariants as attribute
use Rattle.mh_text.specs.declared.sign.Sign.{Sign}
use Rattle.mh_text.specs.declared.sign.Sign.TheVariants as sign
use Rattle.mh_text.specs.declared.landmark.Sight.{Sight as WrittenSight}
use Rattle.mh_text.specs.declared.landmark.Sight.TheVariants as written
use Rattle.mh_text.specs.declared.landmark.landmarking.Front.{Front}
use Rattle.mh_text.specs.declared.landmark.landmarking.Front.TheVariants as front
use Rattle.mh_text.specs.declared.variables.Coming.{Coming as WrittenComing}
use Rattle.mh_text.specs.declared.variables.Coming.TheVariants as coming
use Rattle.mh_text.specs.Rest.{Piece}
use Rattle.mh_text.specs.Left.{left}
use Rattle.mh_text.specs.Reading.{inner, is_close}

-- LANDMARKS

-- the name of a class, the number of an ingredient, or a name that has to lead somewhere
pub data Sight : Type 0 where
  Class : Sight
  Number : ℕ → Sight
  Name : List ℕ → Sight

pub record Landmark : Type 0 where
  pub sight : Sight
  pub start : ℕ
  pub length : ℕ

-- what the code holds, with the bytes of a name for a slice of the text
abbrev pub sight_of : WrittenSight → Sight
sight_of written.Class = Class
sight_of (written.Number n) = Number n
sight_of (written.Name name) = Name name.now

-- the landmark lies within so many bytes
abbrev pub is_within : ℕ → Landmark → Bool
is_within n l = nat_le (l.start + l.length) n

-- what tells a token's sense: the field in which it stands, and the token in front of it
pub record Standing : Type 0 where
  pub field : Attribute
  pub front : Front

abbrev pub at_first : Standing
at_first = record { field = attribute.Items; front = front.Other }

abbrev pub field_behind : Attribute → Sign → Attribute
field_behind a (sign.Attribute b) = b
field_behind a _ = a

-- the bracket right behind a class is that of the group's identifier
abbrev pub front_behind : Front → Sign → Front
front_behind f (sign.Class c) = front.Class
front_behind front.Class sign.OpenParenthesis = front.Other
front_behind _ sign.OpenParenthesis = front.Open
front_behind _ _ = front.Other

abbrev pub behind : Standing → Sign → Standing
behind s g = record { field = field_behind s.field g; front = front_behind s.front g }

-- the scenes that may come next are only kept, wherever their names lead
abbrev pub must_lead : Attribute → Bool
must_lead attribute.NextScenes = false
must_lead _ = true

abbrev pub sight : Standing → Piece → Option Sight
sight s p = seen s.front p.sign
  where
    seen : Front → Sign → Option Sight
    seen f (sign.Class c) = Some Class
    seen front.Class (sign.Integer x) = Some (Number (unsigned_abs x))
    seen front.Open sign.Text = if must_lead s.field then Some (Name (inner p.text)) else None
    seen f g = None

abbrev pub landmark : Piece → Sight → Landmark
landmark p x = record { sight = x; start = p.start; length = length p.text }

abbrev pub landmarks_from : Standing → List Piece → List Landmark
landmarks_from s [] = []
landmarks_from s (p ∷ ps) = option_to_list (option_map (landmark p) (sight s p)) ++ landmarks_from (behind s p.sign) ps

-- the landmarks of a text, up to the first token that is wrong
unfoldable pub landmarks : List ℕ → List Landmark
landmarks bytes = landmarks_from at_first (left false (whole bytes)).pieces

-- VARIABLES OF ACTIONS

-- a variable through which an action goes, by the name of its group, if that is written, and its number
pub record Through : Type 0 where
  pub name : Option (List ℕ)
  pub number : ℕ

-- what of a reference to a variable is still to come: there is none; all of it; what stands in its brackets; its number, behind
-- this name
pub data Coming : Type 0 where
  Nothing : Coming
  Reference : Coming
  Bracketed : Coming
  Numbered : List ℕ → Coming

-- what the code holds, with the bytes of a name for a slice of the text
abbrev pub coming_of : WrittenComing → Coming
coming_of coming.Nothing = Nothing
coming_of coming.Reference = Reference
coming_of coming.Bracketed = Bracketed
coming_of (coming.Numbered name) = Numbered name.now

abbrev pub coming_behind : Coming → Piece → Coming
coming_behind k p = next k p.sign
  where
    next : Coming → Sign → Coming
    next k sign.IndirectRef = Reference
    next Reference sign.OpenParenthesis = Bracketed
    next Bracketed sign.Text = Numbered (inner p.text)
    next k g = Nothing

abbrev pub through : Coming → Sign → Option Through
through Reference (sign.Integer x) = Some (record { name = None; number = unsigned_abs x })
through (Numbered name) (sign.Integer x) = Some (record { name = Some name; number = unsigned_abs x })
through k g = None

-- how many brackets stand open behind the token
abbrev pub open_behind : ℕ → Sign → ℕ
open_behind n sign.OpenParenthesis = suc n
open_behind n sign.CloseParenthesis = n - 1
open_behind n g = n

-- the variables in these tokens, of which so many brackets stand open in front, up to where the last of them closes
abbrev pub variables_from : ℕ → Coming → List Piece → List Through
variables_from n k [] = []
variables_from n k (p ∷ ps) =
    if is_close p.sign && n == 1 then []
    else option_to_list (through k p.sign) ++ variables_from (open_behind n p.sign) (coming_behind k p) ps

-- the tokens from the one on that begins at the offset
abbrev pub pieces_at : ℕ → List Piece → List Piece
pieces_at start [] = []
pieces_at start (p ∷ ps) = if p.start == start then p ∷ ps else pieces_at start ps

-- the variables through which the action goes whose keyword begins at the offset
unfoldable pub variables_at : List ℕ → ℕ → List Through
variables_at bytes start = variables_from 0 Nothing (pieces_at start (left false (whole bytes)).pieces)
