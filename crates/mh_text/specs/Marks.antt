-- Where the actions and the lists of members of a text stand, as its tokens tell.
use Rattle.std.specs.Prelude.{ℕ, zero, suc, ◌+◌, Bool, true, false, ◌&&◌, ◌==◌, nat_le, if◌then◌else◌, List, [], ◌∷◌, ◌++◌, length, slice_get, Option, Some, None, is_some, is_none, option_to_list, unsigned_abs}
use Rattle.std.specs.List.{filter, find}
use Rattle.mh_base.specs.Reading.{whole}
use Rattle.mh_group.specs.declared.attribute.Attribute.{Attribute}
use Rattle.mh_group.specs.declared.attribute.Attribute.TheVariants as attribute
use Rattle.mh_group.specs.declared.action_name.ActionName.{ActionName}
use Rattle.mh_text.specs.declared.sign.Sign.{Sign}
use Rattle.mh_text.specs.declared.sign.Sign.TheVariants as sign
use Rattle.mh_text.specs.declared.mark.Mark.{Mark}
use Rattle.mh_text.specs.declared.mark.Turn.{Turn}
use Rattle.mh_text.specs.declared.mark.Turn.TheVariants as turn
use Rattle.mh_text.specs.declared.mark.marking.Spot.{Spot}
use Rattle.mh_text.specs.Rest.{Left, Piece}
use Rattle.mh_text.specs.Left.{left}

-- The beginning of a text, and where an ingredient has ended: there the group's next field begins, or the
-- next of its items.
abbrev pub in_group : Spot
in_group = record { object = 0; field = attribute.Items; is_behind_class = false }

-- Where the tokens behind such a one stand, which stands here: the class of an ingredient has its number
-- behind it, that of a group has none.
abbrev pub behind : Spot → Sign → Spot
behind s sign.CloseBrace = in_group
behind s (sign.Class _) = record s { is_behind_class = true }
behind s (sign.Integer x) =
    if s.is_behind_class then record s { object = unsigned_abs x; is_behind_class = false }
    else record s { is_behind_class = false }
behind s (sign.Attribute a) = record s { field = a; is_behind_class = false }
behind s _ = record s { is_behind_class = false }

abbrev pub mark : Spot → Option ActionName → Piece → Mark
mark s name p = record { object = s.object; field = s.field; action = name; start = p.start; length = length p.text }

-- the mark of a token, if it is the keyword of an action or of a list of members
abbrev pub mark_at : Spot → Piece → Option Mark
mark_at s p = told p.sign
  where
    told : Sign → Option Mark
    told (sign.Action name) = Some (mark s (Some name) p)
    told (sign.Attribute attribute.TokenGroupItems) = Some (mark s None p)
    told _ = None

-- the marks of the tokens, of which the first stands here
abbrev pub marks_from : Spot → List Piece → List Mark
marks_from s [] = []
marks_from s (p ∷ ps) = let here = behind s p.sign in option_to_list (mark_at here p) ++ marks_from here ps

-- the marks of a text, up to the first token that is wrong
unfoldable pub marks : List ℕ → List Mark
marks bytes = marks_from in_group (left false (whole bytes)).pieces

-- the tokens of a place where the next is this one, with what is left behind it
abbrev pub pieces_of : Option Piece → Left → List Piece
pieces_of None _ = []
pieces_of (Some p) rest = p ∷ rest.pieces

-- the mark lies within so many bytes
abbrev pub is_within : ℕ → Mark → Bool
is_within n m = nat_le (m.start + m.length) n

-- the actions of the field have this turn
abbrev pub is_in : Turn → Attribute → Bool
is_in turn.StartUp attribute.OnStartUp = true
is_in turn.CloseDown attribute.OnCloseDown = true
is_in turn.Last attribute.OnStartUp = false
is_in turn.Last attribute.OnCloseDown = false
is_in turn.Last _ = true
is_in _ _ = false

abbrev pub is_action_of : ℕ → Turn → Mark → Bool
is_action_of o t m = m.object == o && is_some m.action && is_in t m.field

-- The actions of an object in the order in which they are counted: those of OnStartUp, those of
-- OnCloseDown, and all others, each as they stand in the text.
abbrev pub actions_of : ℕ → List Mark → List Mark
actions_of o ms =
    filter (is_action_of o turn.StartUp) ms ++ filter (is_action_of o turn.CloseDown) ms ++ filter (is_action_of o turn.Last) ms

-- it is a list of members of the object
abbrev pub is_list_of : ℕ → Mark → Bool
is_list_of o m = m.object == o && is_none m.action

-- the action with this number of the object, from 1 on; with 0 its list of members
abbrev pub mark_of : List Mark → ℕ → ℕ → Option Mark
mark_of ms o zero = find (is_list_of o) ms
mark_of ms o (suc n) = slice_get (actions_of o ms) n
