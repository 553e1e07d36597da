-- What reading wants next, as the tokens before a place leave it: a stack of goals, of which each is reached when those above it
-- are read. The tokens are taken to be right, as they are in front of the place where reading stops.
use Rattle.std.specs.Prelude.{ℕ, ◌+◌, ◌-◌, ◌==◌, Bool, true, false, nat_lt, if◌then◌else◌, List, [], ◌∷◌, Option, Some, None, slice_get}
use Rattle.std.specs.Option.{option_map}
use Rattle.mh_group.specs.declared.class.Class.{Class}
use Rattle.mh_group.specs.declared.attribute.Attribute.{Attribute}
use Rattle.mh_group.specs.declared.action_name.ActionName.{ActionName}
use Rattle.mh_group.specs.declared.shape.Shape.{Shape}
use Rattle.mh_group.specs.declared.shape.Shape.TheVariants as shape
use Rattle.mh_group.specs.declared.shape.Need.TheVariants as need
use Rattle.mh_group.specs.Table.{shape_of, needs_of}
use Rattle.mh_misread.specs.declared.name.Name.TheVariants as name
use Rattle.mh_misread.specs.declared.piece.Sign.{Sign}
use Rattle.mh_misread.specs.declared.piece.Sign.TheVariants as sign
use Rattle.mh_misread.specs.declared.piece.Piece.{Piece}
use Rattle.mh_misread.specs.declared.part.Row.{Row}
use Rattle.mh_misread.specs.declared.part.Row.TheVariants as row
use Rattle.mh_misread.specs.declared.part.Listed.{Listed}
use Rattle.mh_misread.specs.declared.part.Listed.TheVariants as listed
use Rattle.mh_misread.specs.declared.part.Part.{Part}
use Rattle.mh_misread.specs.declared.part.Part.TheVariants as part
use Rattle.mh_misread.specs.declared.goal.Goal.{Goal}
use Rattle.mh_misread.specs.declared.goal.Goal.TheVariants as goal
use Rattle.mh_misread.specs.declared.goal.Frame.{Frame}
use Rattle.mh_misread.specs.declared.goal.Next.{Next}

-- THE PARTS OF ROWS

-- the parts of a row that has always the same
abbrev pub parts_of : Row → List Part
parts_of row.Identifier = part.Name ∷ part.Zero ∷ []
parts_of row.Reference = part.Name ∷ part.Number ∷ []
parts_of row.ContentName = part.Name ∷ []
parts_of row.Position = part.Integer ∷ part.Integer ∷ []
parts_of row.NextScene = part.Name ∷ part.Integer ∷ []
parts_of row.ListItem = part.Object ∷ []
parts_of _ = []

abbrev pub member_part : ℕ → Part
member_part n = if n == 0 then part.Object else part.Slot

abbrev pub action_part : ActionName → ℕ → Option Part
action_part a n = if n == 0 then Some part.Target else option_map part.Need (slice_get (needs_of a) (n - 1))

-- the part of a row that stands behind so many; none where the row ends
abbrev pub part_at : Row → ℕ → Option Part
part_at row.Member n = Some (member_part n)
part_at (row.Action a) n = action_part a n
part_at r n = slice_get (parts_of r) n

-- WHAT STANDS WITHIN A VALUE

-- A value that goes on behind its first token: a bracket is the beginning of what it opens; a brace, and the keywords that stand in
-- front of others, have the same behind them in every value.
unfoldable pub inside : Option Goal → Sign → Option Goal
inside opened sign.Open = opened
inside opened sign.OpenBrace = Some goal.ItemClass
inside opened (sign.Name (name.Action a)) = Some (goal.Open (row.Action a))
inside opened (sign.Name name.IndirectRef) = Some goal.Variable
inside opened (sign.Name name.ContentRef) = Some (goal.Open row.ContentName)
inside opened (sign.Name (name.Kind k)) = Some (goal.OfKind k)
inside opened s = None

abbrev pub reference : Option Goal
reference = Some (goal.Part row.Reference 0)

-- what the bracket opens with which a part begins
abbrev pub opened_by_part : Part → Option Goal
opened_by_part part.Object = reference
opened_by_part part.Target = reference
opened_by_part part.Slot = Some (goal.Members listed.Actions)
opened_by_part (part.Need need.Ref) = reference
opened_by_part (part.Need (need.Receiver k)) = reference
opened_by_part (part.Need need.Arguments) = Some (goal.Members listed.Arguments)
opened_by_part _ = None

-- what the bracket opens with which the value of an attribute begins
abbrev pub opened_by_shape : Shape → Option Goal
opened_by_shape shape.Items = Some (goal.Members listed.Items)
opened_by_shape shape.Effect = Some (goal.Members listed.Actions)
opened_by_shape shape.Ref = reference
opened_by_shape shape.MovementTable = Some (goal.Members listed.Rows)
opened_by_shape shape.Members = Some (goal.Members listed.Members)
opened_by_shape shape.ListItems = Some (goal.Members listed.ListItems)
opened_by_shape shape.Positions = Some (goal.Members listed.Positions)
opened_by_shape shape.NextScenes = Some (goal.Members listed.NextScenes)
opened_by_shape _ = None

-- what the bracket opens with which a member of a list begins
abbrev pub opened_by_member : Listed → Option Goal
opened_by_member listed.Rows = Some (goal.Members listed.Integers)
opened_by_member listed.Members = Some (goal.Part row.Member 0)
opened_by_member listed.ListItems = Some (goal.Part row.ListItem 0)
opened_by_member listed.Positions = Some (goal.Part row.Position 0)
opened_by_member listed.NextScenes = Some (goal.Part row.NextScene 0)
opened_by_member _ = None

-- the value is two integers
abbrev pub is_pair : Shape → Bool
is_pair shape.Pair = true
is_pair shape.Size = true
is_pair shape.Screen = true
is_pair _ = false

-- WHAT IS WANTED BEHIND A TOKEN

-- nothing more is wanted on this level, and this stands within
abbrev pub then_within : Option Goal → Next
then_within inner = record { here = None; within = inner }

-- this is wanted next on this level, once what stands within is read
abbrev pub and_within : Goal → Option Goal → Next
and_within here inner = record { here = Some here; within = inner }

abbrev pub behind_group_class : Sign → Next
behind_group_class (sign.Name (name.Class c)) = and_within (goal.Fields c) (Some (goal.Open row.Identifier))
behind_group_class s = then_within None

abbrev pub behind_item_class : Sign → Next
behind_item_class (sign.Name (name.Class c)) = and_within (goal.ItemNumber c) None
behind_item_class s = then_within None

abbrev pub behind_field : Class → Sign → Next
behind_field c (sign.Name (name.Attribute a)) = and_within (goal.Fields c) (Some (goal.Value c a))
behind_field c s = then_within None

-- behind the integer with which a value begins, of which it may be a half
abbrev pub behind_integer : Class → Attribute → Bool → Next
behind_integer c a true = and_within (goal.Second c a) None
behind_integer c a false = then_within None

abbrev pub behind_value : Class → Attribute → Sign → Next
behind_value c a sign.Integer = behind_integer c a (is_pair (shape_of c a))
behind_value c a s = then_within (inside (opened_by_shape (shape_of c a)) s)

-- no row has as many parts as are counted
abbrev pub one_more : ℕ → ℕ
one_more n = if nat_lt n 9 then n + 1 else n

abbrev pub within_part : Option Part → Sign → Option Goal
within_part (Some p) s = inside (opened_by_part p) s
within_part None s = None

abbrev pub behind_part : Row → ℕ → Sign → Next
behind_part r n sign.Close = then_within None
behind_part r n s = and_within (goal.Part r (one_more n)) (within_part (part_at r n) s)

abbrev pub behind_member : Listed → Sign → Next
behind_member l sign.Close = then_within None
behind_member l s = and_within (goal.Members l) (inside (opened_by_member l) s)

-- the value of a kind, and the reference of a variable, may be a reference in brackets
abbrev pub behind_goal : Goal → Sign → Next
behind_goal goal.Group s = then_within (Some goal.GroupClass)
behind_goal goal.GroupClass s = behind_group_class s
behind_goal goal.ItemClass s = behind_item_class s
behind_goal (goal.ItemNumber c) s = and_within (goal.Fields c) None
behind_goal (goal.Fields c) s = behind_field c s
behind_goal (goal.Value c a) s = behind_value c a s
behind_goal (goal.Second c a) s = then_within None
behind_goal (goal.Open r) s = then_within (Some (goal.Part r 0))
behind_goal (goal.Part r n) s = behind_part r n s
behind_goal (goal.Members l) s = behind_member l s
behind_goal (goal.OfKind k) s = then_within (inside reference s)
behind_goal goal.Variable s = then_within (inside reference s)

-- THE STACK

abbrev pub frame : ℕ → Goal → Frame
frame start g = record { goal = g; start = start }

abbrev pub with_goal : ℕ → Option Goal → List Frame → List Frame
with_goal start None fs = fs
with_goal start (Some g) fs = frame start g ∷ fs

-- Goals in front of others, the inner one first: it begins with the token that was read, and the other where it did before.
abbrev pub with_goals : ℕ → ℕ → Next → List Frame → List Frame
with_goals read before n fs = with_goal read n.within (with_goal before n.here fs)

-- what is wanted behind a token, where the goal on top wanted it
abbrev pub behind_piece : Piece → List Frame → List Frame
behind_piece p [] = []
behind_piece p (f ∷ fs) = with_goals p.start f.start (behind_goal f.goal p.sign) fs

abbrev pub behind_pieces : List Piece → List Frame → List Frame
behind_pieces [] fs = fs
behind_pieces (p ∷ ps) fs = behind_pieces ps (behind_piece p fs)

abbrev pub at_first : List Frame
at_first = frame 0 goal.Group ∷ []

-- what is wanted behind the tokens, with what is reached next on top
unfoldable pub wanted_behind : List Piece → List Frame
wanted_behind ps = behind_pieces ps at_first
