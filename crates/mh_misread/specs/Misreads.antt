-- What is wrong with a text, of which it is known at which offset reading stopped, and by which number.
use Rattle.std.specs.Prelude.{ℕ, ◌-◌, ◌==◌, ◌&&◌, ◌||◌, Bool, true, false, not, nat_lt, if◌then◌else◌, List, [], ◌∷◌, length, slice_get, take, drop, Option, Some, None}
use Rattle.std.specs.List.{find, list_any}
use Rattle.std.specs.Option.{option_map}
use Rattle.mh_base.specs.Reading.{whole}
use Rattle.mh_base.specs.declared.value.Kind.TheVariants as kind
use Rattle.mh_group.specs.declared.class.Class.{Class}
use Rattle.mh_group.specs.declared.attribute.Attribute.{Attribute}
use Rattle.mh_group.specs.declared.attribute.Attribute.TheVariants as attribute
use Rattle.mh_group.specs.declared.shape.Shape.{Shape}
use Rattle.mh_group.specs.declared.shape.Shape.TheVariants as shape
use Rattle.mh_group.specs.declared.shape.Need.TheVariants as need
use Rattle.mh_group.specs.Table.{shape_of, takes, required_of, is_group_class}
use Rattle.mh_text.specs.declared.token.kind.TokenKind.{TokenKind}
use Rattle.mh_text.specs.declared.token.kind.TokenKind.TheVariants as token_kind
use Rattle.mh_text.specs.Left.{Lexed, token, lexed}
use Rattle.mh_misread.specs.declared.name.Name.{Name}
use Rattle.mh_misread.specs.declared.name.Name.TheVariants as name
use Rattle.mh_misread.specs.declared.piece.Sign.{Sign}
use Rattle.mh_misread.specs.declared.piece.Sign.TheVariants as sign
use Rattle.mh_misread.specs.declared.piece.Piece.{Piece}
use Rattle.mh_misread.specs.declared.part.Row.TheVariants as row
use Rattle.mh_misread.specs.declared.part.Part.{Part}
use Rattle.mh_misread.specs.declared.part.Part.TheVariants as part
use Rattle.mh_misread.specs.declared.goal.Goal.{Goal}
use Rattle.mh_misread.specs.declared.goal.Goal.TheVariants as goal
use Rattle.mh_misread.specs.declared.goal.Frame.{Frame}
use Rattle.mh_misread.specs.declared.misread.Misread.{Misread}
use Rattle.mh_misread.specs.declared.misread.Misread.TheVariants as misread
use Rattle.mh_misread.specs.Pieces.{sign_of, pieces_before, is_keyword_of}
use Rattle.mh_misread.specs.Goals.{part_at, wanted_behind}
use Rattle.mh_misread.specs.Slips.{slip_of}
use Rattle.mh_misread.specs.Held.{first_keyword, last_start}
use Rattle.mh_misread.specs.Unknown.{unknown}
use Rattle.mh_text.specs.Bytes.{is_letter_or_digit}

-- THE TOKEN AT THE PLACE

-- the kind and the bytes of a token that was found
abbrev pub told_token : Lexed → Option (TokenKind × List ℕ)
told_token (token k start text rest) = Some (k, text)
told_token l = None

abbrev pub first_token : List ℕ → Option (TokenKind × List ℕ)
first_token bs = told_token (lexed (whole bs))

abbrev pub first_sign : List ℕ → Option Sign
first_sign bs = option_map (λ t. sign_of t.0 t.1) (first_token bs)

-- THE GOALS THAT MATTER

-- an action or a field is being read
abbrev pub is_row : Goal → Bool
is_row (goal.Value c a) = true
is_row (goal.Second c a) = true
is_row (goal.Open (row.Action a)) = true
is_row (goal.Part (row.Action a) n) = true
is_row _ = false

-- it began with a bracket or a brace, which is open
abbrev pub is_open : Goal → Bool
is_open goal.GroupClass = true
is_open goal.ItemClass = true
is_open (goal.ItemNumber c) = true
is_open (goal.Fields c) = true
is_open (goal.Part r n) = true
is_open (goal.Members l) = true
is_open _ = false

abbrev pub is_reference_shape : Shape → Bool
is_reference_shape shape.Ref = true
is_reference_shape _ = false

abbrev pub is_reference_part : Option Part → Bool
is_reference_part (Some part.Object) = true
is_reference_part (Some part.Target) = true
is_reference_part (Some (part.Need need.Ref)) = true
is_reference_part (Some (part.Need (need.Receiver k))) = true
is_reference_part _ = false

-- a reference is wanted
abbrev pub is_reference : Goal → Bool
is_reference (goal.Value c a) = is_reference_shape (shape_of c a)
is_reference (goal.Part r n) = is_reference_part (part_at r n)
is_reference (goal.OfKind kind.Object) = true
is_reference goal.Variable = true
is_reference _ = false

-- TOKENS THAT ARE NOT WANTED (21)

-- the attribute is the keyword of a token behind this offset
abbrev pub has_keyword : List Piece → ℕ → Attribute → Bool
has_keyword ps start a = list_any (λ (p : Piece). nat_lt start p.start && is_keyword_of a p.sign) ps

-- the field that an object of the class lacks, whose brace stands at the offset
abbrev pub lacking : List Piece → ℕ → Class → Option Attribute
lacking ps start c = find (λ a. not (has_keyword ps start a)) (required_of c)

abbrev pub ended : Class → Option Attribute → Misread
ended c (Some a) = misread.Lacks c a
ended c None = misread.Unwanted (goal.Fields c) None

abbrev pub taken : Class → Attribute → Misread
taken c a = if takes c a then misread.Twice c a else misread.NotTaken c a

-- an item wants to stand in the items of a group
abbrev pub items_row : Class → Option Goal
items_row c = if takes c attribute.Items then Some (goal.Value c attribute.Items) else None

-- an action wants to stand in an effect
abbrev pub effect_row : Class → Option Goal
effect_row c =
    if takes c attribute.LinkEffect then Some (goal.Value c attribute.LinkEffect)
    else (if takes c attribute.OnStartUp then Some (goal.Value c attribute.OnStartUp) else None)

-- a bracket that ends a list, in which the item's brace is open; a group stands in no list
abbrev pub at_close : Class → ℕ → Misread
at_close c start = if is_group_class c then misread.Unwanted (goal.Fields c) None else misread.Unclosed start

unfoldable pub field_misread : List Piece → ℕ → Class → Sign → Misread
field_misread ps start c sign.CloseBrace = ended c (lacking ps start c)
field_misread ps start c sign.Close = at_close c start
field_misread ps start c (sign.Name (name.Attribute a)) = taken c a
field_misread ps start c sign.OpenBrace = misread.Unwanted (goal.Fields c) (items_row c)
field_misread ps start c (sign.Name (name.Action a)) = misread.Unwanted (goal.Fields c) (effect_row c)
field_misread ps start c s = misread.Unwanted (goal.Fields c) None

-- at a brace or the keyword of a field, and at a string, where this began at the offset and an action or a field is being read

abbrev pub at_brace : Goal → ℕ → Option Goal → Misread
at_brace (goal.Part p n) start r = misread.Unclosed start
at_brace (goal.Members l) start r = misread.Unclosed start
at_brace g start r = misread.Unwanted g r

abbrev pub at_string : Goal → Option Goal → Misread
at_string g r = if is_reference g then misread.BareName else misread.Unwanted g r

unfoldable pub value_misread : Goal → ℕ → Option Goal → Sign → Misread
value_misread g start r sign.CloseBrace = at_brace g start r
value_misread g start r (sign.Name (name.Attribute a)) = at_brace g start r
value_misread g start r sign.String = at_string g r
value_misread g start r s = misread.Unwanted g r

abbrev pub goal_misread : List Piece → Frame → Option Goal → Sign → Misread
goal_misread ps f r s = told f.goal
  where
    told : Goal → Misread
    told (goal.Fields c) = field_misread ps f.start c s
    told g = value_misread g f.start r s

-- a goal that was taken off, in front of those below it; where there is none, there are none below
abbrev pub with_top : Option Frame → List Frame → List Frame
with_top (Some f) fs = f ∷ fs
with_top None fs = []

-- where the innermost bracket or brace stands that is open
abbrev pub open_at : List Frame → ℕ
open_at [] = 0
open_at (f ∷ fs) = if is_open f.goal then f.start else open_at fs

-- the action or the field that is being read
abbrev pub row_of : List Frame → Option Goal
row_of [] = None
row_of (f ∷ fs) = if is_row f.goal then Some f.goal else row_of fs

-- WHITE SPACE THAT LACKS (21)

-- the token is a keyword, a word or an integer
abbrev pub is_bare : Sign → Bool
is_bare (sign.Name n) = true
is_bare sign.Unknown = true
is_bare sign.Integer = true
is_bare _ = false

abbrev pub is_bare_byte : Option ℕ → Bool
is_bare_byte (Some b) = is_letter_or_digit b
is_bare_byte None = false

-- the bytes end with a letter or a digit
abbrev pub ends_bare : List ℕ → Bool
ends_bare bs = is_bare_byte (slice_get bs (length bs - 1))

-- THE CASES

-- what is wrong at a place where the token is not wanted, where these are the goals
abbrev pub syntax_at : List Piece → List Frame → Option Sign → Misread
syntax_at ps [] s = misread.Behind
syntax_at ps (f ∷ fs) None = misread.TextEnds (open_at (f ∷ fs))
syntax_at ps (f ∷ fs) (Some s) = goal_misread ps f (row_of (f ∷ fs)) s

abbrev pub lacks_gap : List ℕ → Option Sign → Bool
lacks_gap front None = false
lacks_gap front (Some s) = is_bare s && ends_bare front

unfoldable pub syntax : List ℕ → ℕ → Misread
syntax file offset =
    if lacks_gap (take offset file) (first_sign (drop offset file)) then misread.Tight
    else syntax_at (pieces_before file offset) (wanted_behind (pieces_before file offset)) (first_sign (drop offset file))

abbrev pub top_of : List Frame → Option Frame
top_of [] = None
top_of (f ∷ fs) = Some f

abbrev pub unknown_at : Option Frame → Option (TokenKind × List ℕ) → Option Misread
unknown_at None t = None
unknown_at (Some f) None = None
unknown_at (Some f) (Some t) = Some (unknown f.goal t.0 t.1)

-- a word right behind the end of a string

abbrev pub is_string_mark : Option ℕ → Bool
is_string_mark (Some b) = b == 34 || b == 39
is_string_mark None = false

abbrev pub ends_string : List ℕ → Bool
ends_string bs = is_string_mark (slice_get bs (length bs - 1))

abbrev pub is_word : TokenKind → Bool
is_word token_kind.Word = true
is_word _ = false

abbrev pub is_behind_string : List ℕ → Option (TokenKind × List ℕ) → Bool
is_behind_string front None = false
is_behind_string front (Some t) = ends_string front && is_word t.0

unfoldable pub unknown_name : List ℕ → ℕ → Option Misread
unknown_name file offset =
    if is_behind_string (take offset file) (first_token (drop offset file)) then Some misread.BehindString
    else unknown_at (top_of (wanted_behind (pieces_before file offset))) (first_token (drop offset file))

abbrev pub range_at : Option Frame → Option Misread
range_at (Some f) = Some (misread.OutOfRange f.goal)
range_at None = None

unfoldable pub out_of_range : List ℕ → ℕ → Option Misread
out_of_range file offset = range_at (top_of (wanted_behind (pieces_before file offset)))

-- the keyword in the string that ends right in front of the offset, if one does
unfoldable pub held_before : List ℕ → ℕ → Option Name
held_before file offset =
    if ends_string (take offset file) then first_keyword (drop (last_start (pieces_before file offset)) (take offset file)) else None

-- what is wrong with the token itself
unfoldable pub own_misread : List ℕ → ℕ → ℕ → Option Misread
own_misread file offset number =
    if number == 20 then option_map misread.Slip (slip_of (drop offset file))
    else (if number == 21 then Some (syntax file offset) else unknown_name file offset)

abbrev pub held_or : Option Name → Option Misread → Option Misread
held_or (Some n) own = Some (misread.HoldsKeyword n)
held_or None own = own

-- a string in front that holds a keyword is the first cause
unfoldable pub token_misread : List ℕ → ℕ → ℕ → Option Misread
token_misread file offset number = held_or (held_before file offset) (own_misread file offset number)

-- it is at a token that reading stopped
abbrev pub is_of_token : ℕ → Bool
is_of_token number = number == 20 || (number == 21 || number == 22)

-- what is wrong with a file that is refused at the offset by the number; none where no case is known
unfoldable pub misread_of : List ℕ → ℕ → ℕ → Option Misread
misread_of file offset number =
    if is_of_token number then token_misread file offset number
    else (if number == 23 then out_of_range file offset else None)
