-- What may stand at a place of a text, in words that an author is told.
use Rattle.std.specs.Prelude.{ℕ, List, codes}
use Rattle.mh_base.specs.declared.value.Kind.{Kind}
use Rattle.mh_base.specs.declared.value.Kind.TheVariants as kind
use Rattle.mh_group.specs.declared.shape.Shape.{Shape}
use Rattle.mh_group.specs.declared.shape.Shape.TheVariants as shape
use Rattle.mh_group.specs.declared.shape.Need.{Need}
use Rattle.mh_group.specs.declared.shape.Need.TheVariants as need
use Rattle.mh_misread.specs.declared.part.Row.{Row}
use Rattle.mh_misread.specs.declared.part.Row.TheVariants as row
use Rattle.mh_misread.specs.declared.part.Part.{Part}
use Rattle.mh_misread.specs.declared.part.Part.TheVariants as part
use Rattle.mh_misread.specs.declared.part.Listed.{Listed}
use Rattle.mh_misread.specs.declared.part.Listed.TheVariants as listed
use Rattle.mh_misread.specs.declared.limits.Limits.{Limits}
use Rattle.mh_misread.specs.declared.limits.Limits.TheVariants as limits
use Rattle.mh_misread.specs.declared.words.TheConstants.{AN_IDENTIFIER, A_FILE_NAME, ANY_INTEGER, AN_ACTION, AN_ARGUMENT, AN_EVENT, AN_INTEGER, AN_ITEM, ARGUMENTS, A_COLOUR, A_CONTENT, A_CONTENT_NAME, A_FURTHER_INTEGER, A_JUSTIFICATION, A_LENGTH, A_LIST_ITEM, A_LIST_OF_ACTIONS, A_LIST_OF_ITEMS, A_LIST_OF_MEMBERS, A_LIST_OF_POSITIONS, A_LIST_OF_REFERENCES, A_LIST_OF_SCENES, A_MEMBER, A_MOVEMENT_TABLE, A_NAME, A_NATURAL, A_NEXT_SCENE, A_NUMBER, A_POSITION, A_RECEIVER, A_REFERENCE, A_ROW, A_SECOND_INTEGER, A_SECOND_NATURAL, A_SIZE, A_SLOT, A_STRING, A_TARGET, A_TRUTH, A_TYPED_VALUE, BOOLEAN, CONTENT, DATA, EVENT, EVENT_DATA, FOUR_OCTETS, FROM_ONE, FROM_ZERO, GROUP_NUMBER, INTEGER, REFERENCE, SCREEN_HEIGHT, SCREEN_WIDTH, STRING, THE_HEIGHT, THE_SCREEN, TWO_INTEGERS, TYPED, TYPED_LIST, VARIABLE, ZERO}

unfoldable pub open_words : Row → List ℕ
open_words row.Identifier = AN_IDENTIFIER.now
open_words row.ContentName = A_FILE_NAME.now
open_words r = codes "`(`"

unfoldable pub shape_words : Shape → List ℕ
shape_words shape.Items = A_LIST_OF_ITEMS.now
shape_words shape.Effect = A_LIST_OF_ACTIONS.now
shape_words shape.Bool = A_TRUTH.now
shape_words shape.Int = AN_INTEGER.now
shape_words shape.Natural = A_NATURAL.now
shape_words shape.Length = A_LENGTH.now
shape_words shape.Pair = TWO_INTEGERS.now
shape_words shape.Size = A_SIZE.now
shape_words shape.Screen = THE_SCREEN.now
shape_words shape.Ref = A_REFERENCE.now
shape_words shape.Event = AN_EVENT.now
shape_words shape.Data = EVENT_DATA.now
shape_words shape.Octets = A_STRING.now
shape_words shape.Colour = A_COLOUR.now
shape_words shape.Content = A_CONTENT.now
shape_words shape.ContentRef = A_CONTENT_NAME.now
shape_words shape.Justification = A_JUSTIFICATION.now
shape_words shape.MovementTable = A_MOVEMENT_TABLE.now
shape_words shape.Members = A_LIST_OF_MEMBERS.now
shape_words shape.ListItems = A_LIST_OF_REFERENCES.now
shape_words shape.Positions = A_LIST_OF_POSITIONS.now
shape_words shape.NextScenes = A_LIST_OF_SCENES.now

unfoldable pub need_words : Need → List ℕ
need_words need.Bool = A_TRUTH.now
need_words need.Int = AN_INTEGER.now
need_words need.Octets = A_STRING.now
need_words need.Ref = A_REFERENCE.now
need_words need.Content = A_CONTENT.now
need_words need.Data = EVENT_DATA.now
need_words need.Event = AN_EVENT.now
need_words (need.Receiver k) = A_RECEIVER.now
need_words need.Typed = A_TYPED_VALUE.now
need_words need.Arguments = ARGUMENTS.now

unfoldable pub need_name : Need → List ℕ
need_name need.Bool = BOOLEAN.now
need_name need.Int = INTEGER.now
need_name need.Octets = STRING.now
need_name need.Ref = REFERENCE.now
need_name need.Content = CONTENT.now
need_name need.Data = DATA.now
need_name need.Event = EVENT.now
need_name (need.Receiver k) = VARIABLE.now
need_name need.Typed = TYPED.now
need_name need.Arguments = TYPED_LIST.now

unfoldable pub part_words : Part → List ℕ
part_words part.Name = A_NAME.now
part_words part.Zero = ZERO.now
part_words part.Number = A_NUMBER.now
part_words part.Integer = AN_INTEGER.now
part_words part.Object = A_REFERENCE.now
part_words part.Slot = A_SLOT.now
part_words part.Target = A_TARGET.now
part_words (part.Need n) = need_words n

unfoldable pub member_words : Listed → List ℕ
member_words listed.Items = AN_ITEM.now
member_words listed.Actions = AN_ACTION.now
member_words listed.Rows = A_ROW.now
member_words listed.Integers = A_FURTHER_INTEGER.now
member_words listed.Members = A_MEMBER.now
member_words listed.ListItems = A_LIST_ITEM.now
member_words listed.Positions = A_POSITION.now
member_words listed.NextScenes = A_NEXT_SCENE.now
member_words listed.Arguments = AN_ARGUMENT.now

unfoldable pub kind_words : Kind → List ℕ
kind_words kind.Bool = A_TRUTH.now
kind_words kind.Int = AN_INTEGER.now
kind_words kind.Octets = A_STRING.now
kind_words kind.Object = A_REFERENCE.now
kind_words kind.Content = A_CONTENT_NAME.now

unfoldable pub second_words : Shape → List ℕ
second_words shape.Size = A_SECOND_NATURAL.now
second_words shape.Screen = SCREEN_HEIGHT.now
second_words _ = A_SECOND_INTEGER.now

unfoldable pub limits_words : Limits → List ℕ
limits_words limits.Integers = ANY_INTEGER.now
limits_words limits.Naturals = FROM_ZERO.now
limits_words limits.Positives = FROM_ONE.now
limits_words limits.Lengths = A_LENGTH.now
limits_words limits.Zero = GROUP_NUMBER.now
limits_words limits.Width = SCREEN_WIDTH.now
limits_words limits.Height = THE_HEIGHT.now
limits_words limits.Colours = FOUR_OCTETS.now
