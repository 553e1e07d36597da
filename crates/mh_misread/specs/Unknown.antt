-- What is wrong where a name stands that no table has.
use Rattle.std.specs.Prelude.{ℕ, Bool, true, false, if◌then◌else◌, List, drop, Option, Some, None}
use Rattle.mh_base.specs.declared.value.Kind.TheVariants as kind
use Rattle.mh_group.specs.declared.shape.Shape.{Shape}
use Rattle.mh_group.specs.declared.shape.Shape.TheVariants as shape
use Rattle.mh_group.specs.declared.shape.Need.TheVariants as need
use Rattle.mh_group.specs.Table.{shape_of}
use Rattle.mh_model.specs.declared.key.Key.{Key}
use Rattle.mh_text.specs.declared.token.kind.TokenKind.{TokenKind}
use Rattle.mh_text.specs.declared.token.kind.TokenKind.TheVariants as token_kind
use Rattle.mh_misread.specs.declared.name.Name.{Name}
use Rattle.mh_misread.specs.declared.nearest.Table.{Table}
use Rattle.mh_misread.specs.declared.nearest.Table.TheVariants as table
use Rattle.mh_misread.specs.declared.part.Listed.TheVariants as listed
use Rattle.mh_misread.specs.declared.part.Part.{Part}
use Rattle.mh_misread.specs.declared.part.Part.TheVariants as part
use Rattle.mh_misread.specs.declared.goal.Goal.{Goal}
use Rattle.mh_misread.specs.declared.goal.Goal.TheVariants as goal
use Rattle.mh_misread.specs.declared.misread.Misread.{Misread}
use Rattle.mh_misread.specs.declared.misread.Misread.TheVariants as misread
use Rattle.mh_misread.specs.Keys.{key_named}
use Rattle.mh_misread.specs.Names.{keyword_named}
use Rattle.mh_misread.specs.Nearest.{nearest}
use Rattle.mh_misread.specs.Goals.{part_at}

-- a value that has its kind in front, or else one that a variable or a file may hold
abbrev pub part_keywords : Option Part → Table
part_keywords (Some (part.Need need.Typed)) = table.Kinds
part_keywords p = table.Marks

-- the table in which a keyword is looked for, by what is wanted
abbrev pub keyword_table : Goal → Table
keyword_table goal.GroupClass = table.Classes
keyword_table goal.ItemClass = table.Classes
keyword_table (goal.Fields c) = table.Attributes
keyword_table (goal.Members listed.Actions) = table.Actions
keyword_table (goal.Members listed.Arguments) = table.Kinds
keyword_table (goal.Part r n) = part_keywords (part_at r n)
keyword_table _ = table.Marks

abbrev pub shape_words_table : Shape → Table
shape_words_table shape.Event = table.Events
shape_words_table shape.Justification = table.Justifications
shape_words_table shape.Bool = table.Truths
shape_words_table shape.Data = table.Truths
shape_words_table s = table.Marks

abbrev pub part_words_table : Option Part → Table
part_words_table (Some (part.Need need.Event)) = table.Events
part_words_table (Some (part.Need need.Bool)) = table.Truths
part_words_table (Some (part.Need need.Data)) = table.Truths
part_words_table p = part_keywords p

-- the table in which a word is looked for: where no word is wanted it may be a keyword without its colon
abbrev pub word_table : Goal → Table
word_table (goal.Value c a) = shape_words_table (shape_of c a)
word_table (goal.Part r n) = part_words_table (part_at r n)
word_table (goal.OfKind kind.Bool) = table.Truths
word_table g = keyword_table g

abbrev pub unknown_word : Goal → List ℕ → Option Name → Misread
unknown_word g text (Some n) = misread.NoColon n
unknown_word g text None = misread.Unknown g (nearest (word_table g) text)

abbrev pub is_data_shape : Shape → Bool
is_data_shape shape.Data = true
is_data_shape _ = false

abbrev pub is_data_part : Option Part → Bool
is_data_part (Some (part.Need need.Data)) = true
is_data_part _ = false

-- data of an event are wanted
abbrev pub is_data : Goal → Bool
is_data (goal.Value c a) = is_data_shape (shape_of c a)
is_data (goal.Part r n) = is_data_part (part_at r n)
is_data _ = false

-- the key with this name, where data of an event are wanted
abbrev pub key_at : Goal → List ℕ → Option Key
key_at g word = if is_data g then key_named word else None

abbrev pub unless_key : Option Key → Misread → Misread
unless_key (Some k) other = misread.KeyName k
unless_key None other = other

abbrev pub unknown_keyword : Goal → List ℕ → Misread
unknown_keyword g word = unless_key (key_at g word) (misread.Unknown g (nearest (keyword_table g) word))

abbrev pub unknown : Goal → TokenKind → List ℕ → Misread
unknown g token_kind.Word text = unless_key (key_at g text) (unknown_word g text (keyword_named text))
unknown g k text = unknown_keyword g (drop 1 text)
