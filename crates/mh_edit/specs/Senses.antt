-- What a token means, whatever stands around it.
use Rattle.std.specs.Prelude.{ℕ, ◌+◌, ◌-◌, ◌*◌, ◌^◌, ◌==◌, min, nat_le, if◌then◌else◌, List, [], ◌∷◌, Option, Some, None, codes}
use Rattle.std.specs.List.{find}
use Rattle.std.specs.Str.{bytes_eq}
use Rattle.mh_base.specs.declared.value.Kind.{Kind}
use Rattle.mh_base.specs.Kinds.{kinds}
use Rattle.mh_group.specs.declared.class.Class.{Class}
use Rattle.mh_group.specs.declared.attribute.Attribute.{Attribute}
use Rattle.mh_group.specs.declared.action_name.ActionName.{ActionName}
use Rattle.mh_group.specs.Words.{actions, action_word, attributes, attribute_word, classes, class_word, kind_word}
use Rattle.mh_text.specs.declared.token.kind.TokenKind.{TokenKind}
use Rattle.mh_text.specs.declared.token.kind.TokenKind.TheVariants.{OpenBrace, CloseBrace, OpenParenthesis, CloseParenthesis, Keyword, Word as BareWord, Integer, Text, Quoted}
use Rattle.mh_text.specs.Bytes.{number_behind}
use Rattle.mh_edit.specs.declared.word.Extent.{Extent}
use Rattle.mh_edit.specs.declared.word.Word.{Word}
use Rattle.mh_edit.specs.declared.sense.Sense.{Sense}
use Rattle.mh_edit.specs.declared.sense.Sense.TheVariants as sense
use Rattle.mh_edit.specs.Words.{text_of}

-- THE TABLES

unfoldable pub class_named : List ℕ → Option Class
class_named name = find (λ x. bytes_eq (class_word x) name) classes

unfoldable pub attribute_named : List ℕ → Option Attribute
attribute_named name = find (λ x. bytes_eq (attribute_word x) name) attributes

unfoldable pub action_named : List ℕ → Option ActionName
action_named name = find (λ x. bytes_eq (action_word x) name) actions

unfoldable pub kind_named : List ℕ → Option Kind
kind_named name = find (λ x. bytes_eq (kind_word x) name) kinds

-- KEYWORDS

unfoldable pub mark_sense : List ℕ → Sense
mark_sense name =
    if bytes_eq name (codes "IndirectRef") then sense.IndirectRef
    else (if bytes_eq name (codes "ContentRef") then sense.ContentRef else sense.Unknown)

abbrev pub or_else : {A : Type 0} → (A → Sense) → Option A → Sense → Sense
or_else f None s = s
or_else f (Some x) s = f x

unfoldable pub name_sense : List ℕ → Sense
name_sense name =
    or_else sense.Attribute (attribute_named name) (or_else sense.Action (action_named name)
    (or_else sense.Class (class_named name) (or_else sense.Kind (kind_named name) (mark_sense name))))

-- with its colon in front
abbrev pub keyword_sense : List ℕ → Sense
keyword_sense [] = sense.Unknown
keyword_sense (c ∷ name) = name_sense name

-- NUMBERS

-- the number that the digits write, if it is at most 2,147,483,647
unfoldable pub magnitude : List ℕ → Option ℕ
magnitude ds = if nat_le (number_behind 0 ds) 2147483647 then Some (number_behind 0 ds) else None

abbrev pub number_or_value : Option ℕ → Sense
number_or_value None = sense.Value
number_or_value (Some n) = sense.Number n

abbrev pub number_sense : List ℕ → Sense
number_sense ds = number_or_value (magnitude ds)

-- one below zero names nothing
abbrev pub integer_sense : List ℕ → Sense
integer_sense [] = number_sense []
integer_sense (b ∷ bs) = if b == 45 then sense.Value else number_sense (b ∷ bs)

-- ALL

-- where what stands between the marks of a string is
abbrev pub inner_of : Extent → Extent
inner_of e = record { start = min (e.start + 1) (2 ^ 64 - 1); length = e.length - 2 }

unfoldable pub sense_of : List ℕ → Word → Sense
sense_of bs w = by w.kind
  where
    by : TokenKind → Sense
    by OpenBrace = sense.OpenBrace
    by CloseBrace = sense.CloseBrace
    by OpenParenthesis = sense.Open
    by CloseParenthesis = sense.Close
    by Keyword = keyword_sense (text_of bs w.at)
    by Integer = integer_sense (text_of bs w.at)
    by Text = sense.Text (inner_of w.at)
    by BareWord = sense.Value
    by Quoted = sense.Value
