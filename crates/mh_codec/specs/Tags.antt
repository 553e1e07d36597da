-- Tables of tags: which tag stands for each class, attribute, action and kind of values; and what an
-- element is by its tag.
use Rattle.std.specs.Prelude.{◌≡◌, ℕ, ◌-◌, ◌<◌, ◌^◌, ◌==◌, ◌||◌, Bool, true, false, if◌then◌else◌, List, [], ◌∷◌, length, slice_index, Option, Some, None}
use Rattle.std.specs.List.{find, list_any, range_with_len}
use Rattle.mh_base.specs.declared.value.Kind.{Kind as ValueKind}
use Rattle.mh_base.specs.declared.value.Kind.TheVariants as value
use Rattle.mh_base.specs.Kinds.{kinds}
use Rattle.mh_der.specs.declared.tag.Tag.{Tag}
use Rattle.mh_der.specs.declared.tag.TagClass.{TagClass}
use Rattle.mh_der.specs.declared.tag.TagClass.TheVariants.{Universal, Context}
use Rattle.mh_group.specs.declared.class.Class.{Class}
use Rattle.mh_group.specs.declared.attribute.Attribute.{Attribute}
use Rattle.mh_group.specs.declared.action_name.ActionName.{ActionName}
use Rattle.mh_group.specs.Words.{classes, attributes, actions}
use Rattle.mh_group.specs.Table.{class_number, attribute_number, action_number}
use Rattle.mh_codec.specs.declared.kind.Kind.{Kind}
use Rattle.mh_codec.specs.declared.kind.Kind.TheVariants as kind

-- Tables

-- the tags of each context, in the order of the numbers that they have in the profile
pub record Tags : Type 0 where
  pub classes : List ℕ
  pub attributes : List ℕ
  pub actions : List ℕ
  pub values : List ℕ

-- in the profile a tag is its number
abbrev pub profile : Tags
profile = record {
  classes = range_with_len 0 17;
  attributes = range_with_len 1 38;
  actions = range_with_len 100 70;
  values = range_with_len 60 7;
}

-- a tag stands in the column twice
abbrev pub has_double : List ℕ → Bool
has_double [] = false
has_double (t ∷ ts) = list_any (λ u. u == t) ts || has_double ts

-- the number of the first context in which a tag stands twice
unfoldable pub first_double : Tags → Option ℕ
first_double t =
    if has_double t.classes then Some 1
    else (if has_double t.attributes then Some 2
    else (if has_double t.actions then Some 3 else (if has_double t.values then Some 4 else None)))

-- each tag is of 16 bits
abbrev pub AreSmall : List ℕ → Type 0
AreSmall ts = (k : ℕ) → slice_index ts k < 2 ^ 16

-- so many tags, each of 16 bits, and none of them twice
pub record IsColumn (count : ℕ) (ts : List ℕ) : Type 0 where
  pub full : length ts ≡ count
  pub small : AreSmall ts
  pub single : has_double ts ≡ false

pub record IsTable (t : Tags) : Type 0 where
  pub classes : IsColumn 17 t.classes
  pub attributes : IsColumn 38 t.attributes
  pub actions : IsColumn 70 t.actions
  pub values : IsColumn 7 t.values

-- attributes are numbered from 1 on
abbrev pub attribute_place : Attribute → ℕ
attribute_place a = attribute_number a - 1

-- the kinds of values stand behind the name of a content file and the reference of a variable
abbrev pub value_place : ValueKind → ℕ
value_place value.Bool = 2
value_place value.Int = 3
value_place value.Octets = 4
value_place value.Object = 5
value_place value.Content = 6

-- the number of the attribute that holds a group's items
abbrev pub items_number : ℕ
items_number = 3

-- Elements

abbrev pub universal : Bool → ℕ → Kind
universal false n =
    if n == 1 then kind.Boolean else (if n == 2 then kind.Integer else (if n == 4 then kind.Octets else kind.Other))
universal true n = if n == 16 then kind.Sequence else kind.Other

abbrev pub kind_in : TagClass → Bool → ℕ → Kind
kind_in Universal constructed n = universal constructed n
kind_in Context true n = kind.Own n
kind_in Context false n = kind.Primitive n
kind_in _ _ n = kind.Other

-- what an element with this tag is
unfoldable pub kind_of : Tag → Kind
kind_of t = kind_in t.class t.is_constructed t.number

-- Look-ups

module _ (tags : Tags) where
  abbrev pub class_tag : Class → ℕ
  class_tag c = slice_index tags.classes (class_number c)

  abbrev pub attribute_tag : Attribute → ℕ
  attribute_tag a = slice_index tags.attributes (attribute_place a)

  abbrev pub action_tag : ActionName → ℕ
  action_tag a = slice_index tags.actions (action_number a)

  -- the name of a content file
  abbrev pub content_name_tag : ℕ
  content_name_tag = slice_index tags.values 0

  -- a value that a variable holds
  abbrev pub variable_tag : ℕ
  variable_tag = slice_index tags.values 1

  -- a value with its kind
  abbrev pub value_tag : ValueKind → ℕ
  value_tag k = slice_index tags.values (value_place k)

  unfoldable pub class_with : ℕ → Option Class
  class_with n = find (λ c. class_tag c == n) classes

  unfoldable pub attribute_with : ℕ → Option Attribute
  attribute_with n = find (λ a. attribute_tag a == n) attributes

  unfoldable pub action_with : ℕ → Option ActionName
  action_with n = find (λ a. action_tag a == n) actions

  unfoldable pub value_kind_with : ℕ → Option ValueKind
  value_kind_with n = find (λ k. value_tag k == n) kinds
