-- What a token means: keywords, words and integers, looked up.
use Rattle.std.specs.Prelude.{ℕ, ◌==◌, true, false, nat_le, nat_lt, if◌then◌else◌, List, [], ◌∷◌, Option, Some, None, Result, Ok, Err, ℤ, pos, codes}
use Rattle.std.specs.List.{find}
use Rattle.std.specs.Str.{bytes_eq}
use Rattle.mh_base.specs.declared.event.EventType.{EventType}
use Rattle.mh_base.specs.declared.value.Kind.{Kind}
use Rattle.mh_base.specs.Kinds.{kinds}
use Rattle.mh_group.specs.declared.class.Class.{Class}
use Rattle.mh_group.specs.declared.attribute.Attribute.{Attribute}
use Rattle.mh_group.specs.declared.action_name.ActionName.{ActionName}
use Rattle.mh_group.specs.declared.justification.Justification.{Justification}
use Rattle.mh_group.specs.Words.{class_word, classes, attribute_word, attributes, action_word, actions, event_word, events, justification_word, justifications, kind_word}
use Rattle.mh_text.specs.declared.token.kind.TokenKind.{TokenKind}
use Rattle.mh_text.specs.declared.token.kind.TokenKind.TheVariants as kind
use Rattle.mh_text.specs.declared.sign.Sign.{Sign}
use Rattle.mh_text.specs.declared.sign.Sign.TheVariants as sign
use Rattle.mh_text.specs.declared.text_error.Why.{Why}
use Rattle.mh_text.specs.declared.text_error.Why.TheVariants as why
use Rattle.mh_text.specs.Bytes.{number_behind, negated}

-- the first where there is one, with what it is; else the second
abbrev pub or_else : {A : Type 0} → (A → Sign) → Option A → Option Sign → Option Sign
or_else f (Some x) other = Some (f x)
or_else f None other = other

abbrev pub class_of_word : List ℕ → Option Class
class_of_word name = find (λ x. bytes_eq (class_word x) name) classes

abbrev pub attribute_of_word : List ℕ → Option Attribute
attribute_of_word name = find (λ x. bytes_eq (attribute_word x) name) attributes

abbrev pub action_of_word : List ℕ → Option ActionName
action_of_word name = find (λ x. bytes_eq (action_word x) name) actions

abbrev pub event_of_word : List ℕ → Option EventType
event_of_word text = find (λ x. bytes_eq (event_word x) text) events

abbrev pub justification_of_word : List ℕ → Option Justification
justification_of_word text = find (λ x. bytes_eq (justification_word x) text) justifications

abbrev pub kind_of_word : List ℕ → Option Kind
kind_of_word name = find (λ x. bytes_eq (kind_word x) name) kinds

-- the keywords that no table has
unfoldable pub mark_sign : List ℕ → Option Sign
mark_sign name =
    if bytes_eq name (codes "ContentRef") then Some sign.ContentRef
    else (if bytes_eq name (codes "IndirectRef") then Some sign.IndirectRef else None)

-- what the name of a keyword means
unfoldable pub name_sign : List ℕ → Option Sign
name_sign name =
    or_else sign.Class (class_of_word name)
    (or_else sign.Attribute (attribute_of_word name)
    (or_else sign.Action (action_of_word name)
    (or_else sign.Kind (kind_of_word name) (mark_sign name))))

-- what a keyword means, with its colon in front
abbrev pub keyword_sign : List ℕ → Option Sign
keyword_sign [] = None
keyword_sign (_ ∷ name) = name_sign name

unfoldable pub word_sign : List ℕ → Option Sign
word_sign text =
    if bytes_eq text (codes "true") then Some (sign.Truth true)
    else (if bytes_eq text (codes "false") then Some (sign.Truth false)
    else or_else sign.Event (event_of_word text) (or_else sign.Justification (justification_of_word text) None))

abbrev pub positive : ℕ → Option ℤ
positive n = if nat_lt n 2147483648 then Some (pos n) else None

abbrev pub negative : ℕ → Option ℤ
negative n = if nat_le n 2147483648 then Some (negated n) else None

-- the number that the bytes of an integer write, if 32 bits hold it
unfoldable pub integer_of : List ℕ → Option ℤ
integer_of [] = None
integer_of (b ∷ bs) = if b == 45 then negative (number_behind 0 bs) else positive (number_behind 0 (b ∷ bs))

abbrev pub integer_sign : List ℕ → Option Sign
integer_sign text = or_else sign.Integer (integer_of text) None

-- the sign where there is one, else what is wrong
abbrev pub sign_or : Why → Option Sign → Result Sign Why
sign_or w (Some s) = Ok s
sign_or w None = Err w

-- what a token of this kind and these bytes means
unfoldable pub sign_of : TokenKind → List ℕ → Result Sign Why
sign_of kind.OpenBrace _ = Ok sign.OpenBrace
sign_of kind.CloseBrace _ = Ok sign.CloseBrace
sign_of kind.OpenParenthesis _ = Ok sign.OpenParenthesis
sign_of kind.CloseParenthesis _ = Ok sign.CloseParenthesis
sign_of kind.Keyword text = sign_or why.UnknownName (keyword_sign text)
sign_of kind.Word text = sign_or why.UnknownName (word_sign text)
sign_of kind.Integer text = sign_or why.Range (integer_sign text)
sign_of kind.Text _ = Ok sign.Text
sign_of kind.Quoted _ = Ok sign.Quoted
