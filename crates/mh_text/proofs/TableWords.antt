-- The words of the tables are words: keywords without their colon, and words of letters.
use Rattle.std.proofs.Common.{◌≡◌, ℕ, Bool, true, false, ◌&&◌, List, [], ◌∷◌, refl, arith}
use Rattle.std.specs.List.{list_all}
use Rattle.std.proofs.lemmas.Bool.{and_parts}
use Rattle.mh_base.specs.declared.event.EventType.{EventType}
use Rattle.mh_base.specs.declared.event.EventType.TheVariants as event
use Rattle.mh_group.specs.declared.class.Class.{Class}
use Rattle.mh_group.specs.declared.class.Class.TheVariants as class
use Rattle.mh_group.specs.declared.attribute.Attribute.{Attribute}
use Rattle.mh_group.specs.declared.attribute.Attribute.TheVariants as attribute
use Rattle.mh_group.specs.declared.action_name.ActionName.{ActionName}
use Rattle.mh_group.specs.declared.action_name.ActionName.TheVariants as action
use Rattle.mh_group.specs.declared.justification.Justification.{Justification}
use Rattle.mh_group.specs.declared.justification.Justification.TheVariants as justification
use Rattle.mh_group.specs.Words.{class_word, attribute_word, action_word, event_word, justification_word}
use Rattle.mh_text.specs.declared.token.kind.TokenKind.TheVariants.{Keyword, Word}
use Rattle.mh_text.specs.Bytes.{is_letter, is_letter_or_digit}
use Rattle.mh_text.specs.Words.{IsWord}

-- a letter, and letters and digits
abbrev pub is_keyword : List ℕ → Bool
is_keyword [] = false
is_keyword (b ∷ bs) = is_letter b && list_all is_letter_or_digit bs

pub keyword_good : (name : List ℕ) → is_keyword name ≡ true → IsWord Keyword (58 ∷ name)
keyword_good [] h = cc
keyword_good (b ∷ bs) h = let parts = and_parts (is_letter b) (list_all is_letter_or_digit bs) h in (b, bs, refl, parts.0, parts.1)

-- one letter or more
abbrev pub is_letters : List ℕ → Bool
is_letters [] = false
is_letters (b ∷ bs) = is_letter b && list_all is_letter bs

pub letters_good : (name : List ℕ) → is_letters name ≡ true → IsWord Word name
letters_good [] h = cc
letters_good (b ∷ bs) h = (omega arith, h)

pub class_keyword : (x : Class) → is_keyword (class_word x) ≡ true
unfolding class_word
class_keyword class.Application = refl
class_keyword _ = refl

pub attribute_keyword : (x : Attribute) → is_keyword (attribute_word x) ≡ true
unfolding attribute_word
attribute_keyword attribute.OnStartUp = refl
attribute_keyword _ = refl

pub action_keyword : (x : ActionName) → is_keyword (action_word x) ≡ true
unfolding action_word
action_keyword action.Run = refl
action_keyword _ = refl

pub event_letters : (x : EventType) → is_letters (event_word x) ≡ true
unfolding event_word
event_letters event.IsAvailable = refl
event_letters _ = refl

pub justification_letters : (x : Justification) → is_letters (justification_word x) ≡ true
unfolding justification_word
justification_letters justification.Start = refl
justification_letters _ = refl
