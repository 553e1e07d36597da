-- What keywords and words mean, and how that is written.
use Rattle.std.specs.Prelude.{ℕ, true, false, if◌then◌else◌, List, Option, Some, None, codes}
use Rattle.std.specs.List.{find}
use Rattle.std.specs.Str.{bytes_eq}
use Rattle.mh_base.specs.Kinds.{kinds}
use Rattle.mh_group.specs.Words.{class_word, classes, attribute_word, attributes, action_word, actions, event_word, events, justification_word, justifications, kind_word}
use Rattle.mh_misread.specs.declared.name.Name.{Name}
use Rattle.mh_misread.specs.declared.name.Name.TheVariants as name

-- how it is written, without a colon
unfoldable pub word_of : Name → List ℕ
word_of (name.Class c) = class_word c
word_of (name.Attribute a) = attribute_word a
word_of (name.Action a) = action_word a
word_of (name.Kind k) = kind_word k
word_of name.ContentRef = codes "ContentRef"
word_of name.IndirectRef = codes "IndirectRef"
word_of (name.Event e) = event_word e
word_of (name.Justification j) = justification_word j
word_of (name.Truth true) = codes "true"
word_of (name.Truth false) = codes "false"

-- the first where there is one, with what it is; else the second
abbrev pub or_else : {A : Type 0} → (A → Name) → Option A → Option Name → Option Name
or_else f (Some x) other = Some (f x)
or_else f None other = other

unfoldable pub mark_named : List ℕ → Option Name
mark_named word =
    if bytes_eq word (codes "ContentRef") then Some name.ContentRef
    else (if bytes_eq word (codes "IndirectRef") then Some name.IndirectRef else None)

-- what the keyword of this name means, with no colon in front
unfoldable pub keyword_named : List ℕ → Option Name
keyword_named word =
    or_else name.Class (find (λ x. bytes_eq (class_word x) word) classes)
    (or_else name.Attribute (find (λ x. bytes_eq (attribute_word x) word) attributes)
    (or_else name.Action (find (λ x. bytes_eq (action_word x) word) actions)
    (or_else name.Kind (find (λ x. bytes_eq (kind_word x) word) kinds) (mark_named word))))

unfoldable pub truth_named : List ℕ → Option Name
truth_named word =
    if bytes_eq word (codes "true") then Some (name.Truth true)
    else (if bytes_eq word (codes "false") then Some (name.Truth false) else None)

-- what a word means that is no keyword
unfoldable pub word_named : List ℕ → Option Name
word_named word =
    or_else name.Event (find (λ x. bytes_eq (event_word x) word) events)
    (or_else name.Justification (find (λ x. bytes_eq (justification_word x) word) justifications) (truth_named word))
