-- What words mean, and which words have a meaning.
use Rattle.std.proofs.Common.{◌≡◌, ℕ, suc, ◌<◌, ◌≤◌, ◌-◌, inl, inr, Bool, true, false, ◌==◌, nat_lt, nat_le, if◌then◌else◌, List, [], ◌∷◌, ◌++◌, length, take, drop, Option, Some, None, Ok, ℤ, pos, codes, find, bytes_eq, refl, ap, sym, ◌∙◌, subst, arith, length-append}
use Rattle.std.proofs.lemmas.Bool.{and_parts}
use Rattle.std.proofs.lemmas.Bool.Decides.{nat_tests}
use Rattle.std.proofs.lemmas.Slice.Eq.{bytes_eq-Decides}
use Rattle.std.proofs.Math.Seq.{take-append_seam}
use Rattle.std.specs.List.{list_all}
use Rattle.mh_base.specs.declared.event.EventType.{EventType}
use Rattle.mh_base.specs.declared.event.EventType.TheVariants as event
use Rattle.mh_group.specs.declared.class.Class.{Class}
use Rattle.mh_group.specs.declared.class.Class.TheVariants as class
use Rattle.mh_group.specs.declared.attribute.Attribute.{Attribute}
use Rattle.mh_group.specs.declared.attribute.Attribute.TheVariants as attribute
use Rattle.mh_group.specs.declared.action_name.ActionName.{ActionName}
use Rattle.mh_group.specs.declared.action_name.ActionName.TheVariants as action
use Rattle.mh_base.specs.declared.value.Kind.{Kind}
use Rattle.mh_base.specs.declared.value.Kind.TheVariants as of_kind
use Rattle.mh_base.specs.Kinds.{kinds}
use Rattle.mh_group.specs.declared.justification.Justification.{Justification}
use Rattle.mh_group.specs.declared.justification.Justification.TheVariants as justification
use Rattle.mh_text.specs.declared.token.kind.TokenKind.TheVariants as kind
use Rattle.mh_text.specs.declared.sign.Sign.{Sign}
use Rattle.mh_text.specs.declared.sign.Sign.TheVariants as sign
use Rattle.mh_text.specs.declared.text_error.Why.{Why}
use Rattle.mh_text.specs.declared.text_error.Why.TheVariants as why
use Rattle.mh_text.specs.Bytes.{is_digit, number_behind, negated}
use Rattle.mh_text.specs.Words.{IsWord}
use Rattle.mh_text.specs.Spelling.{Writes, truth_word}
use Rattle.mh_group.specs.Words.{class_word, classes, attribute_word, attributes, action_word, actions, event_word, events, justification_word, justifications, kind_word}
use Rattle.mh_text.specs.Signs.{sign_of, sign_or, or_else, mark_sign, name_sign, keyword_sign, word_sign, integer_of, positive, negative}
use Rattle.mh_text.specs.Reading.{inner}
use Rattle.mh_text.proofs.PieceLemmas.{kind_of}

-- the name of a keyword is that of its meaning
abbrev pub IsNameOf : List ℕ → Sign → Type 0
IsNameOf name (sign.Class c) = class_word c ≡ name
IsNameOf name (sign.Attribute a) = attribute_word a ≡ name
IsNameOf name (sign.Action a) = action_word a ≡ name
IsNameOf name (sign.Kind k) = kind_word k ≡ name
IsNameOf name sign.ContentRef = codes "ContentRef" ≡ name
IsNameOf name sign.IndirectRef = codes "IndirectRef" ≡ name
IsNameOf name _ = ⊥

-- a word is that of its meaning
abbrev pub IsWordOf : List ℕ → Sign → Type 0
IsWordOf text (sign.Truth b) = truth_word b ≡ text
IsWordOf text (sign.Event e) = event_word e ≡ text
IsWordOf text (sign.Justification j) = justification_word j ≡ text
IsWordOf text _ = ⊥

-- what was found where a test went well, or else behind it
found_if : (Is : Sign → Type 0) (b : Bool) (t s : Sign) (other : Option Sign) → (b ≡ true → Is t) → (other ≡ Some s → Is s) → (if b then Some t else other) ≡ Some s → Is s
found_if Is true t s other here behind e =
    let same : t ≡ s = cc in
    subst Is same (here refl)
found_if Is false t s other here behind e = behind e

-- what was found in a table, or else behind it
found_first : {X : Type 0} (Is : Sign → Type 0) (f : X → Sign) (y : X) (b : Bool) (o : Option X) (other : Option Sign) (s : Sign)
    → (b ≡ true → Is (f y)) → (or_else f o other ≡ Some s → Is s) → or_else f (if b then Some y else o) other ≡ Some s → Is s
found_first Is f y true o other s here behind e =
    let same : f y ≡ s = cc in
    subst Is same (here refl)
found_first Is f y false o other s here behind e = behind e

found_in : {X : Type 0} (Is : Sign → Type 0) (f : X → Sign) (word : X → List ℕ) (name : List ℕ) (xs : List X) (other : Option Sign) (s : Sign)
    → ((x : X) → word x ≡ name → Is (f x)) → (other ≡ Some s → Is s) → or_else f (find (λ y. bytes_eq (word y) name) xs) other ≡ Some s → Is s
found_in Is f word name [] other s here behind e = behind e
found_in Is f word name (y ∷ ys) other s here behind e =
    found_first Is f y (bytes_eq (word y) name) _ other s (λ h. here y ((bytes_eq-Decides (word y) name).0 h)) (found_in Is f word name ys other s here behind) e

pub or_gives : (w : Why) (o : Option Sign) (s : Sign) → sign_or w o ≡ Ok s → o ≡ Some s
or_gives w (Some t) s e = cc
or_gives w None s e = absurd cc

-- the name of a keyword, which begins with a colon
keyword_text : (text name : List ℕ) (s : Sign) → IsWord kind.Keyword text → sign_of kind.Keyword text ≡ Ok s → (name ≡ drop 1 text) → (text ≡ 58 ∷ name) × (name_sign name ≡ Some s)
unfolding sign_of
keyword_text text name s (first, others, e, _, _) means is =
    let named : name ≡ first ∷ others = is ∙ ap (drop 1) e in
    let here : name_sign (first ∷ others) ≡ Some s = or_gives why.UnknownName _ s (rw e at means) in
    (e ∙ ap (λ (n : List ℕ). 58 ∷ n) (sym named), rw named here)

name_found : (name : List ℕ) (s : Sign) → name_sign name ≡ Some s → IsNameOf name s
unfolding name_sign mark_sign
name_found name s e =
    found_in (IsNameOf name) sign.Class class_word name classes _ s (λ c h. h)
    (found_in (IsNameOf name) sign.Attribute attribute_word name attributes _ s (λ a h. h)
    (found_in (IsNameOf name) sign.Action action_word name actions _ s (λ a h. h)
    (found_in (IsNameOf name) sign.Kind kind_word name kinds _ s (λ k h. h)
    (found_if (IsNameOf name) (bytes_eq name (codes "ContentRef")) sign.ContentRef s _ (λ h. sym ((bytes_eq-Decides name (codes "ContentRef")).0 h))
    (found_if (IsNameOf name) (bytes_eq name (codes "IndirectRef")) sign.IndirectRef s _ (λ h. sym ((bytes_eq-Decides name (codes "IndirectRef")).0 h))
    (λ none. absurd cc)))))) e

word_found : (text : List ℕ) (s : Sign) → word_sign text ≡ Some s → IsWordOf text s
unfolding word_sign
word_found text s e =
    found_if (IsWordOf text) (bytes_eq text (codes "true")) (sign.Truth true) s _ (λ h. sym ((bytes_eq-Decides text (codes "true")).0 h))
    (found_if (IsWordOf text) (bytes_eq text (codes "false")) (sign.Truth false) s _ (λ h. sym ((bytes_eq-Decides text (codes "false")).0 h))
    (found_in (IsWordOf text) sign.Event event_word text events _ s (λ x h. h)
    (found_in (IsWordOf text) sign.Justification justification_word text justifications _ s (λ x h. h)
    (λ none. absurd cc)))) e

-- which kinds of tokens have these meanings
named_kind : (name : List ℕ) (s : Sign) → IsNameOf name s → kind_of s ≡ kind.Keyword
named_kind name (sign.Class c) h = refl
named_kind name (sign.Attribute a) h = refl
named_kind name (sign.Action a) h = refl
named_kind name (sign.Kind k) h = refl
named_kind name sign.ContentRef h = refl
named_kind name sign.IndirectRef h = refl
named_kind name _ h = absurd h

worded_kind : (text : List ℕ) (s : Sign) → IsWordOf text s → kind_of s ≡ kind.Word
worded_kind text (sign.Truth b) h = refl
worded_kind text (sign.Event e) h = refl
worded_kind text (sign.Justification j) h = refl
worded_kind text _ h = absurd h

pub keyword_kind : (text : List ℕ) (s : Sign) → keyword_sign text ≡ Some s → kind_of s ≡ kind.Keyword
keyword_kind [] s e = absurd cc
keyword_kind (b ∷ name) s e = named_kind name s (name_found name s e)

pub word_kind : (text : List ℕ) (s : Sign) → word_sign text ≡ Some s → kind_of s ≡ kind.Word
word_kind text s e = worded_kind text s (word_found text s e)

-- a keyword, by its meaning
keyword_named : (text : List ℕ) (s : Sign) → IsWord kind.Keyword text → sign_of kind.Keyword text ≡ Ok s → (text ≡ 58 ∷ drop 1 text) × IsNameOf (drop 1 text) s
keyword_named text s word means =
    let k = keyword_text text (drop 1 text) s word means refl in
    (k.0, name_found (drop 1 text) s k.1)

spelled : (text word : List ℕ) → (text ≡ 58 ∷ drop 1 text) × (word ≡ drop 1 text) → text ≡ 58 ∷ word
spelled text word h = h.0 ∙ ap (λ (n : List ℕ). 58 ∷ n) (sym h.1)

pub class_spelled : (text : List ℕ) (c : Class) → IsWord kind.Keyword text → sign_of kind.Keyword text ≡ Ok (sign.Class c) → text ≡ 58 ∷ class_word c
class_spelled text c word means = spelled text (class_word c) (keyword_named text (sign.Class c) word means)

pub attribute_spelled : (text : List ℕ) (a : Attribute) → IsWord kind.Keyword text → sign_of kind.Keyword text ≡ Ok (sign.Attribute a) → text ≡ 58 ∷ attribute_word a
attribute_spelled text a word means = spelled text (attribute_word a) (keyword_named text (sign.Attribute a) word means)

pub action_spelled : (text : List ℕ) (a : ActionName) → IsWord kind.Keyword text → sign_of kind.Keyword text ≡ Ok (sign.Action a) → text ≡ 58 ∷ action_word a
action_spelled text a word means = spelled text (action_word a) (keyword_named text (sign.Action a) word means)

pub kind_spelled : (text : List ℕ) (k : Kind) → IsWord kind.Keyword text → sign_of kind.Keyword text ≡ Ok (sign.Kind k) → text ≡ 58 ∷ kind_word k
kind_spelled text k word means = spelled text (kind_word k) (keyword_named text (sign.Kind k) word means)

pub content_ref_spelled : (text : List ℕ) → IsWord kind.Keyword text → sign_of kind.Keyword text ≡ Ok sign.ContentRef → text ≡ 58 ∷ codes "ContentRef"
content_ref_spelled text word means = spelled text (codes "ContentRef") (keyword_named text sign.ContentRef word means)

pub indirect_ref_spelled : (text : List ℕ) → IsWord kind.Keyword text → sign_of kind.Keyword text ≡ Ok sign.IndirectRef → text ≡ 58 ∷ codes "IndirectRef"
indirect_ref_spelled text word means = spelled text (codes "IndirectRef") (keyword_named text sign.IndirectRef word means)

-- a word, by its meaning
word_means : (text : List ℕ) (s : Sign) → sign_of kind.Word text ≡ Ok s → IsWordOf text s
unfolding sign_of
word_means text s means = word_found text s (or_gives why.UnknownName _ s means)

pub truth_spelled : (text : List ℕ) (b : Bool) → sign_of kind.Word text ≡ Ok (sign.Truth b) → text ≡ truth_word b
truth_spelled text b means = sym (word_means text (sign.Truth b) means)

pub event_spelled : (text : List ℕ) (x : EventType) → sign_of kind.Word text ≡ Ok (sign.Event x) → text ≡ event_word x
event_spelled text x means = sym (word_means text (sign.Event x) means)

pub justification_spelled : (text : List ℕ) (x : Justification) → sign_of kind.Word text ≡ Ok (sign.Justification x) → text ≡ justification_word x
justification_spelled text x means = sym (word_means text (sign.Justification x) means)

-- numbers
integer_found : (o : Option ℤ) (x : ℤ) → or_else sign.Integer o None ≡ Some (sign.Integer x) → o ≡ Some x
integer_found (Some y) x e = cc
integer_found None x e = absurd cc

positive_found : (b : Bool) (n : ℕ) (x : ℤ) → nat_lt n 2147483648 ≡ b → (if b then Some (pos n) else None) ≡ Some x → (x ≡ pos n) × (n < 2147483648)
positive_found true n x h e = (cc, grind (arith, nat_tests))
positive_found false n x h e = absurd cc

negative_found : (b : Bool) (n : ℕ) (x : ℤ) → nat_le n 2147483648 ≡ b → (if b then Some (negated n) else None) ≡ Some x → (x ≡ negated n) × (n ≤ 2147483648)
negative_found true n x h e = (cc, grind (arith, nat_tests))
negative_found false n x h e = absurd cc

pub below_not_same : (n m : ℕ) → m < n → (n == m) ≡ false
below_not_same n m h = grind (arith, nat_tests)

-- a digit is no minus sign
digit_not_minus : (b : ℕ) → is_digit b ≡ true → (b == 45) ≡ false
digit_not_minus b h = grind (arith, nat_tests)

first_all : (p : ℕ → Bool) (b : ℕ) (bs : List ℕ) → list_all p (b ∷ bs) ≡ true → p b ≡ true
first_all p b bs h = (and_parts (p b) (list_all p bs) h).0

integer_written : (text : List ℕ) (x : ℤ) → IsWord kind.Integer text → integer_of text ≡ Some x → Writes text x
unfolding integer_of
integer_written [] x word e = absurd cc
integer_written (b ∷ bs) x (inl (some, digits)) e =
    let plain : (b == 45) ≡ false = digit_not_minus b (first_all is_digit b bs digits) in
    let found = positive_found _ (number_behind 0 (b ∷ bs)) x refl (rw plain at e) in
    inl ((some, digits), found.0, found.1)
integer_written (b ∷ bs) x (inr (ds, is, digits)) e =
    let found = negative_found _ (number_behind 0 ds) x refl (subst (λ t. integer_of t ≡ Some x) is e) in
    inr (ds, is, digits, found.0, found.1)

pub integer_spelled : (text : List ℕ) (x : ℤ) → IsWord kind.Integer text → sign_of kind.Integer text ≡ Ok (sign.Integer x) → Writes text x
unfolding sign_of
integer_spelled text x word means = integer_written text x word (integer_found _ x (or_gives why.Range _ _ means))

-- between the marks of a string
pub inner_is : (mark : ℕ) (bs : List ℕ) → inner (mark ∷ (bs ++ mark ∷ [])) ≡ bs
inner_is mark bs =
    let long : suc (length (bs ++ mark ∷ [])) - 2 ≡ length bs = omega (arith, length-append bs (mark ∷ [])) in
    ap (λ n. take n (bs ++ mark ∷ [])) long ∙ take-append_seam bs (mark ∷ [])

-- words that have a meaning
pub class_means : (c : Class) → sign_of kind.Keyword (58 ∷ class_word c) ≡ Ok (sign.Class c)
unfolding sign_of name_sign class_word
class_means class.Application = refl
class_means _ = refl

pub attribute_means : (a : Attribute) → sign_of kind.Keyword (58 ∷ attribute_word a) ≡ Ok (sign.Attribute a)
unfolding sign_of name_sign class_word attribute_word
attribute_means attribute.OnStartUp = refl
attribute_means _ = refl

pub action_means : (a : ActionName) → sign_of kind.Keyword (58 ∷ action_word a) ≡ Ok (sign.Action a)
unfolding sign_of name_sign class_word attribute_word action_word
action_means action.TransitionTo = refl
action_means _ = refl

pub kind_means : (k : Kind) → sign_of kind.Keyword (58 ∷ kind_word k) ≡ Ok (sign.Kind k)
unfolding sign_of name_sign class_word attribute_word action_word kind_word
kind_means of_kind.Bool = refl
kind_means _ = refl

pub content_ref_means : sign_of kind.Keyword (58 ∷ codes "ContentRef") ≡ Ok sign.ContentRef
unfolding sign_of name_sign class_word attribute_word action_word kind_word mark_sign
content_ref_means = refl

pub indirect_ref_means : sign_of kind.Keyword (58 ∷ codes "IndirectRef") ≡ Ok sign.IndirectRef
unfolding sign_of name_sign class_word attribute_word action_word kind_word mark_sign
indirect_ref_means = refl

pub truth_means : (b : Bool) → sign_of kind.Word (truth_word b) ≡ Ok (sign.Truth b)
unfolding sign_of word_sign
truth_means true = refl
truth_means false = refl

pub event_means : (x : EventType) → sign_of kind.Word (event_word x) ≡ Ok (sign.Event x)
unfolding sign_of word_sign event_word
event_means event.IsAvailable = refl
event_means _ = refl

pub justification_means : (x : Justification) → sign_of kind.Word (justification_word x) ≡ Ok (sign.Justification x)
unfolding sign_of word_sign event_word justification_word
justification_means justification.Start = refl
justification_means _ = refl

positive_means : (n : ℕ) → n < 2147483648 → positive n ≡ Some (pos n)
positive_means n h =
    let small : nat_lt n 2147483648 ≡ true = grind (arith, nat_tests) in
    ap (λ (b : Bool). if b then Some (pos n) else None) small

negative_means : (n : ℕ) → n ≤ 2147483648 → negative n ≡ Some (negated n)
negative_means n h =
    let small : nat_le n 2147483648 ≡ true = grind (arith, nat_tests) in
    ap (λ (b : Bool). if b then Some (negated n) else None) small

integer_of_written : (text : List ℕ) (x : ℤ) → Writes text x → integer_of text ≡ Some x
unfolding integer_of
integer_of_written [] x (inl (digits, is, small)) = absurd (omega (arith, digits.0))
integer_of_written (b ∷ bs) x (inl (digits, is, small)) =
    let plain : (b == 45) ≡ false = digit_not_minus b (first_all is_digit b bs digits.1) in
    rw plain (positive_means (number_behind 0 (b ∷ bs)) small ∙ ap Some (sym is))
integer_of_written text x (inr (ds, same, digits, is, small)) =
    subst (λ t. integer_of t ≡ Some x) (sym same) (negative_means (number_behind 0 ds) small ∙ ap Some (sym is))

pub integer_means : (text : List ℕ) (x : ℤ) → Writes text x → sign_of kind.Integer text ≡ Ok (sign.Integer x)
unfolding sign_of
integer_means text x written = ap (λ o. sign_or why.Range (or_else sign.Integer o None)) (integer_of_written text x written)
