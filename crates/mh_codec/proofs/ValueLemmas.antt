-- Values of one element: what was read is spelled so, and what is spelled so is read.
use Rattle.std.proofs.Common.{◌≡◌, ℕ, ◌<◌, ◌^◌, Bool, true, false, ◌==◌, List, [], ◌∷◌, Option, Some, None, Result, Ok, Err, ℤ, pos, negsuc, int_lt, unsigned_abs, refl, ap, sym, ◌∙◌, subst, arith, SFits}
use Rattle.std.proofs.lemmas.Bool.Decides.{nat_tests}
use Rattle.std.specs.Int.{w32}
use Rattle.std.specs.List.{list_all, find}
use Rattle.mh_base.specs.declared.colour.Colour.{Colour}
use Rattle.mh_base.specs.declared.event.EventType.{EventType}
use Rattle.mh_base.specs.declared.event.EventType.TheVariants as event
use Rattle.mh_base.specs.Event.{event_of as event_with, number_of, event_types}
use Rattle.mh_base.specs.Path.{is_name_byte}
use Rattle.mh_base.specs.Reading.{Rest}
use Rattle.mh_base.proofs.ReadingLemmas.{went, if_ok, if_not_ok, ok_same}
use Rattle.mh_der.specs.Tags.{boolean_tag, integer_tag, octet_string_tag, sequence_tag}
use Rattle.mh_der.specs.Integer.{integer_octets, boolean_octets}
use Rattle.mh_der.specs.Rest.{Element}
use Rattle.mh_der.specs.declared.der_error.Why.{Why as DerWhy}
use Rattle.mh_der.specs.Reading.{told_at, integer_of, boolean_of}
use Rattle.mh_der.proofs.IntegerLaws.{integer_found, integer_fits, integer_given, boolean_found, boolean_given}
use Rattle.mh_group.specs.declared.action.Content.{Content}
use Rattle.mh_group.specs.declared.action.Content.TheVariants as content
use Rattle.mh_group.specs.declared.action.EventData.{EventData}
use Rattle.mh_group.specs.declared.action.EventData.TheVariants as event_data
use Rattle.mh_group.specs.declared.justification.Justification.{Justification}
use Rattle.mh_group.specs.declared.justification.Justification.TheVariants as justification
use Rattle.mh_group.specs.Words.{justifications, justification_number}
use Rattle.mh_group.specs.Fit.{is_field_length}
use Rattle.mh_group.specs.Holdable.{is_integer, is_number, is_name, is_octets, colour_octets, is_content, is_data}
use Rattle.mh_group.proofs.WritingLemmas.{bytes_are_octets}
use Rattle.mh_codec.specs.declared.kind.Kind.{Kind}
use Rattle.mh_codec.specs.declared.kind.Kind.TheVariants as kind
use Rattle.mh_codec.specs.declared.codec_error.Why.{Why}
use Rattle.mh_codec.specs.declared.codec_error.Why.TheVariants.{UnknownTag, BadValue}
use Rattle.mh_codec.specs.Tags.{kind_of}
use Rattle.mh_codec.specs.Tags.{Tags, IsTable, content_name_tag}
use Rattle.mh_codec.proofs.TableLemmas.{content_name_small, same_self}
use Rattle.mh_codec.specs.Spelling.{own, integer, natural, boolean, octet_string, content_tag, content_name, content_value, data_value, colour_value}
use Rattle.mh_codec.specs.Gives.{der}
use Rattle.mh_codec.specs.Reading.{some_at, admitted, truth_at, integer_at, octets_at, sequence_at, own_at, primitive_at, natural_at, length_at, number_at, ingredient_number_at, name_at, content_name_at, content_at, data_at, event_at, justification_at, colour_of, colour_at}
use Rattle.mh_codec.proofs.ElementLemmas.{written, Good, same_element, tag_of_kind, told_by, same_number, find_holds, primitive}

-- what an element's own reading told
told_ok : {A : Type 0} (e : Element) (r : Result A DerWhy) (x : A) → der (told_at e r) ≡ Ok x → r ≡ Ok x
told_ok e (Ok y) x h = cc
told_ok e (Err w) x h = absurd cc

-- the kind of an element that was read so
pub kind_tag : (e : Element) (k : Kind) → kind_of e.tag ≡ k → tag_of_kind k e.tag
kind_tag e k h = subst (λ (k : Kind). tag_of_kind k e.tag) h (told_by e.tag)

truth_kind : (e : Element) (b : Bool) (k : Kind) → kind_of e.tag ≡ k → truth_at e ≡ Ok b → (k ≡ kind.Boolean) × (boolean_of e.contents.bytes ≡ Ok b)
unfolding truth_at
truth_kind e b kind.Boolean h is = (refl, told_ok e (boolean_of e.contents.bytes) b (rw h at is))
truth_kind e b _ h is = absurd (let x = rw h at is in cc)

pub truth_found : (e : Element) (b : Bool) → truth_at e ≡ Ok b → written e ≡ boolean b
unfolding boolean
truth_found e b is =
    let k = truth_kind e b (kind_of e.tag) refl is in
    let tag = kind_tag e kind.Boolean k.0 in
    let inner = boolean_found e.contents.bytes b k.1 in
    rw (tag, inner) refl

pub truth_given : (e : Element) (b : Bool) → e.tag.number < 2 ^ 16 → written e ≡ boolean b → truth_at e ≡ Ok b
unfolding boolean truth_at kind_of
truth_given e b small is =
    let same = same_element e.tag boolean_tag e.contents.bytes (boolean_octets b) small (omega arith) is in
    rw (same.tag, same.inner, boolean_given b) refl

integer_kind : (e : Element) (x : ℤ) (k : Kind) → kind_of e.tag ≡ k → integer_at e ≡ Ok x → (k ≡ kind.Integer) × (integer_of e.contents.bytes ≡ Ok x)
unfolding integer_at
integer_kind e x kind.Integer h is = (refl, told_ok e (integer_of e.contents.bytes) x (rw h at is))
integer_kind e x _ h is = absurd (let y = rw h at is in cc)

fits_is : (x : ℤ) → SFits w32 x → is_integer x ≡ true
fits_is (pos n) f = let small = f.sfits in grind (arith, nat_tests)
fits_is (negsuc n) f = let small = f.sfits in grind (arith, nat_tests)

fits_back : (x : ℤ) → is_integer x ≡ true → SFits w32 x
fits_back (pos n) h = record { sfits = grind (arith, nat_tests) }
fits_back (negsuc n) h = record { sfits = grind (arith, nat_tests) }

pub integer_read : (e : Element) (x : ℤ) → Good e → integer_at e ≡ Ok x → (written e ≡ integer x) × (is_integer x ≡ true)
unfolding integer
integer_read e x good is =
    let k = integer_kind e x (kind_of e.tag) refl is in
    let tag = kind_tag e kind.Integer k.0 in
    let inner = integer_found e.contents.bytes x good.bytes k.1 in
    (rw (tag, inner) refl, fits_is x (integer_fits e.contents.bytes x good.bytes k.1))

pub integer_written : (e : Element) (x : ℤ) → e.tag.number < 2 ^ 16 → is_integer x ≡ true → written e ≡ integer x → integer_at e ≡ Ok x
unfolding integer integer_at kind_of
integer_written e x small fits is =
    let same = same_element e.tag integer_tag e.contents.bytes (integer_octets x) small (omega arith) is in
    rw (same.tag, same.inner, integer_given x (fits_back x fits)) refl

octets_kind : (e : Element) (octets : List ℕ) (k : Kind) → kind_of e.tag ≡ k → octets_at e ≡ Ok octets → (k ≡ kind.Octets) × (e.contents.bytes ≡ octets)
unfolding octets_at
octets_kind e octets kind.Octets h is = (refl, ok_same (rw h at is))
octets_kind e octets _ h is = absurd (let y = rw h at is in cc)

pub octets_read : (e : Element) (octets : List ℕ) → octets_at e ≡ Ok octets → written e ≡ octet_string octets
unfolding octet_string
octets_read e octets is =
    let k = octets_kind e octets (kind_of e.tag) refl is in
    let tag = kind_tag e kind.Octets k.0 in
    rw (tag, k.1) refl

-- what a source can hold are octets
pub octets_are : (e : Element) (octets : List ℕ) → Good e → octets_at e ≡ Ok octets → is_octets octets ≡ true
octets_are e octets good is =
    let k = octets_kind e octets (kind_of e.tag) refl is in
    subst (λ (y : List ℕ). is_octets y ≡ true) k.1 (bytes_are_octets e.contents.bytes good.bytes)

pub octets_written : (e : Element) (octets : List ℕ) → e.tag.number < 2 ^ 16 → written e ≡ octet_string octets → octets_at e ≡ Ok octets
unfolding octet_string octets_at kind_of
octets_written e octets small is =
    let same = same_element e.tag octet_string_tag e.contents.bytes octets small (omega arith) is in
    rw (same.tag, same.inner) refl

sequence_kind : (e : Element) (inner : Rest) (k : Kind) → kind_of e.tag ≡ k → sequence_at e ≡ Ok inner → (k ≡ kind.Sequence) × (e.contents ≡ inner)
unfolding sequence_at
sequence_kind e inner kind.Sequence h is = (refl, ok_same (rw h at is))
sequence_kind e inner _ h is = absurd (let y = rw h at is in cc)

pub sequence_read : (e : Element) (inner : Rest) → sequence_at e ≡ Ok inner → (e.tag ≡ sequence_tag) × (e.contents ≡ inner)
sequence_read e inner is =
    let k = sequence_kind e inner (kind_of e.tag) refl is in
    (kind_tag e kind.Sequence k.0, k.1)

pub sequence_written : (e : Element) → e.tag ≡ sequence_tag → sequence_at e ≡ Ok e.contents
unfolding sequence_at kind_of
sequence_written e tag = rw tag refl

own_kind : (e : Element) (n : ℕ) (k : Kind) → kind_of e.tag ≡ k → own_at e ≡ Ok n → k ≡ kind.Own n
unfolding own_at
own_kind e n (kind.Own m) h is = ap kind.Own (ok_same (rw h at is))
own_kind e n _ h is = absurd (let y = rw h at is in cc)

pub own_read : (e : Element) (n : ℕ) → own_at e ≡ Ok n → e.tag ≡ own n
own_read e n is = kind_tag e (kind.Own n) (own_kind e n (kind_of e.tag) refl is)

pub own_numbered : (e : Element) (n m : ℕ) → own_at e ≡ Ok n → m ≡ n → e.tag ≡ own m
own_numbered e n m is same = rw same (own_read e n is)

pub own_written : (e : Element) (n : ℕ) → e.tag ≡ own n → own_at e ≡ Ok n
unfolding own_at kind_of
own_written e n tag = rw tag refl

primitive_kind : (e : Element) (n : ℕ) (k : Kind) → kind_of e.tag ≡ k → primitive_at e ≡ Ok n → k ≡ kind.Primitive n
unfolding primitive_at
primitive_kind e n (kind.Primitive m) h is = ap kind.Primitive (ok_same (rw h at is))
primitive_kind e n _ h is = absurd (let y = rw h at is in cc)

primitive_read : (e : Element) (n : ℕ) → primitive_at e ≡ Ok n → e.tag ≡ primitive n
primitive_read e n is = kind_tag e (kind.Primitive n) (primitive_kind e n (kind_of e.tag) refl is)

primitive_written : (e : Element) (n : ℕ) → e.tag ≡ primitive n → primitive_at e ≡ Ok n
unfolding primitive_at kind_of
primitive_written e n tag = rw tag refl

-- integers from 0, and of a range

pub natural_read : (e : Element) (x : ℤ) → natural_at e ≡ Ok x → (integer_at e ≡ Ok x) × (int_lt x (pos 0) ≡ false)
unfolding natural_at
natural_read e x is =
    let a = went (integer_at e) _ x is in
    let t = if_not_ok (int_lt a.value (pos 0)) (Ok a.value) BadValue e.offset x a.behind in
    let same = ok_same t.1 in
    (subst (λ (y : ℤ). integer_at e ≡ Ok y) same a.first, subst (λ (y : ℤ). int_lt y (pos 0) ≡ false) same t.0)

pub natural_written : (e : Element) (x : ℤ) → integer_at e ≡ Ok x → int_lt x (pos 0) ≡ false → natural_at e ≡ Ok x
unfolding natural_at
natural_written e x is h = rw (is, h) refl

number_is : (x : ℤ) → int_lt x (pos 0) ≡ false → x ≡ pos (unsigned_abs x)
number_is (pos n) h = refl
number_is (negsuc n) h = absurd cc

number_small : (n : ℕ) → is_integer (pos n) ≡ true → is_number n ≡ true
number_small n h = grind (arith, nat_tests)

number_fits : (n : ℕ) → is_number n ≡ true → is_integer (pos n) ≡ true
number_fits n h = grind (arith, nat_tests)

not_below : (n : ℕ) → int_lt (pos n) (pos 0) ≡ false
not_below n = grind (arith, nat_tests)

pub number_read : (e : Element) (n : ℕ) → Good e → number_at e ≡ Ok n → (written e ≡ natural n) × (is_number n ≡ true)
unfolding number_at
number_read e n good is =
    let a = went (natural_at e) _ n is in
    let m = natural_read e a.value a.first in
    let i = integer_read e a.value good m.0 in
    let same : a.value ≡ pos n = number_is a.value m.1 ∙ ap pos (ok_same a.behind) in
    (i.0 ∙ ap integer same, number_small n (subst (λ (x : ℤ). is_integer x ≡ true) same i.1))

pub number_written : (e : Element) (n : ℕ) → e.tag.number < 2 ^ 16 → is_number n ≡ true → written e ≡ natural n → number_at e ≡ Ok n
unfolding number_at
number_written e n small fits is =
    let i = natural_written e (pos n) (integer_written e (pos n) small (number_fits n fits) is) (not_below n) in
    rw i refl

pub ingredient_number_read : (e : Element) (n : ℕ) → ingredient_number_at e ≡ Ok n → (number_at e ≡ Ok n) × ((n == 0) ≡ false)
unfolding ingredient_number_at
ingredient_number_read e n is =
    let a = went (number_at e) _ n is in
    let t = if_not_ok (a.value == 0) (Ok a.value) BadValue e.offset n a.behind in
    let same = ok_same t.1 in
    (subst (λ (y : ℕ). number_at e ≡ Ok y) same a.first, subst (λ (y : ℕ). (y == 0) ≡ false) same t.0)

pub ingredient_number_written : (e : Element) (n : ℕ) → number_at e ≡ Ok n → (n == 0) ≡ false → ingredient_number_at e ≡ Ok n
unfolding ingredient_number_at
ingredient_number_written e n is h = rw (is, h) refl

pub length_read : (e : Element) (x : ℤ) → length_at e ≡ Ok x → integer_at e ≡ Ok x
unfolding length_at
length_read e x is =
    let a = went (integer_at e) _ x is in
    let t = if_ok (is_field_length a.value) (Ok a.value) BadValue e.offset x a.behind in
    subst (λ (y : ℤ). integer_at e ≡ Ok y) (ok_same t.1) a.first

pub length_written : (e : Element) (x : ℤ) → integer_at e ≡ Ok x → is_field_length x ≡ true → length_at e ≡ Ok x
unfolding length_at
length_written e x is h = rw (is, h) refl

-- names, content, event types, colours

pub name_read : (e : Element) (name : List ℕ) → name_at e ≡ Ok name → (written e ≡ octet_string name) × (list_all is_name_byte name ≡ true)
unfolding name_at
name_read e name is =
    let a = went (octets_at e) _ name is in
    let t = if_ok (list_all is_name_byte a.value) (Ok a.value) BadValue e.offset name a.behind in
    let same = ok_same t.1 in
    (octets_read e name (subst (λ (y : List ℕ). octets_at e ≡ Ok y) same a.first), subst (λ (y : List ℕ). list_all is_name_byte y ≡ true) same t.0)

pub name_written : (e : Element) (name : List ℕ) → e.tag.number < 2 ^ 16 → list_all is_name_byte name ≡ true → written e ≡ octet_string name → name_at e ≡ Ok name
unfolding name_at
name_written e name small good is = rw (octets_written e name small is, good) refl

data_kind : (e : Element) (x : EventData) (k : Kind) → kind_of e.tag ≡ k → Good e → data_at e ≡ Ok x → (written e ≡ data_value x) × (is_data x ≡ true)
unfolding data_at
data_kind e x kind.Boolean h good is =
    let b = went (truth_at e) _ x (rw h at is) in
    subst (λ (y : EventData). (written e ≡ data_value y) × (is_data y ≡ true)) (ok_same b.behind) (truth_found e b.value b.first, refl)
data_kind e x _ h good is =
    let i = went (integer_at e) _ x (rw h at is) in
    subst (λ (y : EventData). (written e ≡ data_value y) × (is_data y ≡ true)) (ok_same i.behind) (integer_read e i.value good i.first)

pub data_read : (e : Element) (x : EventData) → Good e → data_at e ≡ Ok x → (written e ≡ data_value x) × (is_data x ≡ true)
data_read e x good is = data_kind e x (kind_of e.tag) refl good is

pub data_written : (e : Element) (x : EventData) → e.tag.number < 2 ^ 16 → is_data x ≡ true → written e ≡ data_value x → data_at e ≡ Ok x
unfolding data_at kind_of boolean integer
data_written e (event_data.Bool b) small good is =
    let same = same_element e.tag boolean_tag e.contents.bytes (boolean_octets b) small (omega arith) is in
    let kind_is : kind_of e.tag ≡ kind.Boolean = ap kind_of same.tag in
    rw (kind_is, truth_given e b small is) refl
data_written e (event_data.Int x) small good is =
    let same = same_element e.tag integer_tag e.contents.bytes (integer_octets x) small (omega arith) is in
    let kind_is : kind_of e.tag ≡ kind.Integer = ap kind_of same.tag in
    rw (kind_is, integer_written e x small good is) refl

pub some_ok : {A : Type 0} (e : Element) (w : Why) (o : Option A) (x : A) → some_at e w o ≡ Ok x → o ≡ Some x
some_ok e w (Some y) x is = ap Some (ok_same is)
some_ok e w None x is = absurd cc

event_number : (n : ℕ) (x : EventType) → event_with n ≡ Some x → number_of x ≡ n
event_number n x h = same_number (number_of x) n (find_holds (λ (y : EventType). number_of y == n) event_types x h)

pub event_read : (e : Element) (x : EventType) → Good e → event_at e ≡ Ok x → written e ≡ natural (number_of x)
unfolding event_at
event_read e x good is =
    let a = went (number_at e) _ x is in
    let some = some_ok e BadValue (event_with a.value) x a.behind in
    (number_read e a.value good a.first).0 ∙ ap natural (sym (event_number a.value x some))

-- each type of event is the one of its number
event_back : (x : EventType) → (is_number (number_of x) ≡ true) × (event_with (number_of x) ≡ Some x)
event_back event.IsAvailable = (refl, refl)
event_back event.ContentAvailable = (refl, refl)
event_back event.IsDeleted = (refl, refl)
event_back event.IsRunning = (refl, refl)
event_back event.IsStopped = (refl, refl)
event_back event.UserInput = (refl, refl)
event_back event.TimerFired = (refl, refl)
event_back event.AsyncStopped = (refl, refl)
event_back event.InteractionCompleted = (refl, refl)
event_back event.TokenMovedFrom = (refl, refl)
event_back event.TokenMovedTo = (refl, refl)
event_back event.StreamEvent = (refl, refl)
event_back event.HighlightOn = (refl, refl)
event_back event.HighlightOff = (refl, refl)
event_back event.IsSelected = (refl, refl)
event_back event.IsDeselected = (refl, refl)
event_back event.TestEvent = (refl, refl)
event_back event.FirstItemPresented = (refl, refl)
event_back event.LastItemPresented = (refl, refl)
event_back event.HeadItems = (refl, refl)
event_back event.TailItems = (refl, refl)
event_back event.ItemSelected = (refl, refl)
event_back event.ItemDeselected = (refl, refl)
event_back event.EntryFieldFull = (refl, refl)
event_back event.EngineEvent = (refl, refl)

pub event_written : (e : Element) (x : EventType) → e.tag.number < 2 ^ 16 → written e ≡ natural (number_of x) → event_at e ≡ Ok x
unfolding event_at
event_written e x small is = rw (number_written e (number_of x) small ((event_back x).0) is, (event_back x).1) refl

justification_numbered : (n : ℕ) (x : Justification) → find (λ (j : Justification). justification_number j == n) justifications ≡ Some x → justification_number x ≡ n
justification_numbered n x h = same_number (justification_number x) n (find_holds (λ (j : Justification). justification_number j == n) justifications x h)

pub justification_read : (e : Element) (x : Justification) → Good e → justification_at e ≡ Ok x → written e ≡ natural (justification_number x)
unfolding justification_at
justification_read e x good is =
    let a = went (number_at e) _ x is in
    let some = some_ok e BadValue (find (λ j. justification_number j == a.value) justifications) x a.behind in
    (number_read e a.value good a.first).0 ∙ ap natural (sym (justification_numbered a.value x some))

pub justification_written : (e : Element) (x : Justification) → e.tag.number < 2 ^ 16 → written e ≡ natural (justification_number x) → justification_at e ≡ Ok x
unfolding justification_at
justification_written e justification.Start small is = rw (number_written e 1 small refl is) refl
justification_written e justification.End small is = rw (number_written e 2 small refl is) refl
justification_written e justification.Centre small is = rw (number_written e 3 small refl is) refl

some_same : {A : Type 0} {x y : A} → Some x ≡ Some y → x ≡ y
some_same h = cc

colour_parts : (octets : List ℕ) (c : Colour) → colour_of octets ≡ Some c → octets ≡ colour_octets c
colour_parts (red ∷ green ∷ blue ∷ transparency ∷ []) c is = ap colour_octets (some_same is)
colour_parts [] c is = absurd cc
colour_parts (a ∷ []) c is = absurd cc
colour_parts (a ∷ b ∷ []) c is = absurd cc
colour_parts (a ∷ b ∷ d ∷ []) c is = absurd cc
colour_parts (a ∷ b ∷ d ∷ e ∷ f ∷ more) c is = absurd cc

pub colour_read : (e : Element) (c : Colour) → Good e → colour_at e ≡ Ok c → (written e ≡ colour_value c) × (is_octets (colour_octets c) ≡ true)
unfolding colour_at
colour_read e c good is =
    let a = went (octets_at e) _ c is in
    let same = colour_parts a.value c (some_ok e BadValue (colour_of a.value) c a.behind) in
    let octets = subst (λ (y : List ℕ). octets_at e ≡ Ok y) same a.first in
    (octets_read e (colour_octets c) octets, octets_are e (colour_octets c) good octets)

pub colour_written : (e : Element) (c : Colour) → e.tag.number < 2 ^ 16 → written e ≡ colour_value c → colour_at e ≡ Ok c
unfolding colour_at
colour_written e c small is = rw (octets_written e (colour_octets c) small is) refl

module _ (tags : Tags) (table : IsTable tags) where
  pub content_name_read : (e : Element) (name : List ℕ) → content_name_at tags e ≡ Ok name → (written e ≡ content_name tags name) × (is_name name ≡ true)
  unfolding content_name_at content_name
  content_name_read e name is =
      let n = went (primitive_at e) _ name is in
      let k = went (admitted (n.value == content_name_tag tags) UnknownTag e n.value) _ name n.behind in
      let same = if_ok (n.value == content_name_tag tags) (Ok n.value) UnknownTag e.offset k.value k.first in
      let t = if_ok (list_all is_name_byte e.contents.bytes) (Ok e.contents.bytes) BadValue e.offset name k.behind in
      let tag : e.tag ≡ content_tag tags = primitive_read e n.value n.first ∙ ap primitive (same_number n.value (content_name_tag tags) same.0) in
      let inner = ok_same t.1 in
      (rw (tag, inner) refl, subst (λ (y : List ℕ). list_all is_name_byte y ≡ true) inner t.0)

  pub content_name_written : (e : Element) (name : List ℕ) → e.tag.number < 2 ^ 16 → is_name name ≡ true → written e ≡ content_name tags name → content_name_at tags e ≡ Ok name
  unfolding content_name_at content_name
  content_name_written e name small good is =
      let same = same_element e.tag (content_tag tags) e.contents.bytes name small (content_name_small tags table) is in
      rw (primitive_written e (content_name_tag tags) same.tag, same_self (content_name_tag tags), same.inner, good) refl

  content_kind : (e : Element) (x : Content) (k : Kind) → kind_of e.tag ≡ k → Good e → content_at tags e ≡ Ok x → (written e ≡ content_value tags x) × (is_content x ≡ true)
  unfolding content_at
  content_kind e x kind.Octets h good is =
      let o = went (octets_at e) _ x (rw h at is) in
      subst (λ (y : Content). (written e ≡ content_value tags y) × (is_content y ≡ true)) (ok_same o.behind) (octets_read e o.value o.first, octets_are e o.value good o.first)
  content_kind e x _ h good is =
      let n = went (content_name_at tags e) _ x (rw h at is) in
      subst (λ (y : Content). (written e ≡ content_value tags y) × (is_content y ≡ true)) (ok_same n.behind) (content_name_read e n.value n.first)

  pub content_read : (e : Element) (x : Content) → Good e → content_at tags e ≡ Ok x → (written e ≡ content_value tags x) × (is_content x ≡ true)
  content_read e x good is = content_kind e x (kind_of e.tag) refl good is

  pub content_written : (e : Element) (x : Content) → e.tag.number < 2 ^ 16 → is_content x ≡ true → written e ≡ content_value tags x → content_at tags e ≡ Ok x
  unfolding content_at kind_of octet_string content_name
  content_written e (content.Included octets) small good is =
      let same = same_element e.tag octet_string_tag e.contents.bytes octets small (omega arith) is in
      let kind_is : kind_of e.tag ≡ kind.Octets = ap kind_of same.tag in
      rw (kind_is, octets_written e octets small is) refl
  content_written e (content.Referenced name) small good is =
      let same = same_element e.tag (content_tag tags) e.contents.bytes name small (content_name_small tags table) is in
      let kind_is : kind_of e.tag ≡ kind.Primitive (content_name_tag tags) = ap kind_of same.tag in
      rw (kind_is, content_name_written e name small good is) refl
