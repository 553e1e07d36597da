-- References, values that variables hold, and readers with their spelling: what was read is spelled so,
-- and what is spelled so is read.
use Rattle.std.proofs.Common.{◌≡◌, ℕ, ◌<◌, ◌^◌, Bool, true, false, ◌&&◌, List, [], ◌++◌, Result, Ok, ℤ, pos, refl, ap, sym, ◌∙◌, subst, arith, append-nil}
use Rattle.std.specs.List.{list_all}
use Rattle.std.proofs.lemmas.Bool.{and_parts, and_from}
use Rattle.mh_base.specs.Path.{is_name_byte}
use Rattle.mh_base.specs.Reading.{Rest}
use Rattle.mh_base.proofs.ReadingLemmas.{went, ok_same}
use Rattle.mh_der.specs.declared.tag.Tag.{Tag}
use Rattle.mh_der.specs.Tags.{boolean_tag, integer_tag, octet_string_tag, sequence_tag}
use Rattle.mh_der.specs.Element.{element}
use Rattle.mh_der.specs.Integer.{integer_octets, boolean_octets}
use Rattle.mh_der.specs.Rest.{Element}
use Rattle.mh_der.proofs.DigitLemmas.{AreBytes}
use Rattle.mh_group.specs.declared.reference.Ref.{Ref}
use Rattle.mh_group.specs.declared.reference.Ref.TheVariants as ref
use Rattle.mh_group.specs.declared.reference.Generic.{Generic}
use Rattle.mh_group.specs.declared.reference.Generic.TheVariants.{Direct, Indirect}
use Rattle.mh_group.specs.declared.action.Content.{Content}
use Rattle.mh_group.specs.declared.action.Content.TheVariants as content
use Rattle.mh_group.specs.declared.action.EventData.{EventData}
use Rattle.mh_group.specs.declared.action.EventData.TheVariants as event_data
use Rattle.mh_group.specs.Holdable.{is_integer, is_number, is_reference, is_generic, is_plain, is_name, is_octets, is_content, is_data}
use Rattle.mh_codec.specs.declared.kind.Kind.{Kind}
use Rattle.mh_codec.specs.declared.kind.Kind.TheVariants as kind
use Rattle.mh_codec.specs.Tags.{kind_of}
use Rattle.mh_codec.specs.Tags.{Tags, IsTable, variable_tag}
use Rattle.mh_codec.proofs.TableLemmas.{content_name_small, variable_small, same_self}
use Rattle.mh_codec.specs.Spelling.{own, integer, natural, boolean, octet_string, named, reference, generic, content_tag, content_name, content_value, data_value}
use Rattle.mh_codec.specs.Gives.{Refusal}
use Rattle.mh_codec.specs.Reading.{taken, ended, only, truth_at, integer_at, octets_at, number_at, name_at, content_name_at, content_at, data_at, named_in, reference_at, is_indirect, variable_at, generic_at}
use Rattle.mh_codec.proofs.ElementLemmas.{written, in_parts, last_part, Good, same_element, same_number, taken_found, good_found, taken_given, nothing_left, ended_given}
use Rattle.mh_codec.proofs.ValueLemmas.{kind_tag, truth_found, truth_given, integer_read, integer_written, octets_read, octets_are, octets_written, number_read, number_written, name_read, name_written, content_name_read, content_name_written, content_read, content_written, data_read, data_written}

-- bytes that are one element
pub record IsOne (bs : List ℕ) : Type 0 where
  pub tag : Tag
  pub contents : List ℕ
  pub small : tag.number < 2 ^ 16
  pub is : bs ≡ element tag contents

-- a reader of elements reads what is spelled so and fits, and what it reads is spelled so and good
pub record Reads {A : Type 0} (read : Element → Result A Refusal) (spelling : A → List ℕ) (is_good is_fit : A → Bool) : Type 0 where
  pub found : (e : Element) (x : A) → Good e → read e ≡ Ok x → (written e ≡ spelling x) × (is_good x ≡ true)
  pub given : (e : Element) (x : A) → e.tag.number < 2 ^ 16 → is_fit x ≡ true → written e ≡ spelling x → read e ≡ Ok x
  pub one : (x : A) → is_fit x ≡ true → IsOne (spelling x)

pub integer_one : (x : ℤ) → IsOne (integer x)
unfolding integer
integer_one x = record { tag = integer_tag; contents = integer_octets x; small = omega arith; is = refl }

pub integer_reads : Reads integer_at integer is_integer is_integer
integer_reads = record {
  found = integer_read;
  given = integer_written;
  one = λ x good. integer_one x;
}

pub boolean_one : (b : Bool) → IsOne (boolean b)
unfolding boolean
boolean_one b = record { tag = boolean_tag; contents = boolean_octets b; small = omega arith; is = refl }

pub truth_reads : Reads truth_at boolean is_plain is_plain
truth_reads = record {
  found = λ e x good is. (truth_found e x is, refl);
  given = λ e x small good is. truth_given e x small is;
  one = λ x good. boolean_one x;
}

pub octets_one : (octets : List ℕ) → IsOne (octet_string octets)
unfolding octet_string
octets_one octets = record { tag = octet_string_tag; contents = octets; small = omega arith; is = refl }

pub octets_reads : Reads octets_at octet_string is_octets is_octets
octets_reads = record {
  found = λ e x good is. (octets_read e x is, octets_are e x good is);
  given = λ e x small good is. octets_written e x small is;
  one = λ x good. octets_one x;
}

pub data_one : (x : EventData) → IsOne (data_value x)
data_one (event_data.Bool b) = boolean_one b
data_one (event_data.Int x) = integer_one x

pub data_reads : Reads data_at data_value is_data is_data
data_reads = record {
  found = data_read;
  given = data_written;
  one = λ x good. data_one x;
}

pub same_all : {A : Type 0} (p : A → Bool) (xs ys : List A) → ys ≡ xs → list_all p xs ≡ true → list_all p ys ≡ true
same_all p xs ys same h = rw same h

-- an element with this tag and these contents
pub spelled_as : (e : Element) (t : Tag) (c : List ℕ) → e.tag ≡ t → e.contents.bytes ≡ c → written e ≡ element t c
spelled_as e t c tag inner = ap (λ (u : Tag). element u e.contents.bytes) tag ∙ ap (λ (d : List ℕ). element t d) inner

-- the element that is left alone
pub record OnlyOne (left : Rest) (e : Element) : Type 0 where
  pub is : left.bytes ≡ written e
  pub good : Good e

pub only_read : (left : Rest) (e : Element) → AreBytes left.bytes → only left ≡ Ok e → OnlyOne left e
unfolding only
only_read left e bytes is =
    let a = went (taken left) _ e is in
    let f = taken_found left a.value.0 a.value.1 bytes a.first in
    let end = went (ended a.value.1) _ e a.behind in
    let none = nothing_left a.value.1 end.first in
    let same : a.value.0 ≡ e = ok_same end.behind in
    subst (OnlyOne left) same (record {
      is = last_part left.bytes (written a.value.0) a.value.1.bytes (written a.value.0) f.written none refl;
      good = good_found left a.value.0 a.value.1 f;
    })

pub record OnlyGiven (left : Rest) (t : Tag) (c : List ℕ) : Type 0 where
  pub found : Element
  pub takes : only left ≡ Ok found
  pub tag : found.tag ≡ t
  pub inner : found.contents.bytes ≡ c
  pub small : found.tag.number < 2 ^ 16
  pub is : written found ≡ element t c

pub only_written : (left : Rest) (t : Tag) (c : List ℕ) → t.number < 2 ^ 16 → left.bytes ≡ element t c → OnlyGiven left t c
unfolding only
only_written left t c small e =
    let g = taken_given left t c [] small (e ∙ sym (append-nil (element t c))) in
    let end = ended_given g.rest g.behind in
    record { found = g.found; takes = rw (g.takes, end) refl; tag = g.tag; inner = g.inner; small = g.small; is = g.is }

-- names with numbers

abbrev pub Named : List ℕ → List ℕ → ℕ → Type 0
Named bs name n = (bs ≡ octet_string name ++ natural n) × ((list_all is_name_byte name && is_number n) ≡ true)

pub named_read : (left : Rest) (x : List ℕ × ℕ × Element) → AreBytes left.bytes → named_in left ≡ Ok x → Named left.bytes x.0 x.1
unfolding named_in
named_read left x bytes is =
    let a = went (taken left) _ x is in
    let f = taken_found left a.value.0 a.value.1 bytes a.first in
    let name = went (name_at a.value.0) _ x a.behind in
    let b = went (taken a.value.1) _ x name.behind in
    let g = taken_found a.value.1 b.value.0 b.value.1 f.rest b.first in
    let number = went (number_at b.value.0) _ x b.behind in
    let end = went (ended b.value.1) _ x number.behind in
    let none = nothing_left b.value.1 end.first in
    let n = name_read a.value.0 name.value name.first in
    let k = number_read b.value.0 number.value (good_found a.value.1 b.value.0 b.value.1 g) number.first in
    let second = last_part a.value.1.bytes (written b.value.0) b.value.1.bytes (natural number.value) g.written none k.0 in
    subst (λ (y : List ℕ × ℕ × Element). Named left.bytes y.0 y.1) (ok_same end.behind) (
      in_parts left.bytes (written a.value.0) a.value.1.bytes (octet_string name.value) (natural number.value) f.written n.0 second,
      and_from (list_all is_name_byte name.value) (is_number number.value) n.1 k.1,
    )

pub record NamedGiven (left : Rest) (name : List ℕ) (n : ℕ) : Type 0 where
  pub number : Element
  pub takes : named_in left ≡ Ok (name, n, number)

pub named_written : (left : Rest) (name : List ℕ) (n : ℕ) → (list_all is_name_byte name && is_number n) ≡ true → left.bytes ≡ octet_string name ++ natural n → NamedGiven left name n
unfolding named_in octet_string integer
named_written left name n good e =
    let parts = and_parts (list_all is_name_byte name) (is_number n) good in
    let a = taken_given left octet_string_tag name (natural n) (omega arith) e in
    let b = taken_given a.rest integer_tag (integer_octets (pos n)) [] (omega arith) (a.behind ∙ sym (append-nil (natural n))) in
    record { number = b.found; takes = rw (a.takes, name_written a.found name a.small parts.0 a.is, b.takes, number_written b.found n b.small parts.1 b.is, ended_given b.rest b.behind) refl }

-- references

abbrev Refers : Element → Ref → Type 0
Refers e r = (written e ≡ reference r) × (is_reference r ≡ true)

reference_kind : (e : Element) (r : Ref) (k : Kind) → kind_of e.tag ≡ k → Good e → reference_at e ≡ Ok r → Refers e r
unfolding reference_at named
reference_kind e r kind.Integer h good is =
    let n = went (number_at e) _ r (rw h at is) in
    subst (Refers e) (ok_same n.behind) (number_read e n.value good n.first)
reference_kind e r kind.Sequence h good is =
    let n = went (named_in e.contents) _ r (rw h at is) in
    let tag : e.tag ≡ sequence_tag = kind_tag e kind.Sequence h in
    let inner = named_read e.contents n.value good.bytes n.first in
    let spelled : written e ≡ reference (ref.In n.value.0 n.value.1) = spelled_as e sequence_tag (octet_string n.value.0 ++ natural n.value.1) tag inner.0 in
    subst (Refers e) (ok_same n.behind) (spelled, inner.1)
reference_kind e r _ h good is = absurd (let y = rw h at is in cc)

pub reference_read : (e : Element) (r : Ref) → Good e → reference_at e ≡ Ok r → Refers e r
reference_read e r good is = reference_kind e r (kind_of e.tag) refl good is

pub reference_written : (e : Element) (r : Ref) → e.tag.number < 2 ^ 16 → is_reference r ≡ true → written e ≡ reference r → reference_at e ≡ Ok r
unfolding reference_at kind_of named integer
reference_written e (ref.Here n) small good is =
    let same = same_element e.tag integer_tag e.contents.bytes (integer_octets (pos n)) small (omega arith) is in
    let kind_is : kind_of e.tag ≡ kind.Integer = ap kind_of same.tag in
    rw (kind_is, number_written e n small good is) refl
reference_written e (ref.In name n) small good is =
    let same = same_element e.tag sequence_tag e.contents.bytes (octet_string name ++ natural n) small (omega arith) is in
    let kind_is : kind_of e.tag ≡ kind.Sequence = ap kind_of same.tag in
    let inner = named_written e.contents name n good same.inner in
    rw (kind_is, inner.takes) refl

pub reference_one : (r : Ref) → IsOne (reference r)
unfolding named
reference_one (ref.Here n) = integer_one (pos n)
reference_one (ref.In name n) = record { tag = sequence_tag; contents = octet_string name ++ natural n; small = omega arith; is = refl }

pub reference_reads : Reads reference_at reference is_reference is_reference
reference_reads = record {
  found = reference_read;
  given = reference_written;
  one = λ r good. reference_one r;
}

-- what variables hold

module _ (tags : Tags) (table : IsTable tags) where
  pub content_name_one : (name : List ℕ) → IsOne (content_name tags name)
  unfolding content_name
  content_name_one name = record { tag = content_tag tags; contents = name; small = content_name_small tags table; is = refl }

  pub content_name_reads : Reads (content_name_at tags) (content_name tags) is_name is_name
  content_name_reads = record {
    found = λ e x good is. content_name_read tags table e x is;
    given = content_name_written tags table;
    one = λ x good. content_name_one x;
  }

  pub content_one : (x : Content) → IsOne (content_value tags x)
  content_one (content.Included octets) = octets_one octets
  content_one (content.Referenced name) = content_name_one name

  pub content_reads : Reads (content_at tags) (content_value tags) is_content is_content
  content_reads = record {
    found = content_read tags table;
    given = content_written tags table;
    one = λ x good. content_one x;
  }

  indirect_kind : (e : Element) (k : Kind) → kind_of e.tag ≡ k → is_indirect tags e ≡ true → e.tag ≡ own (variable_tag tags)
  unfolding is_indirect
  indirect_kind e (kind.Own n) h is =
      let same : n ≡ variable_tag tags = same_number n (variable_tag tags) (rw h at is) in
      kind_tag e (kind.Own n) h ∙ ap own same
  indirect_kind e _ h is = absurd (let y = rw h at is in cc)

  indirect_tag : (e : Element) → is_indirect tags e ≡ true → e.tag ≡ own (variable_tag tags)
  indirect_tag e is = indirect_kind e (kind_of e.tag) refl is

  indirect_written : (e : Element) → e.tag ≡ own (variable_tag tags) → is_indirect tags e ≡ true
  unfolding is_indirect kind_of
  indirect_written e tag = rw (tag, same_self (variable_tag tags)) refl

  -- no element that is spelled so is one of a variable
  abbrev pub Plain : {A : Type 0} → (A → List ℕ) → Type 0
  Plain {A} spelling = (e : Element) (x : A) → e.tag.number < 2 ^ 16 → written e ≡ spelling x → is_indirect tags e ≡ false

  pub integer_plain : Plain integer
  unfolding integer is_indirect kind_of
  integer_plain e x small is =
      let same = same_element e.tag integer_tag e.contents.bytes (integer_octets x) small (omega arith) is in
      rw same.tag refl

  pub reference_plain : Plain reference
  unfolding integer named is_indirect kind_of
  reference_plain e (ref.Here n) small is = integer_plain e (pos n) small is
  reference_plain e (ref.In name n) small is =
      let same = same_element e.tag sequence_tag e.contents.bytes (octet_string name ++ natural n) small (omega arith) is in
      rw same.tag refl

  pub truth_plain : Plain boolean
  unfolding boolean is_indirect kind_of
  truth_plain e x small is =
      let same = same_element e.tag boolean_tag e.contents.bytes (boolean_octets x) small (omega arith) is in
      rw same.tag refl

  pub octets_plain : Plain octet_string
  unfolding octet_string is_indirect kind_of
  octets_plain e x small is =
      let same = same_element e.tag octet_string_tag e.contents.bytes x small (omega arith) is in
      rw same.tag refl

  pub content_name_plain : Plain (content_name tags)
  unfolding content_name is_indirect kind_of
  content_name_plain e x small is =
      let same = same_element e.tag (content_tag tags) e.contents.bytes x small (content_name_small tags table) is in
      rw same.tag refl

  pub content_plain : Plain (content_value tags)
  content_plain e (content.Included octets) small is = octets_plain e octets small is
  content_plain e (content.Referenced name) small is = content_name_plain e name small is

  pub data_plain : Plain data_value
  data_plain e (event_data.Bool b) small is = truth_plain e b small is
  data_plain e (event_data.Int x) small is = integer_plain e x small is

  module _ {A : Type 0} {read : Element → Result A Refusal} {spelling : A → List ℕ} {is_good is_fit : A → Bool} (reads : Reads read spelling is_good is_fit) (plain : Plain spelling) where
    generic_kind : (e : Element) (x : Generic A) (b : Bool) → is_indirect tags e ≡ b → Good e → generic_at tags read e ≡ Ok x → (written e ≡ generic tags spelling x) × (is_generic is_good x ≡ true)
    unfolding generic_at generic variable_at
    generic_kind e x true h good is =
        let v = went (variable_at e) _ x (rw h at is) in
        let inner = went (only e.contents) _ v.value v.first in
        let o = only_read e.contents inner.value good.bytes inner.first in
        let r = reference_read inner.value v.value o.good inner.behind in
        let tag : e.tag ≡ own (variable_tag tags) = indirect_tag e h in
        subst (λ (y : Generic A). (written e ≡ generic tags spelling y) × (is_generic is_good y ≡ true)) (ok_same v.behind)
        (spelled_as e (own (variable_tag tags)) (reference v.value) tag (o.is ∙ r.0), r.1)
    generic_kind e x false h good is =
        let v = went (read e) _ x (rw h at is) in
        let r = reads.found e v.value good v.first in
        subst (λ (y : Generic A). (written e ≡ generic tags spelling y) × (is_generic is_good y ≡ true)) (ok_same v.behind) r

    pub generic_read : (e : Element) (x : Generic A) → Good e → generic_at tags read e ≡ Ok x → (written e ≡ generic tags spelling x) × (is_generic is_good x ≡ true)
    generic_read e x good is = generic_kind e x (is_indirect tags e) refl good is

    pub generic_written : (e : Element) (x : Generic A) → e.tag.number < 2 ^ 16 → is_generic is_fit x ≡ true → written e ≡ generic tags spelling x → generic_at tags read e ≡ Ok x
    unfolding generic_at generic variable_at
    generic_written e (Direct x) small good is = rw (plain e x small is, reads.given e x small good is) refl
    generic_written e (Indirect r) small good is =
        let same = same_element e.tag (own (variable_tag tags)) e.contents.bytes (reference r) small (variable_small tags table) is in
        let one = reference_one r in
        let o = only_written e.contents one.tag one.contents one.small (same.inner ∙ one.is) in
        let inner = reference_written o.found r o.small good (o.is ∙ sym one.is) in
        rw (indirect_written e same.tag, o.takes, inner) refl

    pub generic_one : (x : Generic A) → is_generic is_fit x ≡ true → IsOne (generic tags spelling x)
    unfolding generic
    generic_one (Direct x) good = reads.one x good
    generic_one (Indirect r) good = record { tag = own (variable_tag tags); contents = reference r; small = variable_small tags table; is = refl }

    pub generic_reads : Reads (generic_at tags read) (generic tags spelling) (is_generic is_good) (is_generic is_fit)
    generic_reads = record {
      found = generic_read;
      given = generic_written;
      one = generic_one;
    }
