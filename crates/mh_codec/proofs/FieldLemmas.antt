-- Fields: what was read is spelled so and is what the tables allow, and what is spelled so is read.
use Rattle.std.proofs.Common.{◌≡◌, ℕ, zero, suc, ◌+◌, ◌<◌, ◌≤◌, ◌^◌, Bool, true, false, ◌==◌, nat_lt, if◌then◌else◌, List, [], ◌∷◌, ◌++◌, length, Option, Some, None, IfSome, Result, Ok, refl, ap, sym, ◌∙◌, subst, arith, append-nil, append_assoc}
use Rattle.std.specs.List.{list_all}
use Rattle.std.proofs.lemmas.Bool.Decides.{nat_tests}
use Rattle.std.proofs.lemmas.Bool.{and_parts, and_from}
use Rattle.mh_base.specs.Reading.{Rest, ◌>>=◌}
use Rattle.mh_base.proofs.ReadingLemmas.{went, if_ok, ok_same}
use Rattle.mh_der.specs.Element.{element}
use Rattle.mh_der.specs.Rest.{Element}
use Rattle.mh_der.specs.Reading.{is_empty}
use Rattle.mh_der.proofs.DigitLemmas.{AreBytes}
use Rattle.mh_der.proofs.ElementLaws.{Found}
use Rattle.mh_group.specs.declared.class.Class.{Class}
use Rattle.mh_group.specs.declared.attribute.Attribute.{Attribute}
use Rattle.mh_group.specs.declared.attribute.Attribute.TheVariants as attribute
use Rattle.mh_group.specs.declared.written.Field.{Field}
use Rattle.mh_group.specs.Words.{attributes}
use Rattle.mh_group.specs.Fit.{fits, rises_above, takes_each, fits_each}
use Rattle.mh_group.specs.Holdable.{is_setting, has_settings}
use Rattle.mh_group.proofs.ShapeLemmas.{items_shape, items_unfit}
use Rattle.mh_group.specs.Table.{attribute_number, shape_of, takes, is_items_shape}
use Rattle.mh_group.proofs.NumberLemmas.{number_small}
use Rattle.mh_codec.specs.declared.codec_error.Why.TheVariants.{UnknownTag, WrongOrder}
use Rattle.mh_codec.specs.Tags.{attribute_with}
use Rattle.mh_codec.specs.Tags.{Tags, IsTable, attribute_tag}
use Rattle.mh_codec.proofs.TableLemmas.{attribute_named}
use Rattle.mh_codec.specs.Spelling.{own, several, value, field}
use Rattle.mh_codec.specs.Gives.{Refusal}
use Rattle.mh_codec.specs.Reading.{taken, own_at, admitted, some_at, setting, attribute_at, next_field, gathered, fields}
use Rattle.mh_codec.proofs.ElementLemmas.{written, Good, same_number, find_holds, taken_found, good_found, taken_given}
use Rattle.mh_codec.proofs.ValueLemmas.{own_numbered, own_written, some_ok}
use Rattle.mh_codec.proofs.ReferenceLemmas.{spelled_as}
use Rattle.mh_codec.proofs.MemberLemmas.{empty_is, some_left}
use Rattle.mh_codec.proofs.FitLemmas.{setting_fits}
use Rattle.mh_codec.proofs.SettingLemmas.{setting_found, setting_given}

-- attributes by their numbers

pub no_items_field : (c : Class) (f : Field) → fits (shape_of c f.attribute) f.setting ≡ true → is_items_shape (shape_of c f.attribute) ≡ false
no_items_field c f h = items_unfit (shape_of c f.attribute) f.setting h

-- a field that the tables allow and the notation holds, behind others
pub record FitField (c : Class) (last : ℕ) (f : Field) : Type 0 where
  pub takes_it : takes c f.attribute ≡ true
  pub fit : fits (shape_of c f.attribute) f.setting ≡ true
  pub good : is_setting f.setting ≡ true
  pub behind : nat_lt last (attribute_number f.attribute) ≡ true

-- fields that the tables allow and the notation holds
pub record FitFields (c : Class) (last : ℕ) (fs : List Field) : Type 0 where
  pub take : takes_each c fs ≡ true
  pub fit : fits_each c fs ≡ true
  pub good : has_settings fs ≡ true
  pub rising : rises_above last fs ≡ true

pub none_fit : (c : Class) (last : ℕ) → FitFields c last []
none_fit c last = record { take = refl; fit = refl; good = refl; rising = refl }

pub more_fit : (c : Class) (last : ℕ) (f : Field) (fs : List Field) → FitField c last f → FitFields c (attribute_number f.attribute) fs → FitFields c last (f ∷ fs)
more_fit c last f fs one many = record {
  take = and_from (takes c f.attribute) (takes_each c fs) one.takes_it many.take;
  fit = and_from (fits (shape_of c f.attribute) f.setting) (fits_each c fs) one.fit many.fit;
  good = and_from (is_setting f.setting) (has_settings fs) one.good many.good;
  rising = and_from (nat_lt last (attribute_number f.attribute)) (rises_above (attribute_number f.attribute) fs) one.behind many.rising;
}

above_is : (n m : ℕ) → nat_lt n m ≡ true → n < m
above_is n m h = grind (arith, nat_tests)

-- a field has a larger number than the last one
abbrev Above : ℕ → Option Field × Option Element × Rest → Type 0
Above last x = IfSome x.0 (λ f. last < attribute_number f.attribute)

abbrev pub below_items : List Field → Bool
below_items fs = list_all (λ f. nat_lt (attribute_number f.attribute) 3) fs

still_below : (last n : ℕ) → nat_lt last n ≡ true → nat_lt n 3 ≡ true → nat_lt last 3 ≡ true
still_below last n h i = grind (arith, nat_tests)

-- what is spelled is read

pub fit_first : (c : Class) (last : ℕ) (f : Field) (fs : List Field) → FitFields c last (f ∷ fs) → FitField c last f × FitFields c (attribute_number f.attribute) fs
fit_first c last f fs h =
    let t = and_parts (takes c f.attribute) (takes_each c fs) h.take in
    let v = and_parts (fits (shape_of c f.attribute) f.setting) (fits_each c fs) h.fit in
    let g = and_parts (is_setting f.setting) (has_settings fs) h.good in
    let r = and_parts (nat_lt last (attribute_number f.attribute)) (rises_above (attribute_number f.attribute) fs) h.rising in (
      record { takes_it = t.0; fit = v.0; good = g.0; behind = r.0 },
      record { take = t.1; fit = v.1; good = g.1; rising = r.1 },
    )

abbrev told : List Field → Option Element → Rest → Result (List Field × Option Element × Rest) Refusal
told fs i rest = Ok (fs, i, rest)

-- the numbers rise, so there are few fields
pub few_fields : (last : ℕ) (fs : List Field) → last ≤ 38 → rises_above last fs ≡ true → length fs + last ≤ 38
few_fields last [] h r = omega arith
few_fields last (f ∷ fs) h r =
    let parts = and_parts (nat_lt last (attribute_number f.attribute)) (rises_above (attribute_number f.attribute) fs) r in
    let more = few_fields (attribute_number f.attribute) fs (number_small f.attribute) parts.1 in
    let above : last < attribute_number f.attribute = above_is last (attribute_number f.attribute) parts.0 in
    omega arith

module _ (tags : Tags) (table : IsTable tags) where
  attribute_numbered : (n : ℕ) (a : Attribute) → attribute_with tags n ≡ Some a → attribute_tag tags a ≡ n
  unfolding attribute_with
  attribute_numbered n a h = same_number (attribute_tag tags a) n (find_holds (λ (b : Attribute). attribute_tag tags b == n) attributes a h)

  -- an attribute that was read
  record AttributeRead (c : Class) (last : ℕ) (e : Element) (a : Attribute) : Type 0 where
    pub tag : e.tag ≡ own (attribute_tag tags a)
    pub takes_it : takes c a ≡ true
    pub behind : nat_lt last (attribute_number a) ≡ true

  attribute_read : (c : Class) (last : ℕ) (e : Element) (a : Attribute) → attribute_at tags c last e ≡ Ok a → AttributeRead c last e a
  unfolding attribute_at
  attribute_read c last e a is =
      let n = went (own_at e) _ a is in
      let named = went (some_at e UnknownTag (attribute_with tags n.value)) _ a n.behind in
      let b = went (admitted (takes c named.value) UnknownTag e named.value) _ a named.behind in
      let t = if_ok (takes c named.value) (Ok named.value) UnknownTag e.offset b.value b.first in
      let l = if_ok (nat_lt last (attribute_number b.value)) (Ok b.value) WrongOrder e.offset a b.behind in
      let first = ok_same t.1 in
      let second = ok_same l.1 in
      let number = attribute_numbered n.value named.value (some_ok e UnknownTag (attribute_with tags n.value) named.value named.first) in
      let tag = own_numbered e n.value (attribute_tag tags named.value) n.first number in
      record {
        tag = subst (λ (x : Attribute). e.tag ≡ own (attribute_tag tags x)) (first ∙ second) tag;
        takes_it = subst (λ (x : Attribute). takes c x ≡ true) (first ∙ second) t.0;
        behind = subst (λ (x : Attribute). nat_lt last (attribute_number x) ≡ true) second l.0;
      }

  attribute_given : (c : Class) (last : ℕ) (e : Element) (a : Attribute) → e.tag ≡ own (attribute_tag tags a) → takes c a ≡ true → nat_lt last (attribute_number a) ≡ true → attribute_at tags c last e ≡ Ok a
  unfolding attribute_at
  attribute_given c last e a tag t l = rw (own_written e (attribute_tag tags a) tag, (attribute_named tags table a).0, t, l) refl

  -- the element of the items, met behind fields with smaller numbers
  pub record ItemsMet (c : Class) (last : ℕ) (e : Element) (rest : Rest) : Type 0 where
    pub good : Good e
    pub tag : e.tag ≡ own (attribute_tag tags attribute.Items)
    pub bytes : AreBytes rest.bytes
    pub takes_them : takes c attribute.Items ≡ true
    pub behind : nat_lt last 3 ≡ true

  -- the next field, or the element of the items, or the end
  abbrev IsNext : Class → ℕ → Rest → Option Field → Option Element → Rest → Type 0
  IsNext c last left None None rest = left.bytes ≡ []
  IsNext c last left None (Some e) rest = (left.bytes ≡ written e ++ rest.bytes) × ItemsMet c last e rest
  IsNext c last left (Some f) i rest =
      (left.bytes ≡ field tags f ++ rest.bytes) × AreBytes rest.bytes × FitField c last f

  abbrev NextIs : Class → ℕ → Rest → Option Field × Option Element × Rest → Type 0
  NextIs c last left x = IsNext c last left x.0 x.1 x.2

  abbrev named_field : Class → Attribute → Element × Rest → Result (Option Field × Option Element × Rest) Refusal
  named_field c name a =
      if is_items_shape (shape_of c name) then Ok (None, Some a.0, a.1)
      else (setting tags (shape_of c name) a.0.contents >>= λ x. Ok (Some (record { attribute = name; setting = x }), None, a.1))

  named_found : (c : Class) (last : ℕ) (left : Rest) (a : Element × Rest) (name : Attribute) (b : Bool) (x : Option Field × Option Element × Rest) → is_items_shape (shape_of c name) ≡ b
      → Found left a.0 a.1 → AttributeRead c last a.0 name
      → (if b then Ok (None, Some a.0, a.1) else (setting tags (shape_of c name) a.0.contents >>= λ x. Ok (Some (record { attribute = name; setting = x }), None, a.1))) ≡ Ok x → NextIs c last left x
  unfolding field
  named_found c last left a name true x h f r e =
      let is_items = items_shape c name h in
      subst (NextIs c last left) (ok_same e) (
        f.written,
        record {
          good = good_found left a.0 a.1 f;
          tag = r.tag ∙ ap (λ (n : Attribute). own (attribute_tag tags n)) is_items;
          bytes = f.rest;
          takes_them = subst (λ (n : Attribute). takes c n ≡ true) is_items r.takes_it;
          behind = subst (λ (n : Attribute). nat_lt last (attribute_number n) ≡ true) is_items r.behind;
        },
      )
  named_found c last left a name false x h f r e =
      let v = went (setting tags (shape_of c name) a.0.contents) _ x e in
      let s = setting_found tags table (shape_of c name) a.0.contents v.value f.contents v.first in
      subst (NextIs c last left) (ok_same v.behind) (
        f.written ∙ ap (λ (bs : List ℕ). bs ++ a.1.bytes) (spelled_as a.0 (own (attribute_tag tags name)) (value tags v.value) r.tag s.0),
        f.rest,
        record { takes_it = r.takes_it; fit = setting_fits tags table (shape_of c name) a.0.contents v.value v.first; good = s.1; behind = r.behind },
      )

  next_found : (c : Class) (last : ℕ) (left : Rest) (b : Bool) (x : Option Field × Option Element × Rest) → is_empty left.bytes ≡ b → AreBytes left.bytes
      → (if b then Ok (None, None, left) else (taken left >>= λ a. attribute_at tags c last a.0 >>= λ name. named_field c name a)) ≡ Ok x → NextIs c last left x
  next_found c last left true x h bytes e = subst (NextIs c last left) (ok_same e) (empty_is left.bytes h)
  next_found c last left false x h bytes e =
      let a = went (taken left) _ x e in
      let f = taken_found left a.value.0 a.value.1 bytes a.first in
      let name = went (attribute_at tags c last a.value.0) _ x a.behind in
      named_found c last left a.value name.value (is_items_shape (shape_of c name.value)) x refl f (attribute_read c last a.value.0 name.value name.first) name.behind

  next_field_found : (c : Class) (last : ℕ) (left : Rest) (x : Option Field × Option Element × Rest) → AreBytes left.bytes → next_field tags c last left ≡ Ok x → NextIs c last left x
  unfolding next_field
  next_field_found c last left x bytes e = next_found c last left (is_empty left.bytes) x refl bytes e

  named_above : (c : Class) (last : ℕ) (a : Element × Rest) (n : Attribute) (b : Bool) (x : Option Field × Option Element × Rest) → nat_lt last (attribute_number n) ≡ true
      → (if b then Ok (None, Some a.0, a.1) else (setting tags (shape_of c n) a.0.contents >>= λ x. Ok (Some (record { attribute = n; setting = x }), None, a.1))) ≡ Ok x → Above last x
  named_above c last a n true x h e = subst (Above last) (ok_same e) tt
  named_above c last a n false x h e =
      let v = went (setting tags (shape_of c n) a.0.contents) _ x e in
      subst (Above last) (ok_same v.behind) (above_is last (attribute_number n) h)

  next_above : (c : Class) (last : ℕ) (left : Rest) (b : Bool) (x : Option Field × Option Element × Rest)
      → (if b then Ok (None, None, left) else (taken left >>= λ a. attribute_at tags c last a.0 >>= λ name. named_field c name a)) ≡ Ok x → Above last x
  next_above c last left true x e = subst (Above last) (ok_same e) tt
  next_above c last left false x e =
      let a = went (taken left) _ x e in
      let name = went (attribute_at tags c last a.value.0) _ x a.behind in
      named_above c last a.value name.value (is_items_shape (shape_of c name.value)) x (attribute_read c last a.value.0 name.value name.first).behind name.behind

  pub field_above : (c : Class) (last : ℕ) (left rest : Rest) (o : Option Field) (i : Option Element) (f : Field) → next_field tags c last left ≡ Ok (o, i, rest) → o ≡ Some f → last < attribute_number f.attribute
  unfolding next_field
  field_above c last left rest o i f e some = rw some at (next_above c last left (is_empty left.bytes) (o, i, rest) e)

  -- how the fields end
  abbrev pub Ends : Class → ℕ → Rest → List Field → Option Element → Rest → Type 0
  Ends c last left new None rest = left.bytes ≡ several (field tags) new
  Ends c last left new (Some e) rest = (left.bytes ≡ several (field tags) new ++ (written e ++ rest.bytes)) × ItemsMet c last e rest × (below_items new ≡ true)

  -- the fields that were read
  pub record FieldsRead (c : Class) (last : ℕ) (done : List Field) (left : Rest) (y : List Field × Option Element × Rest) : Type 0 where
    pub new : List Field
    pub all : y.0 ≡ done ++ new
    pub fit : FitFields c last new
    pub ends : Ends c last left new y.1 y.2

  ends_more : (c : Class) (last : ℕ) (left rest : Rest) (f : Field) (new : List Field) (i : Option Element) (end : Rest) → left.bytes ≡ field tags f ++ rest.bytes → nat_lt last (attribute_number f.attribute) ≡ true
      → Ends c (attribute_number f.attribute) rest new i end → Ends c last left (f ∷ new) i end
  ends_more c last left rest f new None end is l e = is ∙ ap (λ (bs : List ℕ). field tags f ++ bs) e
  ends_more c last left rest f new (Some x) end is l (stands, met, below) = (
    is ∙ ap (λ (bs : List ℕ). field tags f ++ bs) stands ∙ sym (append_assoc (field tags f) (several (field tags) new) (written x ++ end.bytes)),
    record {
      good = met.good;
      tag = met.tag;
      bytes = met.bytes;
      takes_them = met.takes_them;
      behind = still_below last (attribute_number f.attribute) l met.behind;
    },
    and_from (nat_lt (attribute_number f.attribute) 3) (below_items new) met.behind below,
  )

  fields_step : (c : Class) (n last : ℕ) (done : List Field) (left : Rest) (o : Option Field) (i : Option Element) (rest : Rest) (y : List Field × Option Element × Rest) → IsNext c last left o i rest
      → gathered (fields tags c n) done o i rest ≡ Ok y
      → ((m : ℕ) (more : List Field) → AreBytes rest.bytes → fields tags c n m more rest ≡ Ok y → FieldsRead c m more rest y) → FieldsRead c last done left y
  fields_step c n last done left None None rest y is e further =
      subst (FieldsRead c last done left) (ok_same e) (record { new = []; all = sym (append-nil done); fit = none_fit c last; ends = is })
  fields_step c n last done left None (Some x) rest y is e further =
      subst (FieldsRead c last done left) (ok_same e) (record { new = []; all = sym (append-nil done); fit = none_fit c last; ends = (is.0, is.1, refl) })
  fields_step c n last done left (Some f) i rest y (stands, bytes, fit) e further =
      let more = further (attribute_number f.attribute) (done ++ f ∷ []) bytes e in
      record {
        new = f ∷ more.new;
        all = more.all ∙ append_assoc done (f ∷ []) more.new;
        fit = more_fit c last f more.new fit more.fit;
        ends = ends_more c last left rest f more.new y.1 y.2 stands fit.behind more.ends;
      }

  pub fields_found : (c : Class) (n last : ℕ) (done : List Field) (left : Rest) (y : List Field × Option Element × Rest) → AreBytes left.bytes → fields tags c n last done left ≡ Ok y → FieldsRead c last done left y
  unfolding fields
  fields_found c zero last done left y bytes e = absurd cc
  fields_found c (suc n) last done left y bytes e =
      let x = went (next_field tags c last left) _ y e in
      fields_step c n last done left x.value.0 x.value.1 x.value.2 y (next_field_found c last left x.value bytes x.first) x.behind
      (λ m more b h. fields_found c n m more x.value.2 y b h)

  record NextGiven (c : Class) (last : ℕ) (left : Rest) (f : Field) (r : List ℕ) : Type 0 where
    pub rest : Rest
    pub takes_it : next_field tags c last left ≡ Ok (Some f, None, rest)
    pub behind : rest.bytes ≡ r

  small_number : (a : Attribute) → attribute_tag tags a < 2 ^ 16
  small_number a = (attribute_named tags table a).1

  next_given : (c : Class) (last : ℕ) (left : Rest) (f : Field) (r : List ℕ) → FitField c last f → left.bytes ≡ field tags f ++ r → NextGiven c last left f r
  unfolding next_field field
  next_given c last left f r fit is =
      let g = taken_given left (own (attribute_tag tags f.attribute)) (value tags f.setting) r (small_number f.attribute) is in
      let some = some_left left.bytes (own (attribute_tag tags f.attribute)) (value tags f.setting) r is in
      let name = attribute_given c last g.found f.attribute g.tag fit.takes_it fit.behind in
      let v = setting_given tags table (shape_of c f.attribute) g.found.contents f.setting fit.fit fit.good g.inner in
      record { rest = g.rest; takes_it = rw (some, g.takes, name, no_items_field c f fit.fit, v) refl; behind = g.behind }

  -- a field, and the fields behind it
  goes_on : (c : Class) (n last : ℕ) (done : List Field) (f : Field) (fs : List Field) (left rest : Rest) (i : Option Element) (end : Rest) → next_field tags c last left ≡ Ok (Some f, None, rest)
      → fields tags c n (attribute_number f.attribute) (done ++ f ∷ []) rest ≡ told ((done ++ f ∷ []) ++ fs) i end → fields tags c (suc n) last done left ≡ told (done ++ f ∷ fs) i end
  unfolding fields
  goes_on c n last done f fs left rest i end takes more = rw (takes, more) (ap (λ (xs : List Field). told xs i end) (append_assoc done (f ∷ []) fs))

  -- fields up to the end
  pub record FieldsGiven (c : Class) (n last : ℕ) (done fs : List Field) (left : Rest) : Type 0 where
    pub rest : Rest
    pub takes_all : fields tags c n last done left ≡ Ok (done ++ fs, None, rest)

  pub fields_given : (c : Class) (n last : ℕ) (done fs : List Field) (left : Rest) → FitFields c last fs → length fs < n → left.bytes ≡ several (field tags) fs → FieldsGiven c n last done fs left
  unfolding fields next_field
  fields_given c zero last done fs left fit few is = absurd (omega arith)
  fields_given c (suc n) last done [] left fit few is = record { rest = left; takes_all = rw (is, append-nil done) refl }
  fields_given c (suc n) last done (f ∷ fs) left fit few is =
      let parts = fit_first c last f fs fit in
      let g = next_given c last left f (several (field tags) fs) parts.0 is in
      let more = fields_given c n (attribute_number f.attribute) (done ++ f ∷ []) fs g.rest parts.1 (omega arith) g.behind in
      record {
        rest = more.rest;
        takes_all = goes_on c n last done f fs left g.rest None more.rest g.takes_it more.takes_all;
      }

  -- fields up to the element of the items
  pub record ToItems (c : Class) (n last : ℕ) (done fs : List Field) (left : Rest) (inner r : List ℕ) : Type 0 where
    pub found : Element
    pub rest : Rest
    pub takes_all : fields tags c n last done left ≡ Ok (done ++ fs, Some found, rest)
    pub small : found.tag.number < 2 ^ 16
    pub is : written found ≡ element (own (attribute_tag tags attribute.Items)) inner
    pub behind : rest.bytes ≡ r

  pub to_items : (c : Class) (n last : ℕ) (done fs : List Field) (left : Rest) (inner r : List ℕ) → FitFields c last fs → length fs < n → takes c attribute.Items ≡ true → nat_lt last 3 ≡ true
      → below_items fs ≡ true → left.bytes ≡ several (field tags) fs ++ (element (own (attribute_tag tags attribute.Items)) inner ++ r) → ToItems c n last done fs left inner r
  unfolding fields next_field
  to_items c zero last done fs left inner r fit few them low below is = absurd (omega arith)
  to_items c (suc n) last done [] left inner r fit few them low below is =
      let g = taken_given left (own (attribute_tag tags attribute.Items)) inner r (small_number attribute.Items) is in
      let some = some_left left.bytes (own (attribute_tag tags attribute.Items)) inner r is in
      let name = attribute_given c last g.found attribute.Items g.tag them low in
      record {
        found = g.found;
        rest = g.rest;
        takes_all = rw (some, g.takes, name, append-nil done) refl;
        small = g.small;
        is = g.is;
        behind = g.behind;
      }
  to_items c (suc n) last done (f ∷ fs) left inner r fit few them low below is =
      let parts = fit_first c last f fs fit in
      let b = and_parts (nat_lt (attribute_number f.attribute) 3) (below_items fs) below in
      let g = next_given c last left f (several (field tags) fs ++ (element (own (attribute_tag tags attribute.Items)) inner ++ r)) parts.0 (is ∙ append_assoc (field tags f) (several (field tags) fs) _) in
      let more = to_items c n (attribute_number f.attribute) (done ++ f ∷ []) fs g.rest inner r parts.1 (omega arith) them b.0 b.1 g.behind in
      record {
        found = more.found;
        rest = more.rest;
        takes_all = goes_on c n last done f fs left g.rest (Some more.found) more.rest g.takes_it more.takes_all;
        small = more.small;
        is = more.is;
        behind = more.behind;
      }
