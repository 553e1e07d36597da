-- Ingredients and groups: what was read is spelled so and is what the tables allow, and what is spelled
-- so is read.
use Rattle.std.proofs.Common.{◌≡◌, ℕ, suc, ◌+◌, ◌<◌, ◌^◌, Bool, true, false, ◌&&◌, ◌==◌, nat_lt, nat_le, if◌then◌else◌, List, [], ◌∷◌, ◌++◌, length, take, drop, Option, Some, None, is_none, Ok, pos, refl, ap, sym, ◌∙◌, subst, arith, take-append-drop}
use Rattle.std.specs.List.{list_all}
use Rattle.std.proofs.lemmas.Bool.Decides.{nat_tests}
use Rattle.std.proofs.lemmas.List.Folds.{list_all-append}
use Rattle.std.proofs.lemmas.Bool.{and_parts, and_from}
use Rattle.mh_base.specs.Path.{is_name_byte}
use Rattle.mh_base.specs.Reading.{Rest, is_same}
use Rattle.mh_base.specs.Limits.{longest_list}
use Rattle.mh_base.proofs.ReadingLemmas.{went, if_ok, ok_same, ok_holds}
use Rattle.mh_der.specs.Tags.{sequence_tag}
use Rattle.mh_der.specs.Rest.{Element}
use Rattle.mh_der.proofs.DigitLemmas.{AreBytes}
use Rattle.mh_group.specs.declared.class.Class.{Class}
use Rattle.mh_group.specs.declared.attribute.Attribute.{Attribute}
use Rattle.mh_group.specs.declared.attribute.Attribute.TheVariants as attribute
use Rattle.mh_group.specs.declared.written.Field.{Field}
use Rattle.mh_group.specs.declared.written.Ingredient.{Ingredient}
use Rattle.mh_group.specs.declared.written.Written.{Written}
use Rattle.mh_group.specs.declared.misfit.MisfitWhy.{MisfitWhy}
use Rattle.mh_group.specs.Words.{classes}
use Rattle.mh_group.specs.Fit.{fits, before_items, rises_above, has_required, fields_misfit, ingredient_misfit, ingredients_misfit, misfit_of, written_items, items_of, is_group}
use Rattle.mh_group.specs.Holdable.{is_setting, is_number, is_list, has_settings, is_ingredient, is_holdable}
use Rattle.mh_group.proofs.MisfitLemmas.{if_no_none, or_none, none_is, AreRight, are_right, is_right}
use Rattle.mh_group.specs.Table.{attribute_number, takes, shape_of, is_group_class, is_items_shape}
use Rattle.mh_codec.specs.declared.codec_error.Why.TheVariants.{UnknownTag, MissingField, BadValue}
use Rattle.mh_codec.specs.Tags.{class_with}
use Rattle.mh_codec.specs.Tags.{Tags, IsTable, class_tag, attribute_tag}
use Rattle.mh_codec.proofs.TableLemmas.{class_named, attribute_named}
use Rattle.mh_codec.specs.Spelling.{own, natural, octet_string, several, list, named, field, ingredient, items, body as body_octets, group}
use Rattle.mh_codec.specs.Reading.{taken, only, sequence_at, own_at, some_at, named_in, ingredient_number_at, fields, complete, class_at, list_at, ingredient_at, items_at, with_items, body, identifier_in, group_at}
use Rattle.mh_codec.proofs.ElementLemmas.{written, in_parts, Good, same_element, same_number, find_holds, taken_found, good_found, taken_given}
use Rattle.mh_codec.proofs.ValueLemmas.{own_numbered, own_written, some_ok, sequence_read, sequence_written, number_read, number_written, ingredient_number_read, ingredient_number_written}
use Rattle.mh_codec.proofs.ReferenceLemmas.{IsOne, Reads, spelled_as, integer_one, only_read, only_written, Named, named_read, named_written}
use Rattle.mh_codec.proofs.MemberLemmas.{list_reads}
use Rattle.mh_codec.proofs.RowLemmas.{list_fit}
use Rattle.mh_codec.proofs.FieldLemmas.{Ends, fields_found, FitField, FitFields, none_fit, more_fit, fit_first, no_items_field, fields_given, to_items, below_items, few_fields}

-- classes by their numbers

complete_is : (c : Class) (fs : List Field) (e : Element) (gs : List Field) → complete c fs e ≡ Ok gs → (fs ≡ gs) × (has_required c gs ≡ true)
unfolding complete
complete_is c fs e gs is =
    let t = if_ok (has_required c fs) (Ok fs) MissingField e.offset gs is in
    let same = ok_same t.1 in
    (same, subst (λ (xs : List Field). has_required c xs ≡ true) same t.0)

complete_given : (c : Class) (fs : List Field) (e : Element) → has_required c fs ≡ true → complete c fs e ≡ Ok fs
unfolding complete
complete_given c fs e h = rw h refl

-- fields alone

not_group : (c : Class) → is_same false (is_group_class c) ≡ true → takes c attribute.Items ≡ true → ⊥
not_group c h t = absurd (let s = rw t at h in cc)

-- fields with nothing wrong

is_none_of : (o : Option MisfitWhy) → o ≡ None → is_none o ≡ true
is_none_of o h = rw h refl

-- an ingredient that the tables allow and the notation holds
abbrev fits_ingredient : Ingredient → Bool
fits_ingredient i = is_none (ingredient_misfit i) && is_ingredient i

same_false : (b : Bool) → b ≡ false → is_same false b ≡ true
same_false b h = rw h refl

fit_fields : (c : Class) (fs : List Field) → AreRight c fs → has_settings fs ≡ true → FitFields c 0 fs
fit_fields c fs right good = record { take = right.take; fit = right.fit; good = good; rising = right.rising }

-- and nothing is wrong with fields that are so
fields_fit : (c : Class) (fs : List Field) → FitFields c 0 fs → has_required c fs ≡ true → fields_misfit c fs ≡ None
fields_fit c fs fit required = rw (fit.rising, required, fit.take, fit.fit) refl

group_or_not : (b : Bool) → is_same false b ≡ true → b ≡ false
group_or_not true h = absurd cc
group_or_not false h = refl

-- ingredients

-- the items

-- where the items stand among the fields

not_before : (n : ℕ) → nat_lt 3 n ≡ true → nat_lt n 3 ≡ false
not_before n h = grind (arith, nat_tests)

one_more : (n : ℕ) → 1 + n ≡ suc n
one_more n = omega arith

cut_is : (before after : List Field) → below_items before ≡ true → rises_above 3 after ≡ true
    → (take (before_items (before ++ after)) (before ++ after) ≡ before) × (drop (before_items (before ++ after)) (before ++ after) ≡ after)
cut_is [] [] below rises = (refl, refl)
cut_is [] (f ∷ fs) below rises =
    let parts = and_parts (nat_lt 3 (attribute_number f.attribute)) (rises_above (attribute_number f.attribute) fs) rises in
    let none = not_before (attribute_number f.attribute) parts.0 in
    (rw none refl, rw none refl)
cut_is (b ∷ bs) after below rises =
    let parts = and_parts (nat_lt (attribute_number b.attribute) 3) (below_items bs) below in
    let more = cut_is bs after parts.1 rises in
    let k = before_items (bs ++ after) in (
      rw parts.0 (ap (λ (n : ℕ). take n (b ∷ (bs ++ after))) (one_more k) ∙ ap (λ (fs : List Field). b ∷ fs) more.0),
      rw parts.0 (ap (λ (n : ℕ). drop n (b ∷ (bs ++ after))) (one_more k) ∙ more.1),
    )

not_items : (c : Class) (a : Attribute) → is_items_shape (shape_of c a) ≡ false → nat_lt (attribute_number a) 3 ≡ false → nat_lt 3 (attribute_number a) ≡ true
not_items c attribute.OnStartUp h i = absurd cc
not_items c attribute.OnCloseDown h i = absurd cc
not_items c attribute.Items h i = absurd cc
not_items c _ h i = refl

record Parted (c : Class) (last : ℕ) (before after : List Field) : Type 0 where
  pub before_fit : FitFields c last before
  pub below : below_items before ≡ true
  pub after_fit : FitFields c 3 after

abbrev PartedAt : Class → ℕ → ℕ → List Field → Type 0
PartedAt c last k fs = Parted c last (take k fs) (drop k fs)

parted_first : (c : Class) (last : ℕ) (f : Field) (fs : List Field) (b : Bool) → nat_lt (attribute_number f.attribute) 3 ≡ b → FitField c last f → FitFields c (attribute_number f.attribute) fs
    → PartedAt c (attribute_number f.attribute) (before_items fs) fs → PartedAt c last (if b then 1 + before_items fs else 0) (f ∷ fs)
parted_first c last f fs true h one many more =
    subst (λ (n : ℕ). PartedAt c last n (f ∷ fs)) (sym (one_more (before_items fs))) (record {
      before_fit = more_fit c last f (take (before_items fs) fs) one more.before_fit;
      below = and_from (nat_lt (attribute_number f.attribute) 3) (below_items (take (before_items fs) fs)) h more.below;
      after_fit = more.after_fit;
    })
parted_first c last f fs false h one many more =
    let above = not_items c f.attribute (no_items_field c f one.fit) h in
    record {
      before_fit = none_fit c last;
      below = refl;
      after_fit = more_fit c 3 f fs (record { takes_it = one.takes_it; fit = one.fit; good = one.good; behind = above }) many;
    }

parted : (c : Class) (last : ℕ) (fs : List Field) → FitFields c last fs → PartedAt c last (before_items fs) fs
parted c last [] fit = record { before_fit = fit; below = refl; after_fit = none_fit c 3 }
parted c last (f ∷ fs) fit =
    let parts = fit_first c last f fs fit in
    parted_first c last f fs (nat_lt (attribute_number f.attribute) 3) refl parts.0 parts.1 (parted c (attribute_number f.attribute) fs parts.1)

rises_from : (last n : ℕ) → nat_lt last 3 ≡ true → nat_lt 3 n ≡ true → nat_lt last n ≡ true
rises_from last n h i = grind (arith, nat_tests)

-- fields behind others that are below the items
rises_both : (last : ℕ) (before after : List Field) → nat_lt last 3 ≡ true → rises_above last before ≡ true → below_items before ≡ true → rises_above 3 after ≡ true → rises_above last (before ++ after) ≡ true
rises_both last [] [] low rises below rest = refl
rises_both last [] (f ∷ fs) low rises below rest =
    let parts = and_parts (nat_lt 3 (attribute_number f.attribute)) (rises_above (attribute_number f.attribute) fs) rest in
    and_from (nat_lt last (attribute_number f.attribute)) _ (rises_from last (attribute_number f.attribute) low parts.0) parts.1
rises_both last (b ∷ bs) after low rises below rest =
    let parts = and_parts (nat_lt last (attribute_number b.attribute)) (rises_above (attribute_number b.attribute) bs) rises in
    let lower = and_parts (nat_lt (attribute_number b.attribute) 3) (below_items bs) below in
    and_from (nat_lt last (attribute_number b.attribute)) _ parts.0 (rises_both (attribute_number b.attribute) bs after lower.0 parts.1 lower.1 rest)

all_both : (p : Field → Bool) (fs gs : List Field) → list_all p fs ≡ true → list_all p gs ≡ true → list_all p (fs ++ gs) ≡ true
all_both p fs gs h i = rw (list_all-append p fs gs, h, i) refl

both_fit : (c : Class) (before after : List Field) → FitFields c 0 before → below_items before ≡ true → FitFields c 3 after → FitFields c 0 (before ++ after)
both_fit c before after front below behind = record {
  take = all_both (λ f. takes c f.attribute) before after front.take behind.take;
  fit = all_both (λ f. fits (shape_of c f.attribute) f.setting) before after front.fit behind.fit;
  good = all_both (λ f. is_setting f.setting) before after front.good behind.good;
  rising = rises_both 0 before after refl front.rising below behind.rising;
}

-- the fields of a group and its items

-- groups

identifier_read : (left : Rest) (name : List ℕ) → AreBytes left.bytes → identifier_in left ≡ Ok name → Named left.bytes name 0
unfolding identifier_in
identifier_read left name bytes is =
    let x = went (named_in left) _ name is in
    let t = if_ok (x.value.1 == 0) (Ok x.value.0) BadValue x.value.2.offset name x.behind in
    let named = subst (λ (n : ℕ). Named left.bytes x.value.0 n) (same_number x.value.1 0 t.0) (named_read left x.value bytes x.first) in
    subst (λ (bs : List ℕ). Named left.bytes bs 0) (ok_same t.1) named

identifier_written : (left : Rest) (name : List ℕ) → list_all is_name_byte name ≡ true → left.bytes ≡ octet_string name ++ natural 0 → identifier_in left ≡ Ok name
unfolding identifier_in
identifier_written left name good e =
    let x = named_written left name 0 (and_from (list_all is_name_byte name) true good refl) e in
    rw x.takes refl

-- what the ingredients are, where each of them fits
record AllFit (is : List Ingredient) : Type 0 where
  pub none_wrong : ingredients_misfit is ≡ None
  pub good : list_all is_ingredient is ≡ true

all_fit : (is : List Ingredient) → list_all fits_ingredient is ≡ true → AllFit is
all_fit [] h = record { none_wrong = refl; good = refl }
all_fit (i ∷ is) h =
    let parts = and_parts (fits_ingredient i) (list_all fits_ingredient is) h in
    let one = and_parts (is_none (ingredient_misfit i)) (is_ingredient i) parts.0 in
    let more = all_fit is parts.1 in
    record { none_wrong = rw (none_is (ingredient_misfit i) one.0, more.none_wrong) refl; good = and_from (is_ingredient i) (list_all is_ingredient is) one.1 more.good }

none_misfit : (is : List Ingredient) → ingredients_misfit is ≡ None → list_all (λ i. is_none (ingredient_misfit i)) is ≡ true
none_misfit [] h = refl
none_misfit (i ∷ is) h =
    let parts = or_none (ingredient_misfit i) (ingredients_misfit is) h in
    and_from (is_none (ingredient_misfit i)) (list_all (λ i. is_none (ingredient_misfit i)) is) (is_none_of (ingredient_misfit i) parts.0) (none_misfit is parts.1)

same_true : (b : Bool) → b ≡ true → is_same true b ≡ true
same_true b h = h

module _ (tags : Tags) (table : IsTable tags) where
  class_taged : (n : ℕ) (c : Class) → class_with tags n ≡ Some c → class_tag tags c ≡ n
  unfolding class_with
  class_taged n c h = same_number (class_tag tags c) n (find_holds (λ (b : Class). class_tag tags b == n) classes c h)

  abbrev ClassRead : Bool → Element → Class → Type 0
  ClassRead wants e c = (e.tag ≡ own (class_tag tags c)) × (is_same wants (is_group_class c) ≡ true)

  class_read : (wants : Bool) (e : Element) (c : Class) → class_at tags wants e ≡ Ok c → ClassRead wants e c
  unfolding class_at
  class_read wants e c is =
      let n = went (own_at e) _ c is in
      let named = went (some_at e UnknownTag (class_with tags n.value)) _ c n.behind in
      let t = if_ok (is_same wants (is_group_class named.value)) (Ok named.value) UnknownTag e.offset c named.behind in
      subst (ClassRead wants e) (ok_same t.1) (
        own_numbered e n.value (class_tag tags named.value) n.first (class_taged n.value named.value (some_ok e UnknownTag (class_with tags n.value) named.value named.first)),
        t.0,
      )

  class_written : (wants : Bool) (e : Element) (c : Class) → e.tag ≡ own (class_tag tags c) → is_same wants (is_group_class c) ≡ true → class_at tags wants e ≡ Ok c
  unfolding class_at
  class_written wants e c tag same = rw (own_written e (class_tag tags c) tag, (class_named tags table c).0, same) refl

  no_items : (c : Class) (left : Rest) (new : List Field) (i : Option Element) (rest : Rest) → is_same false (is_group_class c) ≡ true → Ends tags table c 0 left new i rest → left.bytes ≡ several (field tags) new
  no_items c left new None rest h ends = ends
  no_items c left new (Some e) rest h (stands, met, below) = absurd (not_group c h met.takes_them)

  ingredient_fits : (c : Class) (n : ℕ) (fs : List Field) → is_same false (is_group_class c) ≡ true → (n == 0) ≡ false → is_number n ≡ true → FitFields c 0 fs → has_required c fs ≡ true
      → fits_ingredient (record { class = c; number = n; fields = fs }) ≡ true
  ingredient_fits c n fs kind numbered small fit required = rw (group_or_not (is_group_class c) kind, numbered, fields_fit c fs fit required, small) fit.good

  -- the fields of an ingredient, and nothing behind them
  record OwnFields (c : Class) (left : Rest) (fs : List Field) : Type 0 where
    pub is : left.bytes ≡ several (field tags) fs
    pub fit : FitFields c 0 fs
    pub required : has_required c fs ≡ true

  own_fields : (c : Class) (left : Rest) (x : List Field × Option Element × Rest) (e : Element) (fs : List Field) → is_same false (is_group_class c) ≡ true → AreBytes left.bytes → fields tags c 64 0 [] left ≡ Ok x
      → complete c x.0 e ≡ Ok fs → OwnFields c left fs
  own_fields c left x e fs kind bytes read done =
      let r = fields_found tags table c 64 0 [] left x bytes read in
      let all = complete_is c x.0 e fs done in
      let kept = sym r.all ∙ all.0 in
      record { is = no_items c left r.new x.1 x.2 kind r.ends ∙ ap (several (field tags)) kept; fit = subst (FitFields c 0) kept r.fit; required = all.1 }

  abbrev Spelled : Element → Ingredient → Type 0
  Spelled e i = (written e ≡ ingredient tags i) × (fits_ingredient i ≡ true)

  ingredient_read : (e : Element) (i : Ingredient) → Good e → ingredient_at tags e ≡ Ok i → Spelled e i
  unfolding ingredient_at ingredient
  ingredient_read e i good is =
      let c = went (class_at tags false e) _ i is in
      let named = class_read false e c.value c.first in
      let a = went (taken e.contents) _ i c.behind in
      let f = taken_found e.contents a.value.0 a.value.1 good.bytes a.first in
      let n = went (ingredient_number_at a.value.0) _ i a.behind in
      let some = ingredient_number_read a.value.0 n.value n.first in
      let number = number_read a.value.0 n.value (good_found e.contents a.value.0 a.value.1 f) some.0 in
      let x = went (fields tags c.value 64 0 [] a.value.1) _ i n.behind in
      let d = went (complete c.value x.value.0 e) _ i x.behind in
      let b = own_fields c.value a.value.1 x.value e d.value named.1 f.rest x.first d.first in
      let inner = in_parts e.contents.bytes (written a.value.0) a.value.1.bytes (natural n.value) (several (field tags) d.value) f.written number.0 b.is in
      ok_holds (Spelled e) (record { class = c.value; number = n.value; fields = d.value }) i d.behind (
        spelled_as e (own (class_tag tags c.value)) (natural n.value ++ several (field tags) d.value) named.0 inner,
        ingredient_fits c.value n.value d.value named.1 some.1 number.1 b.fit b.required,
      )

  ingredient_written : (e : Element) (i : Ingredient) → e.tag.number < 2 ^ 16 → fits_ingredient i ≡ true → written e ≡ ingredient tags i → ingredient_at tags e ≡ Ok i
  unfolding ingredient_at ingredient
  ingredient_written e i small fit is =
      let parts = and_parts (is_none (ingredient_misfit i)) (is_ingredient i) fit in
      let none = none_is (ingredient_misfit i) parts.0 in
      let a = if_no_none (is_group_class i.class) _ _ none in
      let b = if_no_none (i.number == 0) _ _ a.1 in
      let right = are_right i.class i.fields b.1 in
      let goods = and_parts (is_number i.number) (has_settings i.fields) parts.1 in
      let same = same_element e.tag (own (class_tag tags i.class)) e.contents.bytes (natural i.number ++ several (field tags) i.fields) small (class_named tags table i.class).1 is in
      let one = integer_one (pos i.number) in
      let g = taken_given e.contents one.tag one.contents (several (field tags) i.fields) one.small (same.inner ∙ ap (λ (bs : List ℕ). bs ++ several (field tags) i.fields) one.is) in
      let number = ingredient_number_written g.found i.number (number_written g.found i.number g.small goods.0 (g.is ∙ sym one.is)) b.0 in
      let few = few_fields 0 i.fields (omega arith) right.rising in
      let fs = fields_given tags table i.class 64 0 [] i.fields g.rest (fit_fields i.class i.fields right goods.1) (omega arith) g.behind in
      rw (class_written false e i.class same.tag (same_false (is_group_class i.class) a.0), g.takes, number, fs.takes_all, complete_given i.class i.fields e right.required) refl

  ingredient_one : (i : Ingredient) → IsOne (ingredient tags i)
  unfolding ingredient
  ingredient_one i = record { tag = own (class_tag tags i.class); contents = natural i.number ++ several (field tags) i.fields; small = (class_named tags table i.class).1; is = refl }

  ingredient_reads : Reads (ingredient_at tags) (ingredient tags) fits_ingredient fits_ingredient
  ingredient_reads = record {
    found = ingredient_read;
    given = ingredient_written;
    one = λ i fit. ingredient_one i;
  }

  members : Reads (list_at (ingredient_at tags) longest_list) (list (ingredient tags)) (is_list fits_ingredient) (is_list fits_ingredient)
  members = list_reads ingredient_reads

  items_read : (e : Element) (is : List Ingredient) → Good e → e.tag ≡ own (attribute_tag tags attribute.Items) → items_at tags e ≡ Ok is → (written e ≡ items tags is) × (is_list fits_ingredient is ≡ true)
  unfolding items_at items
  items_read e is good tag read =
      let a = went (only e.contents) _ is read in
      let o = only_read e.contents a.value good.bytes a.first in
      let l = members.found a.value is o.good a.behind in
      (spelled_as e (own (attribute_tag tags attribute.Items)) (list (ingredient tags) is) tag (o.is ∙ l.0), l.1)

  items_written : (e : Element) (is : List Ingredient) → e.tag.number < 2 ^ 16 → is_list fits_ingredient is ≡ true → written e ≡ items tags is → items_at tags e ≡ Ok is
  unfolding items_at items
  items_written e is small good w =
      let same = same_element e.tag (own (attribute_tag tags attribute.Items)) e.contents.bytes (list (ingredient tags) is) small (attribute_named tags table attribute.Items).1 w in
      let one = members.one is good in
      let o = only_written e.contents one.tag one.contents one.small (same.inner ∙ one.is) in
      rw (o.takes, members.given o.found is o.small good (o.is ∙ sym one.is)) refl

  abbrev BodyIs : Class → Rest → List Field × Option (List Ingredient) → Type 0
  BodyIs c left z = (left.bytes ≡ body_octets tags z.1 z.0) × FitFields c 0 z.0 × (is_list fits_ingredient (written_items z.1) ≡ true)

  never_again : (c : Class) (left : Rest) (new : List Field) (i : Option Element) (rest : Rest) → Ends tags table c 3 left new i rest → left.bytes ≡ several (field tags) new
  never_again c left new None rest ends = ends
  never_again c left new (Some e) rest (stands, met, below) = absurd (let h = met.behind in cc)

  with_items_read : (c : Class) (left : Rest) (before : List Field) (i : Option Element) (behind : Rest) (new : List Field) (z : List Field × Option (List Ingredient)) → before ≡ new → FitFields c 0 new
      → Ends tags table c 0 left new i behind → with_items tags c before i behind ≡ Ok z → BodyIs c left z
  unfolding body_octets
  with_items_read c left before None behind new z kept fit ends e =
      subst (BodyIs c left) (ok_same e) (ends ∙ ap (several (field tags)) (sym kept), subst (FitFields c 0) (sym kept) fit, refl)
  with_items_read c left before (Some e) behind new z kept fit (stands, met, below) read =
      let is = went (items_at tags e) _ z read in
      let y = went (fields tags c 64 3 before behind) _ z is.behind in
      let them = items_read e is.value met.good met.tag is.first in
      let q = fields_found tags table c 64 3 before behind y.value met.bytes y.first in
      let after = never_again c behind q.new y.value.1 y.value.2 q.ends in
      let all : y.value.0 ≡ new ++ q.new = q.all ∙ ap (λ (fs : List Field). fs ++ q.new) kept in
      let cut = cut_is new q.new below q.fit.rising in
      let octets : left.bytes ≡ several (field tags) new ++ (items tags is.value ++ several (field tags) q.new) =
      stands ∙ ap (λ (bs : List ℕ). several (field tags) new ++ (bs ++ behind.bytes)) them.0 ∙ ap (λ (bs : List ℕ). several (field tags) new ++ (items tags is.value ++ bs)) after in
      let whole : left.bytes ≡ body_octets tags (Some is.value) (new ++ q.new) =
      octets ∙ ap (λ (fs : List Field). several (field tags) fs ++ (items tags is.value ++ several (field tags) q.new)) (sym cut.0)
      ∙ ap (λ (fs : List Field). several (field tags) (take (before_items (new ++ q.new)) (new ++ q.new)) ++ (items tags is.value ++ several (field tags) fs)) (sym cut.1) in
      subst (BodyIs c left) (ok_same y.behind) (
        whole ∙ ap (λ (fs : List Field). body_octets tags (Some is.value) fs) (sym all),
        subst (FitFields c 0) (sym all) (both_fit c new q.new fit below q.fit),
        them.1,
      )

  body_read : (c : Class) (left : Rest) (z : List Field × Option (List Ingredient)) → AreBytes left.bytes → body tags c left ≡ Ok z → BodyIs c left z
  unfolding body
  body_read c left z bytes e =
      let x = went (fields tags c 64 0 [] left) _ z e in
      let r = fields_found tags table c 64 0 [] left x.value bytes x.first in
      with_items_read c left x.value.0 x.value.1 x.value.2 r.new z r.all r.fit r.ends x.behind

  body_written : (c : Class) (left : Rest) (fs : List Field) (its : Option (List Ingredient)) → is_group_class c ≡ true → FitFields c 0 fs → is_list fits_ingredient (written_items its) ≡ true
      → left.bytes ≡ body_octets tags its fs → body tags c left ≡ Ok (fs, its)
  unfolding body body_octets items
  body_written c left fs None group_class fit good is =
      let few = few_fields 0 fs (omega arith) fit.rising in
      let g = fields_given tags table c 64 0 [] fs left fit (omega arith) is in
      rw g.takes_all refl
  body_written c left fs (Some is) group_class fit good stands =
      let k = before_items fs in
      let p = parted c 0 fs fit in
      let few = few_fields 0 (take k fs) (omega arith) p.before_fit.rising in
      let less = few_fields 3 (drop k fs) (omega arith) p.after_fit.rising in
      let t = to_items tags table c 64 0 [] (take k fs) left (list (ingredient tags) is) (several (field tags) (drop k fs)) p.before_fit (omega arith) group_class refl p.below stands in
      let them = items_written t.found is t.small good t.is in
      let g = fields_given tags table c 64 3 (take k fs) (drop k fs) t.rest p.after_fit (omega arith) t.behind in
      rw (t.takes_all, them, g.takes_all, take-append-drop k fs) refl

  -- the fields and the items of a group, and nothing behind them
  record WholeBody (c : Class) (left : Rest) (fs : List Field) (its : Option (List Ingredient)) : Type 0 where
    pub is : left.bytes ≡ body_octets tags its fs
    pub fit : FitFields c 0 fs
    pub required : has_required c fs ≡ true
    pub none_wrong : ingredients_misfit (written_items its) ≡ None
    pub good : is_list is_ingredient (written_items its) ≡ true

  group_fits : (c : Class) (name : List ℕ) (left : Rest) (fs : List Field) (its : Option (List Ingredient)) → is_group_class c ≡ true → WholeBody c left fs its
      → is_group (record { class = c; identifier = name; fields = fs; items = its }) ≡ true
  unfolding misfit_of
  group_fits c name left fs its class b = rw (class, fields_fit c fs b.fit b.required, b.none_wrong) refl

  group_held : (c : Class) (name : List ℕ) (left : Rest) (fs : List Field) (its : Option (List Ingredient)) → list_all is_name_byte name ≡ true → WholeBody c left fs its
      → is_holdable (record { class = c; identifier = name; fields = fs; items = its }) ≡ true
  unfolding is_holdable
  group_held c name left fs its named b = rw (named, b.fit.good) b.good

  whole_body : (c : Class) (left : Rest) (x : List Field × Option (List Ingredient)) (e : Element) (fs : List Field) → AreBytes left.bytes → body tags c left ≡ Ok x → complete c x.0 e ≡ Ok fs → WholeBody c left fs x.1
  whole_body c left x e fs bytes read done =
      let b = body_read c left x bytes read in
      let all = complete_is c x.0 e fs done in
      let few = and_parts (nat_le (length (written_items x.1)) longest_list) (list_all fits_ingredient (written_items x.1)) b.2 in
      let them = all_fit (written_items x.1) few.1 in
      record {
        is = b.0 ∙ ap (λ (gs : List Field). body_octets tags x.1 gs) all.0;
        fit = subst (FitFields c 0) all.0 b.1;
        required = all.1;
        none_wrong = them.none_wrong;
        good = and_from (nat_le (length (written_items x.1)) longest_list) (list_all is_ingredient (written_items x.1)) few.0 them.good;
      }

  abbrev GroupIs : Element → Written → Type 0
  GroupIs e g = (written e ≡ group tags g) × (is_holdable g ≡ true) × (is_group g ≡ true)

  pub group_read : (e : Element) (g : Written) → Good e → group_at tags e ≡ Ok g → GroupIs e g
  unfolding group_at group named
  group_read e g good is =
      let c = went (class_at tags true e) _ g is in
      let called = class_read true e c.value c.first in
      let a = went (taken e.contents) _ g c.behind in
      let f = taken_found e.contents a.value.0 a.value.1 good.bytes a.first in
      let inner = went (sequence_at a.value.0) _ g a.behind in
      let s = sequence_read a.value.0 inner.value inner.first in
      let name = went (identifier_in inner.value) _ g inner.behind in
      let i = identifier_read inner.value name.value (subst (λ (r : Rest). AreBytes r.bytes) s.1 f.contents) name.first in
      let x = went (body tags c.value a.value.1) _ g name.behind in
      let d = went (complete c.value x.value.0 e) _ g x.behind in
      let b = whole_body c.value a.value.1 x.value e d.value f.rest x.first d.first in
      let identity : written a.value.0 ≡ named name.value 0 =
      spelled_as a.value.0 sequence_tag (octet_string name.value ++ natural 0) s.0 (ap (λ (r : Rest). r.bytes) s.1 ∙ i.0) in
      let contents = in_parts e.contents.bytes (written a.value.0) a.value.1.bytes (named name.value 0) (body_octets tags x.value.1 d.value) f.written identity b.is in
      ok_holds (GroupIs e) (record { class = c.value; identifier = name.value; fields = d.value; items = x.value.1 }) g d.behind (
        spelled_as e (own (class_tag tags c.value)) (named name.value 0 ++ body_octets tags x.value.1 d.value) called.0 contents,
        group_held c.value name.value a.value.1 d.value x.value.1 (and_parts (list_all is_name_byte name.value) true i.1).0 b,
        group_fits c.value name.value a.value.1 d.value x.value.1 called.1 b,
      )

  pub group_written : (e : Element) (g : Written) → e.tag.number < 2 ^ 16 → is_group g ≡ true → is_holdable g ≡ true → written e ≡ group tags g → group_at tags e ≡ Ok g
  unfolding group_at group named is_holdable
  group_written e g small fit good is =
      let right = is_right g fit in
      let goods = and_parts (list_all is_name_byte g.identifier) _ good in
      let rest = and_parts (has_settings g.fields) (is_list is_ingredient (items_of g)) goods.1 in
      let them = list_fit (λ i. is_none (ingredient_misfit i)) is_ingredient (items_of g) (none_misfit (items_of g) right.items) rest.1 in
      let same = same_element e.tag (own (class_tag tags g.class)) e.contents.bytes (named g.identifier 0 ++ body_octets tags g.items g.fields) small (class_named tags table g.class).1 is in
      let a = taken_given e.contents sequence_tag (octet_string g.identifier ++ natural 0) (body_octets tags g.items g.fields) (omega arith) same.inner in
      let inner = sequence_written a.found a.tag in
      let name = identifier_written a.found.contents g.identifier goods.0 a.inner in
      let b = body_written g.class a.rest g.fields g.items right.class (fit_fields g.class g.fields right.fields rest.0) them a.behind in
      rw (class_written true e g.class same.tag (same_true (is_group_class g.class) right.class), a.takes, inner, name, b, complete_given g.class g.fields e right.fields.required) refl

  pub group_one : (g : Written) → IsOne (group tags g)
  unfolding group
  group_one g = record { tag = own (class_tag tags g.class); contents = named g.identifier 0 ++ body_octets tags g.items g.fields; small = (class_named tags table g.class).1; is = refl }
