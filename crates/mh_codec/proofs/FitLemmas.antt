-- What was read is what the tables allow: a value fits the shape that it was read by, and an action has
-- its parameters.
use Rattle.std.proofs.Common.{◌≡◌, ℕ, zero, suc, ◌+◌, ◌≤◌, Bool, true, false, ◌&&◌, nat_le, if◌then◌else◌, List, [], ◌∷◌, ◌++◌, length, Option, Some, None, IfSome, Result, Ok, Err, ℤ, pos, negsuc, int_lt, refl, sym, ◌∙◌, subst, arith, append-nil, append_assoc, length-append}
use Rattle.std.specs.Ordering.{int_eq}
use Rattle.std.specs.List.{list_all}
use Rattle.std.proofs.lemmas.Bool.Decides.{nat_tests}
use Rattle.std.proofs.lemmas.List.Folds.{list_all-append}
use Rattle.std.proofs.lemmas.Bool.{and_parts, and_from}
use Rattle.mh_base.specs.Reading.{Rest, ◌>>=◌}
use Rattle.mh_base.specs.Limits.{longest_list}
use Rattle.mh_base.proofs.ReadingLemmas.{went, if_ok, ok_same}
use Rattle.mh_der.specs.Rest.{Element}
use Rattle.mh_der.specs.Reading.{is_empty}
use Rattle.mh_group.specs.declared.shape.Shape.{Shape}
use Rattle.mh_group.specs.declared.shape.Shape.TheVariants as shape
use Rattle.mh_group.specs.declared.shape.Need.{Need}
use Rattle.mh_group.specs.declared.shape.Need.TheVariants as need
use Rattle.mh_group.specs.declared.action.Action.{Action}
use Rattle.mh_group.specs.declared.action.Parameter.{Parameter}
use Rattle.mh_group.specs.declared.action.Parameter.TheVariants as of_parameter
use Rattle.mh_group.specs.declared.written.Member.{Member}
use Rattle.mh_group.specs.declared.written.Setting.{Setting}
use Rattle.mh_group.specs.declared.written.Setting.TheVariants as of_setting
use Rattle.mh_group.specs.Fit.{fits, fits_parameter, fits_parameters, fits_action, fits_effect, fits_member, is_list_item, is_natural, is_field_length}
use Rattle.mh_group.specs.Table.{needs_of, optional_of}
use Rattle.mh_codec.specs.declared.codec_error.Why.TheVariants.{UnknownTag, Limit, BadValue}
use Rattle.mh_codec.specs.Tags.{action_with}
use Rattle.mh_codec.specs.Gives.{Refusal}
use Rattle.mh_codec.specs.Tags.{Tags, IsTable}
use Rattle.mh_codec.specs.Reading.{taken, ended, only, own_at, some_at, sequence_at, truth_at, integer_at, octets_at, natural_at, length_at, fixed_at, event_at, justification_at, colour_at, reference_at, content_name_at, content_at, data_at, generic_at, exhausted, next_member, continued, listed, list_at, typed_at, parameter_at, parameters, action_at, effect_at, row_at, member_in, member_at, list_item_in, list_item_at, position_at, next_scene_at, part, pair, single, setting}
use Rattle.mh_codec.proofs.ValueLemmas.{natural_read}
use Rattle.mh_codec.proofs.PairLemmas.{fits_part}

-- what is made of a value that was read fits, where what is made of each such value fits
made_fits : {A B : Type 0} (is_fit : B → Bool) (read : Result A Refusal) (make : A → B) (y : B) → (read >>= λ x. Ok (make x)) ≡ Ok y → ((x : A) → read ≡ Ok x → is_fit (make x) ≡ true) → is_fit y ≡ true
made_fits is_fit (Ok x) make y is each = subst (λ z. is_fit z ≡ true) (ok_same is) (each x refl)
made_fits is_fit (Err r) make y is each = absurd cc

-- lists

module _ {A : Type 0} {member : Element → Result A Refusal} {is_fit : A → Bool} (each : (e : Element) (x : A) → member e ≡ Ok x → is_fit x ≡ true) where
  abbrev NextFits : Option A × Rest → Type 0
  NextFits x = IfSome x.0 (λ y. is_fit y ≡ true)

  next_fits : (left : Rest) (b : Bool) (x : Option A × Rest) → (if b then Ok (None, left) else (taken left >>= λ a. member a.0 >>= λ y. Ok (Some y, a.1))) ≡ Ok x → NextFits x
  next_fits left true x e = subst NextFits (ok_same e) tt
  next_fits left false x e =
      let a = went (taken left) _ x e in
      let y = went (member a.value.0) _ x a.behind in
      subst NextFits (ok_same y.behind) (each a.value.0 y.value y.first)

  -- members that were read behind others
  record Members (n : ℕ) (done xs : List A) : Type 0 where
    pub fit : list_all is_fit xs ≡ true
    pub few : length xs ≤ length done + n

  no_members : (n : ℕ) (done xs : List A) → list_all is_fit done ≡ true → done ≡ xs → Members n done xs
  no_members n done xs fit same = subst (Members n done) same (record { fit = fit; few = omega arith })

  go_on : (n : ℕ) (done : List A) (o : Option A) (rest : Rest) (xs : List A) → list_all is_fit done ≡ true → IfSome o (λ y. is_fit y ≡ true) → continued (listed member n) done o rest ≡ Ok xs
      → ((x : A) → list_all is_fit (done ++ x ∷ []) ≡ true → listed member n (done ++ x ∷ []) rest ≡ Ok xs → Members n (done ++ x ∷ []) xs) → Members (suc n) done xs
  go_on n done None rest xs fit next e more = no_members (suc n) done xs fit (ok_same e)
  go_on n done (Some x) rest xs fit next e more =
      let one : list_all is_fit (x ∷ []) ≡ true = and_from (is_fit x) true next refl in
      let m = more x (rw (list_all-append is_fit done (x ∷ []), fit, one) refl) e in
      record { fit = m.fit; few = omega (arith, m.few, length-append done (x ∷ [])) }

  members_fit : (n : ℕ) (done : List A) (left : Rest) (xs : List A) → list_all is_fit done ≡ true → listed member n done left ≡ Ok xs → Members n done xs
  unfolding listed next_member
  members_fit zero done left xs fit e =
      let end = went (exhausted Limit left) _ xs e in
      no_members 0 done xs fit (ok_same end.behind)
  members_fit (suc n) done left xs fit e =
      let x = went (next_member member left) _ xs e in
      go_on n done x.value.0 x.value.1 xs fit (next_fits left (is_empty left.bytes) x.value x.first) x.behind
      (λ y more. members_fit n (done ++ y ∷ []) x.value.1 xs more)

  pub list_fits : (limit : ℕ) (e : Element) (xs : List A) → list_at member limit e ≡ Ok xs → (list_all is_fit xs ≡ true) × (length xs ≤ limit)
  unfolding list_at
  list_fits limit e xs is =
      let inner = went (sequence_at e) _ xs is in
      let m = members_fit limit [] inner.value xs refl inner.behind in
      (m.fit, omega (arith, m.few))

-- actions

-- parameters that were read behind others
record Parameters (optional : ℕ) (ns : List Need) (done ps : List Parameter) : Type 0 where
  pub new : List Parameter
  pub all : ps ≡ done ++ new
  pub fit : fits_parameters optional ns new ≡ true

no_parameters : (optional : ℕ) (ns : List Need) (done : List Parameter) → nat_le (length ns) optional ≡ true → Parameters optional ns done done
no_parameters optional ns done few = record { new = []; all = sym (append-nil done); fit = few }

none_over : (n : ℕ) → nat_le 0 n ≡ true
none_over n = grind (arith, nat_tests)

-- members

no_slots : (left : Rest) (m : Member) → list_item_in left ≡ Ok m → is_list_item m ≡ true
unfolding list_item_in
no_slots left m is =
    let a = went (taken left) _ m is in
    let object = went (reference_at a.value.0) _ m a.behind in
    let end = went (exhausted UnknownTag a.value.1) _ m object.behind in
    subst (λ (n : Member). is_list_item n ≡ true) (ok_same end.behind) refl

item_fits : (e : Element) (m : Member) → list_item_at e ≡ Ok m → is_list_item m ≡ true
unfolding list_item_at
item_fits e m is =
    let inner = went (sequence_at e) _ m is in
    no_slots inner.value m inner.behind

few_items : (n : ℕ) → n ≤ 256 → nat_le n 256 ≡ true
few_items n h = grind (arith, nat_tests)

items_fit : (e : Element) (ms : List Member) → list_at list_item_at 256 e ≡ Ok ms → (nat_le (length ms) 256 && list_all is_list_item ms) ≡ true
items_fit e ms is =
    let them = list_fits item_fits 256 e ms is in
    and_from (nat_le (length ms) 256) (list_all is_list_item ms) (few_items (length ms) them.1) them.0

-- values of one element

is_natural_where : (x : ℤ) → int_lt x (pos 0) ≡ false → is_natural x ≡ true
is_natural_where (pos n) h = grind (arith, nat_tests)
is_natural_where (negsuc n) h = absurd cc

natural_fits : (e : Element) (x : ℤ) → natural_at e ≡ Ok x → is_natural x ≡ true
natural_fits e x is = is_natural_where x (natural_read e x is).1

length_fits : (e : Element) (x : ℤ) → length_at e ≡ Ok x → is_field_length x ≡ true
unfolding length_at
length_fits e x is =
    let a = went (integer_at e) _ x is in
    let t = if_ok (is_field_length a.value) (Ok a.value) BadValue e.offset x a.behind in
    subst (λ (y : ℤ). is_field_length y ≡ true) (ok_same t.1) t.0

-- pairs

fixed_fits : (k : ℤ) (e : Element) (x : ℤ) → fixed_at k e ≡ Ok x → int_eq x k ≡ true
unfolding fixed_at
fixed_fits k e x is =
    let a = went (integer_at e) _ x is in
    let t = if_ok (int_eq a.value k) (Ok a.value) BadValue e.offset x a.behind in
    subst (λ (y : ℤ). int_eq y k ≡ true) (ok_same t.1) t.0

part_fits : (s : Shape) (k : ℤ) (e : Element) (x : ℤ) → part s k e ≡ Ok x → fits_part s k x ≡ true
unfolding part
part_fits shape.Size k e x is = natural_fits e x is
part_fits shape.Screen k e x is = fixed_fits k e x is
part_fits _ k e x is = refl

abbrev PairFits : Shape → ℤ × ℤ → Type 0
PairFits s p = (fits_part s (pos 720) p.0 && fits_part s (pos 576) p.1) ≡ true

pair_fits : (s : Shape) (left : Rest) (p : ℤ × ℤ) → pair s left ≡ Ok p → PairFits s p
unfolding pair
pair_fits s left p is =
    let a = went (taken left) _ p is in
    let x = went (part s (pos 720) a.value.0) _ p a.behind in
    let b = went (taken a.value.1) _ p x.behind in
    let y = went (part s (pos 576) b.value.0) _ p b.behind in
    let end = went (ended b.value.1) _ p y.behind in
    let first = part_fits s (pos 720) a.value.0 x.value x.first in
    let second = part_fits s (pos 576) b.value.0 y.value y.first in
    subst (PairFits s) (ok_same end.behind) (and_from (fits_part s (pos 720) x.value) (fits_part s (pos 576) y.value) first second)

-- a value of this shape

abbrev of_pair : ℤ × ℤ → Setting
of_pair p = of_setting.Pair p.0 p.1

module _ (tags : Tags) (table : IsTable tags) where
  parameter_fits : (n : Need) (e : Element) (p : Parameter) → parameter_at tags n e ≡ Ok p → fits_parameter n p ≡ true
  unfolding parameter_at
  parameter_fits need.Bool e p is = made_fits (fits_parameter need.Bool) (generic_at tags truth_at e) of_parameter.Bool p is (λ x h. refl)
  parameter_fits need.Int e p is = made_fits (fits_parameter need.Int) (generic_at tags integer_at e) of_parameter.Int p is (λ x h. refl)
  parameter_fits need.Octets e p is = made_fits (fits_parameter need.Octets) (generic_at tags octets_at e) of_parameter.Octets p is (λ x h. refl)
  parameter_fits need.Ref e p is = made_fits (fits_parameter need.Ref) (generic_at tags reference_at e) of_parameter.Ref p is (λ x h. refl)
  parameter_fits need.Content e p is = made_fits (fits_parameter need.Content) (generic_at tags (content_at tags) e) of_parameter.Content p is (λ x h. refl)
  parameter_fits need.Data e p is = made_fits (fits_parameter need.Data) (generic_at tags data_at e) of_parameter.Data p is (λ x h. refl)
  parameter_fits need.Event e p is = made_fits (fits_parameter need.Event) (event_at e) of_parameter.Event p is (λ x h. refl)
  parameter_fits (need.Receiver k) e p is = made_fits (fits_parameter (need.Receiver k)) (reference_at e) of_parameter.Receiver p is (λ x h. refl)
  parameter_fits need.Typed e p is = made_fits (fits_parameter need.Typed) (typed_at tags e) of_parameter.Typed p is (λ x h. refl)
  parameter_fits need.Arguments e p is = made_fits (fits_parameter need.Arguments) (list_at (typed_at tags) longest_list e) of_parameter.Arguments p is (λ x h. refl)

  parameters_step : (optional : ℕ) (n : Need) (ns : List Need) (done : List Parameter) (left : Rest) (b : Bool) (y : List Parameter × Rest) → (b ≡ true → nat_le (length (n ∷ ns)) optional ≡ true)
      → (if b then Ok (done, left) else (taken left >>= λ a. parameter_at tags n a.0 >>= λ x. parameters tags optional ns (done ++ x ∷ []) a.1)) ≡ Ok y
      → ((p : Parameter) (rest : Rest) → parameters tags optional ns (done ++ p ∷ []) rest ≡ Ok y → Parameters optional ns (done ++ p ∷ []) y.0) → Parameters optional (n ∷ ns) done y.0
  parameters_step optional n ns done left true y few e further =
      subst (λ (z : List Parameter × Rest). Parameters optional (n ∷ ns) done z.0) (ok_same e) (no_parameters optional (n ∷ ns) done (few refl))
  parameters_step optional n ns done left false y few e further =
      let a = went (taken left) _ y e in
      let p = went (parameter_at tags n a.value.0) _ y a.behind in
      let more = further p.value a.value.1 p.behind in
      record {
        new = p.value ∷ more.new;
        all = more.all ∙ append_assoc done (p.value ∷ []) more.new;
        fit = and_from (fits_parameter n p.value) (fits_parameters optional ns more.new) (parameter_fits n a.value.0 p.value p.first) more.fit;
      }

  parameters_fit : (optional : ℕ) (ns : List Need) (done : List Parameter) (left : Rest) (y : List Parameter × Rest) → parameters tags optional ns done left ≡ Ok y → Parameters optional ns done y.0
  parameters_fit optional [] done left y e =
      subst (λ (z : List Parameter × Rest). Parameters optional [] done z.0) (ok_same e) (no_parameters optional [] done (none_over optional))
  parameters_fit optional (n ∷ ns) done left y e =
      parameters_step optional n ns done left (is_empty left.bytes && nat_le (length (n ∷ ns)) optional) y
      (λ h. (and_parts (is_empty left.bytes) (nat_le (length (n ∷ ns)) optional) h).1) e (λ p rest more. parameters_fit optional ns (done ++ p ∷ []) rest y more)

  action_fits : (e : Element) (x : Action) → action_at tags e ≡ Ok x → fits_action x ≡ true
  unfolding action_at
  action_fits e x is =
      let n = went (own_at e) _ x is in
      let called = went (some_at e UnknownTag (action_with tags n.value)) _ x n.behind in
      let a = went (taken e.contents) _ x called.behind in
      let target = went (generic_at tags reference_at a.value.0) _ x a.behind in
      let given = went (parameters tags (optional_of called.value) (needs_of called.value) [] a.value.1) _ x target.behind in
      let p = parameters_fit (optional_of called.value) (needs_of called.value) [] a.value.1 given.value given.first in
      let end = went (ended given.value.1) _ x given.behind in
      let fit : fits_parameters (optional_of called.value) (needs_of called.value) given.value.0 ≡ true = rw p.all p.fit in
      subst (λ (y : Action). fits_action y ≡ true) (ok_same end.behind) fit

  effect_fits : (e : Element) (xs : List Action) → effect_at tags e ≡ Ok xs → fits_effect xs ≡ true
  effect_fits e xs is = (list_fits action_fits longest_list e xs is).0

  slots_fit : (left : Rest) (m : Member) → member_in tags left ≡ Ok m → fits_member m ≡ true
  unfolding member_in
  slots_fit left m is =
      let a = went (taken left) _ m is in
      let object = went (reference_at a.value.0) _ m a.behind in
      let slots = went (listed (effect_at tags) longest_list [] a.value.1) _ m object.behind in
      subst (λ (n : Member). fits_member n ≡ true) (ok_same slots.behind) (members_fit effect_fits longest_list [] a.value.1 slots.value refl slots.first).fit

  member_fits : (e : Element) (m : Member) → member_at tags e ≡ Ok m → fits_member m ≡ true
  unfolding member_at
  member_fits e m is =
      let inner = went (sequence_at e) _ m is in
      slots_fit inner.value m inner.behind

  single_fits : (s : Shape) (e : Element) (v : Setting) → single tags s e ≡ Ok v → fits s v ≡ true
  unfolding single
  single_fits shape.Effect e v is = made_fits (fits shape.Effect) (effect_at tags e) of_setting.Effect v is (effect_fits e)
  single_fits shape.Bool e v is = made_fits (fits shape.Bool) (truth_at e) of_setting.Bool v is (λ x h. refl)
  single_fits shape.Int e v is = made_fits (fits shape.Int) (integer_at e) of_setting.Int v is (λ x h. refl)
  single_fits shape.Natural e v is = made_fits (fits shape.Natural) (natural_at e) of_setting.Int v is (natural_fits e)
  single_fits shape.Length e v is = made_fits (fits shape.Length) (length_at e) of_setting.Int v is (length_fits e)
  single_fits shape.Ref e v is = made_fits (fits shape.Ref) (reference_at e) of_setting.Ref v is (λ x h. refl)
  single_fits shape.Event e v is = made_fits (fits shape.Event) (event_at e) of_setting.Event v is (λ x h. refl)
  single_fits shape.Data e v is = made_fits (fits shape.Data) (data_at e) of_setting.Data v is (λ x h. refl)
  single_fits shape.Octets e v is = made_fits (fits shape.Octets) (octets_at e) of_setting.Octets v is (λ x h. refl)
  single_fits shape.Colour e v is = made_fits (fits shape.Colour) (colour_at e) of_setting.Colour v is (λ x h. refl)
  single_fits shape.Content e v is = made_fits (fits shape.Content) (content_at tags e) of_setting.Content v is (λ x h. refl)
  single_fits shape.ContentRef e v is = made_fits (fits shape.ContentRef) (content_name_at tags e) of_setting.ContentRef v is (λ x h. refl)
  single_fits shape.Justification e v is = made_fits (fits shape.Justification) (justification_at e) of_setting.Justification v is (λ x h. refl)
  single_fits shape.MovementTable e v is = made_fits (fits shape.MovementTable) (list_at row_at longest_list e) of_setting.MovementTable v is (λ x h. refl)
  single_fits shape.Members e v is = made_fits (fits shape.Members) (list_at (member_at tags) longest_list e) of_setting.Members v is (λ x h. (list_fits member_fits longest_list e x h).0)
  single_fits shape.ListItems e v is = made_fits (fits shape.ListItems) (list_at list_item_at 256 e) of_setting.Members v is (items_fit e)
  single_fits shape.Positions e v is = made_fits (fits shape.Positions) (list_at position_at longest_list e) of_setting.Positions v is (λ x h. refl)
  single_fits shape.NextScenes e v is = made_fits (fits shape.NextScenes) (list_at next_scene_at longest_list e) of_setting.NextScenes v is (λ x h. refl)
  single_fits _ e v is = absurd cc

  alone_fits : (s : Shape) (left : Rest) (v : Setting) → (only left >>= λ e. single tags s e) ≡ Ok v → fits s v ≡ true
  alone_fits s left v is =
      let e = went (only left) _ v is in
      single_fits s e.value v e.behind

  pub setting_fits : (s : Shape) (left : Rest) (v : Setting) → setting tags s left ≡ Ok v → fits s v ≡ true
  unfolding setting
  setting_fits shape.Pair left v is = made_fits (fits shape.Pair) (pair shape.Pair left) of_pair v is (pair_fits shape.Pair left)
  setting_fits shape.Size left v is = made_fits (fits shape.Size) (pair shape.Size left) of_pair v is (pair_fits shape.Size left)
  setting_fits shape.Screen left v is = made_fits (fits shape.Screen) (pair shape.Screen left) of_pair v is (pair_fits shape.Screen left)
  setting_fits s left v is = alone_fits s left v is
