-- Actions and their parameters: what was read is spelled so, and what is spelled so is read.
use Rattle.std.proofs.Common.{◌≡◌, ℕ, ◌<◌, ◌^◌, ◌⊎◌, inl, inr, Bool, true, false, ◌&&◌, ◌==◌, nat_le, if◌then◌else◌, List, [], ◌∷◌, ◌++◌, length, Some, Result, Ok, refl, ap, sym, ◌∙◌, subst, pos, append-nil, append_assoc}
use Rattle.std.specs.List.{list_all}
use Rattle.std.proofs.lemmas.Bool.{and_parts, and_from}
use Rattle.mh_base.specs.Event.{number_of}
use Rattle.mh_base.specs.declared.value.Kind.{Kind as ValueKind}
use Rattle.mh_base.specs.declared.value.Kind.TheVariants as value_kind
use Rattle.mh_base.specs.Reading.{Rest, ◌>>=◌}
use Rattle.mh_base.specs.Limits.{longest_list}
use Rattle.mh_base.specs.Kinds.{kinds}
use Rattle.mh_base.proofs.ReadingLemmas.{went, ok_same}
use Rattle.mh_der.specs.Element.{element}
use Rattle.mh_der.specs.Rest.{Element}
use Rattle.mh_der.specs.Reading.{is_empty}
use Rattle.mh_der.proofs.DigitLemmas.{AreBytes}
use Rattle.mh_group.specs.declared.action_name.ActionName.{ActionName}
use Rattle.mh_group.specs.declared.shape.Need.{Need}
use Rattle.mh_group.specs.declared.shape.Need.TheVariants as need
use Rattle.mh_group.specs.declared.action.Action.{Action}
use Rattle.mh_group.specs.declared.action.Typed.{Typed}
use Rattle.mh_group.specs.declared.action.Typed.TheVariants as typed
use Rattle.mh_group.specs.declared.action.Parameter.{Parameter}
use Rattle.mh_group.specs.declared.action.Parameter.TheVariants as parameter
use Rattle.mh_group.specs.Words.{actions}
use Rattle.mh_group.specs.Fit.{fits_parameter, fits_parameters, fits_action}
use Rattle.mh_group.specs.Holdable.{is_integer, is_plain, is_name, is_octets, is_content, is_data, is_reference, is_generic, is_list, is_typed, is_parameter, is_action}
use Rattle.mh_group.specs.Table.{needs_of, optional_of}
use Rattle.mh_codec.specs.declared.codec_error.Why.TheVariants.{UnknownTag}
use Rattle.mh_codec.specs.Tags.{action_with, value_kind_with}
use Rattle.mh_codec.specs.Tags.{Tags, IsTable, action_tag, value_tag}
use Rattle.mh_codec.proofs.TableLemmas.{action_named, value_named}
use Rattle.mh_codec.specs.Spelling.{own, integer, boolean, octet_string, content_name, content_value, data_value, reference, generic, several, list, typed_value, parameter_value, action}
use Rattle.mh_codec.specs.Gives.{Refusal}
use Rattle.mh_codec.specs.Reading.{taken, ended, only, own_at, some_at, truth_at, integer_at, octets_at, event_at, content_name_at, content_at, data_at, reference_at, generic_at, list_at, value_at, typed_at, parameter_at, parameters, action_at}
use Rattle.mh_codec.proofs.ElementLemmas.{written, in_parts, last_part, Good, same_element, same_number, find_holds, taken_found, good_found, taken_given, nothing_left, ended_given}
use Rattle.mh_codec.proofs.ValueLemmas.{own_numbered, own_written, some_ok, event_read, event_written}
use Rattle.mh_codec.proofs.ReferenceLemmas.{IsOne, Reads, same_all, spelled_as, only_read, only_written, integer_one, reference_one, reference_read, reference_written, truth_reads, truth_plain, integer_reads, integer_plain, octets_reads, octets_plain, content_name_reads, content_name_plain, content_reads, content_plain, data_reads, data_plain, reference_reads, reference_plain, generic_reads}
use Rattle.mh_codec.proofs.MemberLemmas.{some_left, list_reads}

-- values that are written directly or are held by variables

-- values with their kind

abbrev kind_in : Typed → ValueKind
kind_in (typed.Bool x) = value_kind.Bool
kind_in (typed.Int x) = value_kind.Int
kind_in (typed.Octets x) = value_kind.Octets
kind_in (typed.Ref x) = value_kind.Object
kind_in (typed.ContentRef x) = value_kind.Content

-- parameters

-- a reading that may be done, and else goes on
done_or : {A : Type 0} (b : Bool) (x y : A) (r : Result A Refusal) → (if b then Ok x else r) ≡ Ok y → ((x ≡ y) ⊎ (r ≡ Ok y))
done_or true x y r e = inl (ok_same e)
done_or false x y r e = inr e

-- actions

abbrev pub fits_and_is : Action → Bool
fits_and_is a = fits_action a && is_action a

module _ (tags : Tags) (table : IsTable tags) where
  truths : Reads (generic_at tags truth_at) (generic tags boolean) (is_generic is_plain) (is_generic is_plain)
  truths = generic_reads tags table truth_reads (truth_plain tags table)

  integers : Reads (generic_at tags integer_at) (generic tags integer) (is_generic is_integer) (is_generic is_integer)
  integers = generic_reads tags table integer_reads (integer_plain tags table)

  strings : Reads (generic_at tags octets_at) (generic tags octet_string) (is_generic is_octets) (is_generic is_octets)
  strings = generic_reads tags table octets_reads (octets_plain tags table)

  references : Reads (generic_at tags reference_at) (generic tags reference) (is_generic is_reference) (is_generic is_reference)
  references = generic_reads tags table reference_reads (reference_plain tags table)

  content_names : Reads (generic_at tags (content_name_at tags)) (generic tags (content_name tags)) (is_generic is_name) (is_generic is_name)
  content_names = generic_reads tags table (content_name_reads tags table) (content_name_plain tags table)

  contents : Reads (generic_at tags (content_at tags)) (generic tags (content_value tags)) (is_generic is_content) (is_generic is_content)
  contents = generic_reads tags table (content_reads tags table) (content_plain tags table)

  event_data : Reads (generic_at tags data_at) (generic tags data_value) (is_generic is_data) (is_generic is_data)
  event_data = generic_reads tags table data_reads (data_plain tags table)

  abbrev inner_value : Typed → List ℕ
  inner_value (typed.Bool x) = generic tags boolean x
  inner_value (typed.Int x) = generic tags integer x
  inner_value (typed.Octets x) = generic tags octet_string x
  inner_value (typed.Ref x) = generic tags reference x
  inner_value (typed.ContentRef x) = generic tags (content_name tags) x

  typed_is : (x : Typed) → typed_value tags x ≡ element (own (value_tag tags (kind_in x))) (inner_value x)
  unfolding typed_value
  typed_is (typed.Bool x) = refl
  typed_is (typed.Int x) = refl
  typed_is (typed.Octets x) = refl
  typed_is (typed.Ref x) = refl
  typed_is (typed.ContentRef x) = refl

  value_taged : (n : ℕ) (k : ValueKind) → value_kind_with tags n ≡ Some k → value_tag tags k ≡ n
  unfolding value_kind_with
  value_taged n k h = same_number (value_tag tags k) n (find_holds (λ (j : ValueKind). value_tag tags j == n) kinds k h)

  record IsValue (k : ValueKind) (e : Element) (x : Typed) : Type 0 where
    pub kind : kind_in x ≡ k
    pub is : written e ≡ inner_value x
    pub good : is_typed x ≡ true

  value_read : (k : ValueKind) (e : Element) (x : Typed) → Good e → value_at tags k e ≡ Ok x → IsValue k e x
  unfolding value_at
  value_read value_kind.Bool e x good is =
      let y = went (generic_at tags truth_at e) _ x is in
      let r = truths.found e y.value good y.first in
      subst (IsValue value_kind.Bool e) (ok_same y.behind) (record { kind = refl; is = r.0; good = r.1 })
  value_read value_kind.Int e x good is =
      let y = went (generic_at tags integer_at e) _ x is in
      let r = integers.found e y.value good y.first in
      subst (IsValue value_kind.Int e) (ok_same y.behind) (record { kind = refl; is = r.0; good = r.1 })
  value_read value_kind.Octets e x good is =
      let y = went (generic_at tags octets_at e) _ x is in
      let r = strings.found e y.value good y.first in
      subst (IsValue value_kind.Octets e) (ok_same y.behind) (record { kind = refl; is = r.0; good = r.1 })
  value_read value_kind.Object e x good is =
      let y = went (generic_at tags reference_at e) _ x is in
      let r = references.found e y.value good y.first in
      subst (IsValue value_kind.Object e) (ok_same y.behind) (record { kind = refl; is = r.0; good = r.1 })
  value_read value_kind.Content e x good is =
      let y = went (generic_at tags (content_name_at tags) e) _ x is in
      let r = content_names.found e y.value good y.first in
      subst (IsValue value_kind.Content e) (ok_same y.behind) (record { kind = refl; is = r.0; good = r.1 })

  value_written : (e : Element) (x : Typed) → e.tag.number < 2 ^ 16 → is_typed x ≡ true → written e ≡ inner_value x → value_at tags (kind_in x) e ≡ Ok x
  unfolding value_at
  value_written e (typed.Bool x) small good is = rw (truths.given e x small good is) refl
  value_written e (typed.Int x) small good is = rw (integers.given e x small good is) refl
  value_written e (typed.Octets x) small good is = rw (strings.given e x small good is) refl
  value_written e (typed.Ref x) small good is = rw (references.given e x small good is) refl
  value_written e (typed.ContentRef x) small good is = rw (content_names.given e x small good is) refl

  value_one : (x : Typed) → is_typed x ≡ true → IsOne (inner_value x)
  value_one (typed.Bool x) good = truths.one x good
  value_one (typed.Int x) good = integers.one x good
  value_one (typed.Octets x) good = strings.one x good
  value_one (typed.Ref x) good = references.one x good
  value_one (typed.ContentRef x) good = content_names.one x good

  typed_read : (e : Element) (x : Typed) → Good e → typed_at tags e ≡ Ok x → (written e ≡ typed_value tags x) × (is_typed x ≡ true)
  unfolding typed_at
  typed_read e x good is =
      let n = went (own_at e) _ x is in
      let k = went (some_at e UnknownTag (value_kind_with tags n.value)) _ x n.behind in
      let inner = went (only e.contents) _ x k.behind in
      let o = only_read e.contents inner.value good.bytes inner.first in
      let r = value_read k.value inner.value x o.good inner.behind in
      let number = value_taged n.value k.value (some_ok e UnknownTag (value_kind_with tags n.value) k.value k.first) in
      let tag = own_numbered e n.value (value_tag tags (kind_in x)) n.first (rw r.kind number) in
      (spelled_as e (own (value_tag tags (kind_in x))) (inner_value x) tag (o.is ∙ r.is) ∙ sym (typed_is x), r.good)

  typed_written : (e : Element) (x : Typed) → e.tag.number < 2 ^ 16 → is_typed x ≡ true → written e ≡ typed_value tags x → typed_at tags e ≡ Ok x
  unfolding typed_at
  typed_written e x small good is =
      let named = value_named tags table (kind_in x) in
      let same = same_element e.tag (own (value_tag tags (kind_in x))) e.contents.bytes (inner_value x) small named.1 (is ∙ typed_is x) in
      let one = value_one x good in
      let o = only_written e.contents one.tag one.contents one.small (same.inner ∙ one.is) in
      let inner = value_written o.found x o.small good (o.is ∙ sym one.is) in
      rw (own_written e (value_tag tags (kind_in x)) same.tag, named.0, o.takes, inner) refl

  typed_one : (x : Typed) → IsOne (typed_value tags x)
  typed_one x = record { tag = own (value_tag tags (kind_in x)); contents = inner_value x; small = (value_named tags table (kind_in x)).1; is = typed_is x }

  typed_reads : Reads (typed_at tags) (typed_value tags) is_typed is_typed
  typed_reads = record {
    found = typed_read;
    given = typed_written;
    one = λ x good. typed_one x;
  }

  arguments : Reads (list_at (typed_at tags) longest_list) (list (typed_value tags)) (is_list is_typed) (is_list is_typed)
  arguments = list_reads typed_reads

  abbrev Spelled : Element → Parameter → Type 0
  Spelled e p = (written e ≡ parameter_value tags p) × (is_parameter p ≡ true)

  parameter_read : (n : Need) (e : Element) (p : Parameter) → Good e → parameter_at tags n e ≡ Ok p → Spelled e p
  unfolding parameter_at
  parameter_read need.Bool e p good is =
      let x = went (generic_at tags truth_at e) _ p is in
      subst (Spelled e) (ok_same x.behind) (truths.found e x.value good x.first)
  parameter_read need.Int e p good is =
      let x = went (generic_at tags integer_at e) _ p is in
      subst (Spelled e) (ok_same x.behind) (integers.found e x.value good x.first)
  parameter_read need.Octets e p good is =
      let x = went (generic_at tags octets_at e) _ p is in
      subst (Spelled e) (ok_same x.behind) (strings.found e x.value good x.first)
  parameter_read need.Ref e p good is =
      let x = went (generic_at tags reference_at e) _ p is in
      subst (Spelled e) (ok_same x.behind) (references.found e x.value good x.first)
  parameter_read need.Content e p good is =
      let x = went (generic_at tags (content_at tags) e) _ p is in
      subst (Spelled e) (ok_same x.behind) (contents.found e x.value good x.first)
  parameter_read need.Data e p good is =
      let x = went (generic_at tags data_at e) _ p is in
      subst (Spelled e) (ok_same x.behind) (event_data.found e x.value good x.first)
  parameter_read need.Event e p good is =
      let x = went (event_at e) _ p is in
      subst (Spelled e) (ok_same x.behind) (event_read e x.value good x.first, refl)
  parameter_read (need.Receiver k) e p good is =
      let x = went (reference_at e) _ p is in
      subst (Spelled e) (ok_same x.behind) (reference_read e x.value good x.first)
  parameter_read need.Typed e p good is =
      let x = went (typed_at tags e) _ p is in
      subst (Spelled e) (ok_same x.behind) (typed_read e x.value good x.first)
  parameter_read need.Arguments e p good is =
      let x = went (list_at (typed_at tags) longest_list e) _ p is in
      subst (Spelled e) (ok_same x.behind) (arguments.found e x.value good x.first)

  parameter_written : (n : Need) (e : Element) (p : Parameter) → e.tag.number < 2 ^ 16 → fits_parameter n p ≡ true → is_parameter p ≡ true → written e ≡ parameter_value tags p → parameter_at tags n e ≡ Ok p
  unfolding parameter_at
  parameter_written need.Bool e (parameter.Bool x) small fits good is = rw (truths.given e x small good is) refl
  parameter_written need.Int e (parameter.Int x) small fits good is = rw (integers.given e x small good is) refl
  parameter_written need.Octets e (parameter.Octets x) small fits good is = rw (strings.given e x small good is) refl
  parameter_written need.Ref e (parameter.Ref x) small fits good is = rw (references.given e x small good is) refl
  parameter_written need.Content e (parameter.Content x) small fits good is = rw (contents.given e x small good is) refl
  parameter_written need.Data e (parameter.Data x) small fits good is = rw (event_data.given e x small good is) refl
  parameter_written need.Event e (parameter.Event x) small fits good is = rw (event_written e x small is) refl
  parameter_written (need.Receiver k) e (parameter.Receiver r) small fits good is = rw (reference_written e r small good is) refl
  parameter_written need.Typed e (parameter.Typed x) small fits good is = rw (typed_written e x small good is) refl
  parameter_written need.Arguments e (parameter.Arguments xs) small fits good is = rw (arguments.given e xs small good is) refl
  parameter_written _ e _ small fits good is = absurd cc

  parameter_one : (p : Parameter) → is_parameter p ≡ true → IsOne (parameter_value tags p)
  parameter_one (parameter.Bool x) good = truths.one x good
  parameter_one (parameter.Int x) good = integers.one x good
  parameter_one (parameter.Octets x) good = strings.one x good
  parameter_one (parameter.Ref x) good = references.one x good
  parameter_one (parameter.Content x) good = contents.one x good
  parameter_one (parameter.Data x) good = event_data.one x good
  parameter_one (parameter.Event x) good = integer_one (pos (number_of x))
  parameter_one (parameter.Receiver r) good = reference_one r
  parameter_one (parameter.Typed x) good = typed_one x
  parameter_one (parameter.Arguments xs) good = arguments.one xs good

  -- the parameters that were read
  record Parameters (done : List Parameter) (left : Rest) (y : List Parameter × Rest) : Type 0 where
    pub new : List Parameter
    pub all : y.0 ≡ done ++ new
    pub is : left.bytes ≡ several (parameter_value tags) new ++ y.1.bytes
    pub good : list_all is_parameter new ≡ true
    pub bytes : AreBytes y.1.bytes

  no_parameters : (done : List Parameter) (left : Rest) → AreBytes left.bytes → Parameters done left (done, left)
  no_parameters done left bytes = record { new = []; all = sym (append-nil done); is = refl; good = refl; bytes = bytes }

  more_found : (optional : ℕ) (n : Need) (ns : List Need) (done : List Parameter) (left : Rest) (y : List Parameter × Rest) → AreBytes left.bytes
      → (taken left >>= λ a. parameter_at tags n a.0 >>= λ x. parameters tags optional ns (done ++ x ∷ []) a.1) ≡ Ok y
      → ((p : Parameter) (rest : Rest) → AreBytes rest.bytes → parameters tags optional ns (done ++ p ∷ []) rest ≡ Ok y → Parameters (done ++ p ∷ []) rest y) → Parameters done left y
  more_found optional n ns done left y bytes e further =
      let a = went (taken left) _ y e in
      let f = taken_found left a.value.0 a.value.1 bytes a.first in
      let p = went (parameter_at tags n a.value.0) _ y a.behind in
      let r = parameter_read n a.value.0 p.value (good_found left a.value.0 a.value.1 f) p.first in
      let more = further p.value a.value.1 f.rest p.behind in
      record {
        new = p.value ∷ more.new;
        all = more.all ∙ append_assoc done (p.value ∷ []) more.new;
        is = in_parts left.bytes (written a.value.0) a.value.1.bytes (parameter_value tags p.value) (several (parameter_value tags) more.new ++ y.1.bytes) f.written r.0 more.is
            ∙ sym (append_assoc (parameter_value tags p.value) (several (parameter_value tags) more.new) y.1.bytes);
        good = and_from (is_parameter p.value) (list_all is_parameter more.new) r.1 more.good;
        bytes = more.bytes;
      }

  parameters_found : (optional : ℕ) (ns : List Need) (done : List Parameter) (left : Rest) (y : List Parameter × Rest) → AreBytes left.bytes → parameters tags optional ns done left ≡ Ok y → Parameters done left y
  parameters_found optional [] done left y bytes e = subst (Parameters done left) (ok_same e) (no_parameters done left bytes)
  parameters_found optional (n ∷ ns) done left y bytes e =
      elim (done_or (is_empty left.bytes && nat_le (length (n ∷ ns)) optional) (done, left) y _ e) [
        | inl same ↦ subst (Parameters done left) same (no_parameters done left bytes)
        | inr goes ↦ more_found optional n ns done left y bytes goes (λ p rest b h. parameters_found optional ns (done ++ p ∷ []) rest y b h)
      ]

  record ParametersGiven (optional : ℕ) (ns : List Need) (done ps : List Parameter) (left : Rest) : Type 0 where
    pub rest : Rest
    pub takes : parameters tags optional ns done left ≡ Ok (done ++ ps, rest)
    pub behind : rest.bytes ≡ []

  parameters_given : (optional : ℕ) (ns : List Need) (done ps : List Parameter) (left : Rest) → fits_parameters optional ns ps ≡ true → list_all is_parameter ps ≡ true
      → left.bytes ≡ several (parameter_value tags) ps → ParametersGiven optional ns done ps left
  parameters_given optional [] done [] left fits good is = record { rest = left; takes = rw (append-nil done) refl; behind = is }
  parameters_given optional [] done (p ∷ ps) left fits good is = absurd cc
  parameters_given optional (n ∷ ns) done [] left fits good is = record { rest = left; takes = rw (is, fits, append-nil done) refl; behind = is }
  parameters_given optional (n ∷ ns) done (p ∷ ps) left fits good is =
      let goods = and_parts (is_parameter p) (list_all is_parameter ps) good in
      let fit = and_parts (fits_parameter n p) (fits_parameters optional ns ps) fits in
      let one = parameter_one p goods.0 in
      let stands : left.bytes ≡ element one.tag one.contents ++ several (parameter_value tags) ps = is ∙ ap (λ (bs : List ℕ). bs ++ several (parameter_value tags) ps) one.is in
      let g = taken_given left one.tag one.contents (several (parameter_value tags) ps) one.small stands in
      let some = some_left left.bytes one.tag one.contents (several (parameter_value tags) ps) stands in
      let first = parameter_written n g.found p g.small fit.0 goods.0 (g.is ∙ sym one.is) in
      let more = parameters_given optional ns (done ++ p ∷ []) ps g.rest fit.1 goods.1 g.behind in
      record {
        rest = more.rest;
        takes = rw (some, g.takes, first) (more.takes ∙ rw (append_assoc done (p ∷ []) ps) refl);
        behind = more.behind;
      }

  action_numbered : (n : ℕ) (a : ActionName) → action_with tags n ≡ Some a → action_tag tags a ≡ n
  unfolding action_with
  action_numbered n a h = same_number (action_tag tags a) n (find_holds (λ (b : ActionName). action_tag tags b == n) actions a h)

  same_several : (ps qs : List Parameter) → qs ≡ ps → several (parameter_value tags) ps ≡ several (parameter_value tags) qs
  same_several ps qs same = rw same refl

  pub action_read : (e : Element) (x : Action) → Good e → action_at tags e ≡ Ok x → (written e ≡ action tags x) × (is_action x ≡ true)
  unfolding action_at action
  action_read e x good is =
      let n = went (own_at e) _ x is in
      let called = went (some_at e UnknownTag (action_with tags n.value)) _ x n.behind in
      let a = went (taken e.contents) _ x called.behind in
      let f = taken_found e.contents a.value.0 a.value.1 good.bytes a.first in
      let target = went (generic_at tags reference_at a.value.0) _ x a.behind in
      let t = references.found a.value.0 target.value (good_found e.contents a.value.0 a.value.1 f) target.first in
      let given = went (parameters tags (optional_of called.value) (needs_of called.value) [] a.value.1) _ x target.behind in
      let p = parameters_found (optional_of called.value) (needs_of called.value) [] a.value.1 given.value f.rest given.first in
      let end = went (ended given.value.1) _ x given.behind in
      let none = nothing_left given.value.1 end.first in
      let number = action_numbered n.value called.value (some_ok e UnknownTag (action_with tags n.value) called.value called.first) in
      let tag = own_numbered e n.value (action_tag tags called.value) n.first number in
      let rest = last_part a.value.1.bytes (several (parameter_value tags) p.new) given.value.1.bytes (several (parameter_value tags) given.value.0) p.is none (same_several p.new given.value.0 p.all) in
      let inner = in_parts e.contents.bytes (written a.value.0) a.value.1.bytes (generic tags reference target.value) (several (parameter_value tags) given.value.0) f.written t.0 rest in
      subst (λ (y : Action). (written e ≡ action tags y) × (is_action y ≡ true)) (ok_same end.behind) (
        spelled_as e (own (action_tag tags called.value)) (generic tags reference target.value ++ several (parameter_value tags) given.value.0) tag inner,
        and_from (is_generic is_reference target.value) (list_all is_parameter given.value.0) t.1 (same_all is_parameter p.new given.value.0 p.all p.good),
      )

  pub action_written : (e : Element) (x : Action) → e.tag.number < 2 ^ 16 → fits_and_is x ≡ true → written e ≡ action tags x → action_at tags e ≡ Ok x
  unfolding action_at action
  action_written e x small good is =
      let fit = and_parts (fits_action x) (is_action x) good in
      let goods = and_parts (is_generic is_reference x.target) (list_all is_parameter x.parameters) fit.1 in
      let called = action_named tags table x.name in
      let same = same_element e.tag (own (action_tag tags x.name)) e.contents.bytes (generic tags reference x.target ++ several (parameter_value tags) x.parameters) small called.1 is in
      let one = references.one x.target goods.0 in
      let g = taken_given e.contents one.tag one.contents (several (parameter_value tags) x.parameters) one.small
      (same.inner ∙ ap (λ (bs : List ℕ). bs ++ several (parameter_value tags) x.parameters) one.is) in
      let target = references.given g.found x.target g.small goods.0 (g.is ∙ sym one.is) in
      let p = parameters_given (optional_of x.name) (needs_of x.name) [] x.parameters g.rest fit.0 goods.1 g.behind in
      let end = ended_given p.rest p.behind in
      rw (own_written e (action_tag tags x.name) same.tag, called.0, g.takes, target, p.takes, end) refl

  pub action_one : (x : Action) → IsOne (action tags x)
  unfolding action
  action_one x = record {
    tag = own (action_tag tags x.name);
    contents = generic tags reference x.target ++ several (parameter_value tags) x.parameters;
    small = (action_named tags table x.name).1;
    is = refl;
  }

  pub action_reads : Reads (action_at tags) (action tags) is_action fits_and_is
  action_reads = record {
    found = action_read;
    given = action_written;
    one = λ x fit. action_one x;
  }
