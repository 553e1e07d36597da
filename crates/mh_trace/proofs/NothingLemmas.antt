-- Where nothing is told of what a step may change, each object is as it was.
use Rattle.std.specs.Prelude.{◌≡◌, ⊤, ℕ, ◌+◌, ◌==◌, ◌||◌, ◌&&◌, Bool, true, false, not, if◌then◌else◌, List, [], ◌∷◌, ◌++◌, codes, drop, length, map, Option, Some, None, unwrap_or, refl}
use Rattle.std.specs.List.{filter_map, find, flat_map, list_any}
use Rattle.std.specs.Option.{option_map, option_or, option_to_list}
use Rattle.std.specs.Ordering.{int_eq}
use Rattle.std.specs.Str.{bytes_eq}
use Rattle.std.proofs.Common.{◌⊎◌, inl, inr, ap, sym, ◌∙◌, subst}
use Rattle.std.proofs.lemmas.Bool.{false≢true}
use Rattle.std.proofs.lemmas.Bool.Decides.{Decides-eqb, Decides-int_eq}
use Rattle.std.proofs.lemmas.Grind.{flat_map-append}
use Rattle.std.proofs.lemmas.Slice.Eq.{bytes_eq-Decides}
use Rattle.mh_base.specs.declared.obj_ref.ObjRef.{ObjRef}
use Rattle.mh_base.specs.declared.colour.Colour.{Colour}
use Rattle.mh_base.specs.declared.value.Value.{Value}
use Rattle.mh_base.specs.declared.value.Value.TheVariants as value
use Rattle.mh_group.specs.declared.action_name.ActionName.{ActionName}
use Rattle.mh_group.specs.declared.action_name.ActionName.TheVariants as action
use Rattle.mh_group.specs.declared.attribute.Attribute.{Attribute}
use Rattle.mh_group.specs.declared.written.Position.{Position}
use Rattle.mh_group.specs.Words.{attributes}
use Rattle.mh_model.specs.declared.act.Act.{Act}
use Rattle.mh_model.specs.declared.act.Argument.{Argument}
use Rattle.mh_model.specs.declared.act.Argument.TheVariants as argument
use Rattle.mh_model.specs.declared.held.Held.{Held}
use Rattle.mh_model.specs.declared.held.Held.TheVariants as of
use Rattle.mh_model.specs.declared.item.Item.{Item}
use Rattle.mh_model.specs.declared.item.Item.TheVariants as item
use Rattle.mh_model.specs.declared.object.listing.Entry.{Entry}
use Rattle.mh_model.specs.declared.object.Body.{Body}
use Rattle.mh_model.specs.declared.object.Fixed.{Fixed}
use Rattle.mh_model.specs.declared.object.Object.{Object}
use Rattle.mh_model.specs.declared.program.Param.{Param}
use Rattle.mh_model.specs.declared.program.Param.TheVariants as param
use Rattle.mh_model.specs.declared.sort.Sort.{Sort}
use Rattle.mh_model.specs.declared.sort.Sort.TheVariants as sort
use Rattle.mh_model.specs.Arguments.{receivers, receiver_of, referred}
use Rattle.mh_model.specs.Bodies.{stored}
use Rattle.mh_model.specs.Programs.{outs, variable_of}
use Rattle.mh_model.specs.Property.{held, read, value_held}
use Rattle.mh_model.specs.Reference.{same_ref}
use Rattle.mh_model.specs.Rules.{all_placed, changed, changed_in, filled, is_at, on_body, placed_at, rule}
use Rattle.mh_model.specs.Service.{object_at}
use Rattle.mh_model.specs.State.{Objects, State, all}
use Rattle.mh_model.specs.Variables.{same_value}
use Rattle.mh_model.proofs.ServiceLemmas.{same_ref-same}
use Rattle.mh_store.proofs.PlacingLemmas.{all-changed}
use Rattle.mh_machine.specs.Rest.{answer_by, answer_of, judged}
use Rattle.mh_machine.specs.declared.stepped.Stepped.TheVariants as answer
use Rattle.mh_trace.specs.declared.form.Form.{Form}
use Rattle.mh_trace.specs.declared.form.Form.TheVariants as of_form
use Rattle.mh_trace.specs.Changes.{attribute_by, available_note, highlighted_note, overwriting_note, running_note, selected_note, attribute_note, attribute_notes, content_notes, count_change, count_note, count_notes, drawings_note, first_note, flag_change, flag_note, flag_text, items_change, json_change, json_start, life_notes, notes, notes_among, notes_at, notes_on, point_note, same_bool, same_colour, same_entries, same_entry, same_given, same_held, same_loaded, same_read, text_change, token_note, value_change}
use Rattle.mh_base.specs.Event.{is_sync}
use Rattle.mh_group.specs.declared.attribute.Attribute.TheVariants as attribute
use Rattle.mh_group.specs.Table.{is_visible}
use Rattle.mh_model.specs.declared.event.Event.{Event}
use Rattle.mh_model.specs.declared.fault.Fault.{Fault}
use Rattle.mh_model.specs.declared.input.Input.TheVariants as input
use Rattle.mh_model.specs.declared.input.Waiting.{Waiting}
use Rattle.mh_model.specs.declared.input.Waiting.TheVariants as waiting
use Rattle.mh_model.specs.declared.interaction.Interaction.{Interaction}
use Rattle.mh_model.specs.declared.key.Key.{Key}
use Rattle.mh_model.specs.Step.{did, is_empty, key_taken, step, step_by, taking, took}
use Rattle.mh_model.specs.Stuck.{stuck}
use Rattle.mh_model.proofs.ListLemmas.{and_left, and_right}
use Rattle.mh_model.specs.Arguments.{values}
use Rattle.mh_model.specs.Bodies.{changed_by, dropped, halted, prepared, put, started, token_started}
use Rattle.mh_model.specs.Faults.{passed}
use Rattle.mh_model.specs.Items.{heard}
use Rattle.mh_model.specs.Known.{params_in}
use Rattle.mh_model.specs.Lifecycle.{loaded_at, places_of, run_places}
use Rattle.mh_model.specs.Programs.{said_by}
use Rattle.mh_model.specs.Rules.{act_on, begins_or_waits, emitted, interact_rule, is_begun, leads_to_late, outcome_at, rule_by, run_rule, whole_rule}
use Rattle.mh_model.specs.Saying.{answers_at}
use Rattle.mh_model.specs.Service.{part_at, parts}
use Rattle.mh_model.specs.Sort.{sort_of}
use Rattle.mh_model.specs.Worked.{is_interacting}
use Rattle.mh_trace.specs.Changes.{note_start}
use Rattle.mh_trace.specs.declared.site.Site.{Site}
use Rattle.mh_trace.specs.Head.{first, front}
use Rattle.mh_trace.specs.Quiet.{is_quiet, is_quiet_input, is_quiet_item, is_quiet_sort}
use Rattle.mh_trace.specs.Outcome.{is_fault, may_be_nothing}
use Rattle.mh_trace.specs.Trace.{Tracing, has_rested, opened, seen_of}
use Rattle.mh_trace.specs.Glance.{is_same}
use Rattle.mh_trace.specs.Nothing.{AreAsTheyWere, IsAsItWas, told_nothing}
use Rattle.mh_trace.specs.Touched.{filled_by, filled_object, filled_through, found_at, found_at_option, item_touches, touched}

-- Of an object that is as it was nothing is told.

bool_alike : (b : Bool) → same_bool b b ≡ true
bool_alike true = refl
bool_alike false = refl

octets_alike : (bs : List ℕ) → bytes_eq bs bs ≡ true
octets_alike bs = (bytes_eq-Decides bs bs).1 refl

number_alike : (n : ℕ) → (n == n) ≡ true
number_alike n = (Decides-eqb n n).1 refl

ref_alike : (r : ObjRef) → same_ref r r ≡ true
ref_alike r = rw (octets_alike r.group) (number_alike r.number)

value_alike : (v : Value) → same_value v v ≡ true
value_alike (value.Bool b) = bool_alike b
value_alike (value.Int n) = (Decides-int_eq n n).1 refl
value_alike (value.Octets os) = octets_alike os
value_alike (value.Object r) = ref_alike r
value_alike (value.Content c) = octets_alike c

given_alike : (v : Option Value) → same_given v v ≡ true
given_alike None = refl
given_alike (Some v) = value_alike v

loaded_alike : (x : Option (List ℕ)) → same_loaded x x ≡ true
loaded_alike None = refl
loaded_alike (Some bs) = octets_alike bs

entry_alike : (e : Entry) → same_entry e e ≡ true
entry_alike e = rw (bool_alike e.selected) (ref_alike e.object)

entries_alike : (es : List Entry) → same_entries es es ≡ true
entries_alike [] = refl
entries_alike (e ∷ es) = rw (entry_alike e) (entries_alike es)

colour_alike : (c : Colour) → same_colour c c ≡ true
colour_alike c = rw (number_alike c.red) (rw (number_alike c.green) (rw (number_alike c.blue) (number_alike c.transparency)))

held_alike : (h : Held) → same_held h h ≡ true
held_alike (of.Value v) = value_alike v
held_alike (of.Pair x y) = rw ((Decides-int_eq x x).1 refl) ((Decides-int_eq y y).1 refl)
held_alike (of.Colour c) = colour_alike c
held_alike _ = refl

flag_told : (f : Form) (r : ObjRef) (word : List ℕ) → flag_change f r word true ≡ [] → ⊥
unfolding flag_text note_start json_change json_start
flag_told of_form.Text r word e = cc
flag_told of_form.Json r word e = cc

-- whichever the form in which it is told

module _ (form : Form) where
  attribute_alike : (r : ObjRef) (a : Attribute) (m x : Option Held) → attribute_by form r a (option_or m x) m ≡ []
  attribute_alike r a None x = refl
  attribute_alike r a (Some h) x = rw (held_alike h) refl

  none_of_each : {A : Type 0} (f : A → List ℕ) (xs : List A) → ((x : A) → f x ≡ []) → flat_map f xs ≡ []
  none_of_each f [] none = refl
  none_of_each f (x ∷ xs) none = λ i. none x i ++ none_of_each f xs none i

  flag_alike : (r : ObjRef) (word : List ℕ) (b : Bool) → flag_note form r word b b ≡ []
  flag_alike r word b = ap (λ (t : Bool). if t then [] else flag_change form r word b) (bool_alike b)

  count_alike : (r : ObjRef) (word : List ℕ) (n : ℕ) → count_note form r word n n ≡ []
  count_alike r word n = ap (λ (t : Bool). if t then [] else count_change form r word n n) (number_alike n)

  life_alike : (r : ObjRef) (b : Body) → life_notes form r b b ≡ []
  unfolding life_notes available_note running_note highlighted_note selected_note overwriting_note
  life_alike r b = λ i.
      flag_alike r (codes "available") b.available i ++ flag_alike r (codes "running") b.running i
      ++ flag_alike r (codes "highlighted") b.highlighted i ++ flag_alike r (codes "selected") b.selected i
      ++ flag_alike r (codes "overwriting") b.overwrites i

  counts_alike : (r : ObjRef) (b : Body) → count_notes form r b b ≡ []
  unfolding count_notes token_note point_note drawings_note first_note
  counts_alike r b = λ i.
      count_alike r (codes "token") b.token i ++ count_alike r (codes "entry point") b.point i
      ++ count_alike r (codes "drawings") (length b.drawings) i ++ count_alike r (codes "first item") b.list.first i

  content_alike : (o : Object) → content_notes form o o.body ≡ []
  unfolding content_notes
  content_alike o =
      let r = o.fixed.key in
      let b = o.body in
      let v = value_held o.fixed b in
      λ i.
      (if given_alike v i then [] else value_change form r v v)
      ++ (if loaded_alike b.text i then [] else text_change form r b.text b.text)
      ++ (if entries_alike b.list.entries i then [] else items_change form r)

  attributes_alike : (o : Object) → attribute_notes form o o.body ≡ []
  attributes_alike o = none_of_each (attribute_note form o o.body) attributes (λ a. attribute_alike o.fixed.key a (held a o.body.changes) (held a o.fixed.properties))

  pub none_told : (o : Object) → notes_on form o o.body ≡ []
  unfolding notes_on
  none_told o = λ i.
      life_alike o.fixed.key o.body i ++ counts_alike o.fixed.key o.body i ++ content_alike o i ++ attributes_alike o i

  -- OBJECTS THAT STAY, but for those at some references: what the files say of each stays, and of all others all.

  abbrev SameFixed : Option Object → Option Object → Type 0
  SameFixed None None = ⊤
  SameFixed (Some o) (Some p) = p.fixed ≡ o.fixed
  SameFixed _ _ = ⊥

  abbrev Keeps : List ObjRef → List Object → List Object → Type 0
  Keeps rs os ps = (r : ObjRef) → (SameFixed (object_at r os) (object_at r ps)) × (list_any (same_ref r) rs ≡ false → object_at r ps ≡ object_at r os)

  fixed_alike : (m : Option Object) → SameFixed m m
  fixed_alike None = tt
  fixed_alike (Some o) = refl

  fixed_both : (l m n : Option Object) → SameFixed l m → SameFixed m n → SameFixed l n
  fixed_both None None None a b = tt
  fixed_both (Some o) (Some p) (Some q) a b = b ∙ a
  fixed_both None None (Some q) a b = b
  fixed_both None (Some p) n a b = absurd a
  fixed_both (Some o) None n a b = absurd a
  fixed_both (Some o) (Some p) None a b = b

  keeps_all : (rs : List ObjRef) (os ps : List Object) → ps ≡ os → Keeps rs os ps
  keeps_all rs os ps same r = (subst (λ (x : List Object). SameFixed (object_at r os) (object_at r x)) (sym same) (fixed_alike (object_at r os)), λ other. ap (object_at r) same)

  neither : (a b : Bool) → (a || b) ≡ false → (a ≡ false) × (b ≡ false)
  neither false b e = (refl, e)
  neither true b e = absurd (false≢true (sym e))

  any_of_both : (p : ObjRef → Bool) (rs ss : List ObjRef) → list_any p (rs ++ ss) ≡ (list_any p rs || list_any p ss)
  any_of_both p [] ss = refl
  any_of_both p (r ∷ rs) ss = by (p r) (any_of_both p rs ss)
    where
      by : (b : Bool) → list_any p (rs ++ ss) ≡ (list_any p rs || list_any p ss) → (b || list_any p (rs ++ ss)) ≡ ((b || list_any p rs) || list_any p ss)
      by true e = refl
      by false e = e

  keeps_both : (rs ss : List ObjRef) (os ps qs : List Object) → Keeps rs os ps → Keeps ss ps qs → Keeps (rs ++ ss) os qs
  keeps_both rs ss os ps qs a b r = (
    fixed_both (object_at r os) (object_at r ps) (object_at r qs) (a r).0 (b r).0,
    λ other. by (neither (list_any (same_ref r) rs) (list_any (same_ref r) ss) (sym (any_of_both (same_ref r) rs ss) ∙ other)),
  )
    where
      by : (list_any (same_ref r) rs ≡ false) × (list_any (same_ref r) ss ≡ false) → object_at r qs ≡ object_at r os
      by e = (b r).1 e.1 ∙ (a r).1 e.0

  -- one change

  changed_there : (f : Fixed → Body → Body) (r : ObjRef) (os : List Object) → object_at r (changed_in f r os) ≡ option_map (on_body f) (object_at r os)
  changed_there f r [] = refl
  changed_there f r (o ∷ os) = by (is_at r o) refl (changed_there f r os)
    where
      by : (b : Bool) → is_at r o ≡ b → object_at r (changed_in f r os) ≡ option_map (on_body f) (object_at r os) → object_at r (if b then on_body f o ∷ os else o ∷ changed_in f r os) ≡ option_map (on_body f) (if b then Some o else object_at r os)
      by true e others = ap (λ (t : Bool). if t then Some (on_body f o) else object_at r os) e
      by false e others = ap (λ (t : Bool). if t then Some o else object_at r (changed_in f r os)) e ∙ others

  changed_elsewhere : (f : Fixed → Body → Body) (q r : ObjRef) (os : List Object) → same_ref r q ≡ false → object_at r (changed_in f q os) ≡ object_at r os
  changed_elsewhere f q r [] other = refl
  changed_elsewhere f q r (o ∷ os) other = by (is_at q o) refl (changed_elsewhere f q r os other)
    where
      by : (b : Bool) → is_at q o ≡ b → object_at r (changed_in f q os) ≡ object_at r os → object_at r (if b then on_body f o ∷ os else o ∷ changed_in f q os) ≡ object_at r (o ∷ os)
      by true e below =
          let apart : is_at r o ≡ false = subst (λ (y : ObjRef). same_ref r y ≡ false) (same_ref-same q o.fixed.key e) other in
          ap (λ (t : Bool). if t then Some (on_body f o) else object_at r os) apart ∙ sym (ap (λ (t : Bool). if t then Some o else object_at r os) apart)
      by false e below = ap (λ (x : Option Object). if is_at r o then Some o else x) below

  fixed_mapped : (f : Fixed → Body → Body) (m : Option Object) → SameFixed m (option_map (on_body f) m)
  fixed_mapped f None = tt
  fixed_mapped f (Some o) = refl

  keeps_in : (f : Fixed → Body → Body) (q : ObjRef) (os : List Object) → Keeps (q ∷ []) os (changed_in f q os)
  keeps_in f q os r = (by (same_ref r q) refl, λ other. changed_elsewhere f q r os (neither (same_ref r q) false other).0)
    where
      by : (b : Bool) → same_ref r q ≡ b → SameFixed (object_at r os) (object_at r (changed_in f q os))
      by true e = subst (λ (x : ObjRef). SameFixed (object_at x os) (object_at x (changed_in f q os))) (sym (same_ref-same r q e)) (subst (SameFixed (object_at q os)) (sym (changed_there f q os)) (fixed_mapped f (object_at q os)))
      by false e = subst (SameFixed (object_at r os)) (sym (changed_elsewhere f q r os e)) (fixed_alike (object_at r os))

  keeps_changed : (f : Fixed → Body → Body) (q : ObjRef) (os : Objects) → Keeps (q ∷ []) (all os) (all (changed f q os))
  keeps_changed f q os = subst (Keeps (q ∷ []) (all os)) (sym (all-changed f q os)) (keeps_in f q (all os))

  -- answers that are received

  keeps_filled : (rs : List ObjRef) (vs : List Value) (os : Objects) → Keeps rs (all os) (all (filled rs vs os))
  keeps_filled [] vs os = keeps_all [] (all os) (all os) refl
  keeps_filled (r ∷ rs) [] os = keeps_all (r ∷ rs) (all os) (all os) refl
  keeps_filled (r ∷ rs) (v ∷ vs) os =
      let next = changed (λ p b. stored v b) r os in
      keeps_both (r ∷ []) rs (all os) (all next) (all (filled rs vs next)) (keeps_changed (λ p b. stored v b) r os) (keeps_filled rs vs next)

  -- WHAT IS TOLD of the objects at some references

  abbrev Untold : List ObjRef → List Object → List Object → Type 0
  Untold rs os ps = (r : ObjRef) → list_any (same_ref r) rs ≡ true → (o : Object) → object_at r os ≡ Some o → notes_among form ps o ≡ []

  one_or_other : (a b : Bool) → (a || b) ≡ true → (a ≡ true) ⊎ (b ≡ true)
  one_or_other true b e = inl refl
  one_or_other false b e = inr e

  untold_both : (rs ss : List ObjRef) (os ps : List Object) → Untold rs os ps → Untold ss os ps → Untold (rs ++ ss) os ps
  untold_both rs ss os ps a b r among o found = by (one_or_other (list_any (same_ref r) rs) (list_any (same_ref r) ss) (sym (any_of_both (same_ref r) rs ss) ∙ among))
    where
      by : (list_any (same_ref r) rs ≡ true) ⊎ (list_any (same_ref r) ss ≡ true) → notes_among form ps o ≡ []
      by (inl e) = a r e o found
      by (inr e) = b r e o found

  untold_none : (os ps : List Object) → Untold [] os ps
  untold_none os ps r among o found = absurd (false≢true among)

  or_none : (b : Bool) → (b || false) ≡ true → b ≡ true
  or_none true e = refl
  or_none false e = e

  no_more : {A : Type 0} (xs : List A) → xs ++ [] ≡ xs
  no_more [] = refl
  no_more {A} (x ∷ xs) = ap (λ (ys : List A). x ∷ ys) (no_more xs)

  untold_one : (q : ObjRef) (os ps : List Object) → notes form (found_at os q) ps ≡ [] → Untold (q ∷ []) os ps
  untold_one q os ps none r among o found =
      let same : r ≡ q = same_ref-same r q (or_none (same_ref r q) among) in
      let there : object_at q os ≡ Some o = subst (λ (x : ObjRef). object_at x os ≡ Some o) same found in
      sym (no_more (notes_among form ps o)) ∙ ap (λ (m : Option Object). notes form (option_to_list m) ps) (sym there) ∙ none

  none_in_front : (xs ys : List ℕ) → xs ++ ys ≡ [] → xs ≡ []
  none_in_front [] ys e = refl
  none_in_front (x ∷ xs) ys e = absurd cc

  none_behind : (xs ys : List ℕ) → xs ++ ys ≡ [] → ys ≡ []
  none_behind [] ys e = e
  none_behind (x ∷ xs) ys e = absurd cc

  notes_of_both : (xs ys : List Object) (ps : List Object) → notes form (xs ++ ys) ps ≡ [] → (notes form xs ps ≡ []) × (notes form ys ps ≡ [])
  notes_of_both xs ys ps none =
      let apart : notes form xs ps ++ notes form ys ps ≡ [] = sym (flat_map-append (notes_among form ps) xs ys) ∙ none in
      (none_in_front (notes form xs ps) (notes form ys ps) apart, none_behind (notes form xs ps) (notes form ys ps) apart)

  -- of what an action fills

  untold_by : (m : Option ObjRef) (os ps : List Object) → notes form (found_at_option os m) ps ≡ [] → Untold (option_to_list m) os ps
  untold_by None os ps none = untold_none os ps
  untold_by (Some q) os ps none = untold_one q os ps none

  untold_receivers : (s : Sort) (xs : List Argument) (os ps : List Object) → notes form (flat_map (filled_object os s) xs) ps ≡ [] → Untold (receivers xs) os ps
  untold_receivers s [] os ps none = untold_none os ps
  untold_receivers s (argument.Direct v ∷ xs) os ps none = untold_receivers s xs os ps none
  untold_receivers s (argument.Through r k ∷ xs) os ps none =
      untold_receivers s xs os ps (notes_of_both (filled_object os s (argument.Through r k)) (flat_map (filled_object os s) xs) ps none).1
  untold_receivers s (argument.Receiver r ∷ xs) os ps none =
      let apart = notes_of_both (found_at os r) (flat_map (filled_object os s) xs) ps none in
      untold_both (r ∷ []) (receivers xs) os ps (untold_one r os ps apart.0) (untold_receivers s xs os ps apart.1)

  untold_variable : (x : Argument) (os ps : List Object) → notes form (filled_object os sort.Call x) ps ≡ [] → Untold (variable_of x) os ps
  untold_variable (argument.Direct v) os ps none = untold_none os ps
  untold_variable (argument.Through r k) os ps none = untold_one r os ps none
  untold_variable (argument.Receiver r) os ps none = untold_none os ps

  untold_outs : (as_taken : List Param) (xs : List Argument) (os ps : List Object) → notes form (flat_map (filled_object os sort.Call) xs) ps ≡ [] → Untold (outs as_taken xs) os ps
  untold_outs [] xs os ps none = untold_none os ps
  untold_outs (param.In t ∷ ts) [] os ps none = untold_none os ps
  untold_outs (param.Out t ∷ ts) [] os ps none = untold_none os ps
  untold_outs (param.In t ∷ ts) (x ∷ xs) os ps none =
      untold_outs ts xs os ps (notes_of_both (filled_object os sort.Call x) (flat_map (filled_object os sort.Call) xs) ps none).1
  untold_outs (param.Out t ∷ ts) (x ∷ xs) os ps none =
      let apart = notes_of_both (filled_object os sort.Call x) (flat_map (filled_object os sort.Call) xs) ps none in
      untold_both (variable_of x) (outs ts xs) os ps (untold_variable x os ps apart.0) (untold_outs ts xs os ps apart.1)

  untold_passed : (xs : List Argument) (os ps : List Object) → notes form (flat_map (filled_object os sort.Call) xs) ps ≡ [] → notes form (flat_map (filled_object os sort.Call) (drop 1 xs)) ps ≡ []
  untold_passed [] os ps none = none
  untold_passed (x ∷ xs) os ps none = (notes_of_both (filled_object os sort.Call x) (flat_map (filled_object os sort.Call) xs) ps none).1

  -- SO EACH IS AS IT WAS, where nothing is told of those that may have changed.

  as_it_was : (m : Option Object) → IsAsItWas form m m
  as_it_was None = tt
  as_it_was (Some o) = (refl, none_told o)

  key_found : (r : ObjRef) (os : List Object) (o : Object) → object_at r os ≡ Some o → r ≡ o.fixed.key
  key_found r [] o e = absurd cc
  key_found r (x ∷ os) o e = by (is_at r x) refl (key_found r os o) e
    where
      some_same : (y z : Object) → Some y ≡ Some z → y ≡ z
      some_same y z e = ap (λ (m : Option Object). unwrap_or m y) e

      by : (b : Bool) → is_at r x ≡ b → (object_at r os ≡ Some o → r ≡ o.fixed.key) → (if b then Some x else object_at r os) ≡ Some o → r ≡ o.fixed.key
      by true is below e = same_ref-same r x.fixed.key is ∙ ap (λ (y : Object). y.fixed.key) (some_same x o e)
      by false is below e = below e

  each_there : (r : ObjRef) (os ps : List Object) (m n : Option Object) → object_at r os ≡ m → object_at r ps ≡ n → SameFixed m n
      → ((o : Object) → object_at r os ≡ Some o → notes_among form ps o ≡ []) → IsAsItWas form m n
  each_there r os ps None None e f same told = tt
  each_there r os ps (Some o) (Some p) e f same told =
      let at_key : object_at o.fixed.key ps ≡ Some p = subst (λ (x : ObjRef). object_at x ps ≡ Some p) (key_found r os o e) f in
      (same, ap (notes_at form o) (sym at_key) ∙ told o e)
  each_there r os ps None (Some p) e f same told = same
  each_there r os ps (Some o) None e f same told = same

  pub all_as_they_were : (rs : List ObjRef) (os ps : List Object) → Keeps rs os ps → Untold rs os ps → AreAsTheyWere form os ps
  all_as_they_were rs os ps keeps told r = by (list_any (same_ref r) rs) refl
    where
      by : (b : Bool) → list_any (same_ref r) rs ≡ b → IsAsItWas form (object_at r os) (object_at r ps)
      by true e = each_there r os ps (object_at r os) (object_at r ps) refl refl (keeps r).0 (told r e)
      by false e = subst (IsAsItWas form (object_at r os)) (sym ((keeps r).1 e)) (as_it_was (object_at r os))

  pub unchanged_all : (os ps : List Object) → ps ≡ os → AreAsTheyWere form os ps
  unchanged_all os ps same = all_as_they_were [] os ps (keeps_all [] os ps same) (untold_none os ps)

  -- ITEMS

  -- of one object, and of what receives answers

  as_changed : (f : Fixed → Body → Body) (q : ObjRef) (os now : Objects) → now ≡ changed f q os → notes form (found_at (all os) q) (all now) ≡ [] → AreAsTheyWere form (all os) (all now)
  as_changed f q os now made none =
      all_as_they_were (q ∷ []) (all os) (all now) (subst (λ (x : Objects). Keeps (q ∷ []) (all os) (all x)) (sym made) (keeps_changed f q os))
      (untold_one q (all os) (all now) none)

  as_filled : (rs : List ObjRef) (vs : List Value) (os now : Objects) → now ≡ filled rs vs os → Untold rs (all os) (all now) → AreAsTheyWere form (all os) (all now)
  as_filled rs vs os now made told =
      all_as_they_were rs (all os) (all now) (subst (λ (x : Objects). Keeps rs (all os) (all x)) (sym made) (keeps_filled rs vs os)) told

  -- what an action does, whatever it is

  interacted : (n : ActionName) (vs : List Value) (rs : List ObjRef) (r : ObjRef) (s : State) → Untold rs (all s.objects) (all (interact_rule n vs rs r s).objects) → AreAsTheyWere form (all s.objects) (all (interact_rule n vs rs r s).objects)
  interacted action.SetInteractionStatus vs rs r s told = unchanged_all (all s.objects) (all s.objects) refl
  interacted action.GetInteractionStatus vs rs r s told =
      let said = value.Bool (is_interacting r s.interaction) ∷ [] in
      as_filled rs said s.objects (filled rs said s.objects) refl told
  interacted _ vs rs r s told = unchanged_all (all s.objects) (all s.objects) refl

  moved_on : (begun late : Bool) (n : ActionName) (r : ObjRef) (s : State) → (if begun then s else begins_or_waits late n r s).objects ≡ s.objects
  moved_on true late n r s = refl
  moved_on false true n r s = refl
  moved_on false false n r s = refl

  whole_objects : (n : ActionName) (vs : List Value) (r : ObjRef) (s : State) → (whole_rule n vs r s).objects ≡ s.objects
  whole_objects action.TransitionTo vs r s = moved_on (is_begun s.transition) (leads_to_late action.TransitionTo r s) action.TransitionTo r s
  whole_objects action.Launch vs r s = moved_on (is_begun s.transition) (leads_to_late action.Launch r s) action.Launch r s
  whole_objects action.Quit vs r s = moved_on (is_begun s.transition) (leads_to_late action.Quit r s) action.Quit r s
  whole_objects _ vs r s = refl

  -- the action is done to this object, and its name is of this sort
  acted : (so : Sort) (n : ActionName) (xs : List Argument) (r : ObjRef) (s : State) (sites : List Site) → is_quiet_sort so n sites ≡ true
      → notes form (found_at (all s.objects) r) (all (rule_by so n xs r s).objects) ≡ []
      → notes form (flat_map (filled_object (all s.objects) so) xs) (all (rule_by so n xs r s).objects) ≡ []
      → AreAsTheyWere form (all s.objects) (all (rule_by so n xs r s).objects)
  acted sort.Change n xs r s sites quiet at_target at_filled =
      let f = changed_by n (values (all s.objects) xs) in
      as_changed f r s.objects (changed f r s.objects) refl at_target
  acted sort.Ask n xs r s sites quiet at_target at_filled =
      let said = answers_at n (values (all s.objects) xs) (object_at r (all s.objects)) in
      let now = filled (receivers xs) said s.objects in
      as_filled (receivers xs) said s.objects now refl (untold_receivers sort.Ask xs (all s.objects) (all now) at_filled)
  acted sort.Put n xs r s sites quiet at_target at_filled = unchanged_all (all s.objects) (all s.objects) refl
  acted sort.Load n xs r s sites quiet at_target at_filled = absurd (false≢true quiet)
  acted sort.Call n xs r s sites quiet at_target at_filled =
      let taken = unwrap_or (params_in s.service.programs (part_at r (parts (all s.objects)))) [] in
      let said = said_by (outcome_at (part_at r (parts (all s.objects))) taken xs s) in
      let rs = receivers xs ++ outs taken (passed xs) in
      let now = filled rs said s.objects in
      as_filled rs said s.objects now refl
      (untold_both (receivers xs) (outs taken (passed xs)) (all s.objects) (all now)
      (untold_receivers sort.Call xs (all s.objects) (all now) at_filled)
      (untold_outs taken (passed xs) (all s.objects) (all now) (untold_passed xs (all s.objects) (all now) at_filled)))
  acted sort.Order n xs r s sites quiet at_target at_filled = unchanged_all (all s.objects) (all s.objects) refl
  acted sort.Widget n xs r s sites quiet at_target at_filled = absurd (false≢true quiet)
  acted sort.Interact n xs r s sites quiet at_target at_filled =
      interacted n (values (all s.objects) xs) (receivers xs) r s
      (untold_receivers sort.Interact xs (all s.objects) (all (interact_rule n (values (all s.objects) xs) (receivers xs) r s).objects) at_filled)
  acted sort.Whole n xs r s sites quiet at_target at_filled =
      unchanged_all (all s.objects) (all (whole_rule n (values (all s.objects) xs) r s).objects) (ap all (whole_objects n (values (all s.objects) xs) r s))

  acted_on : (m : Option ObjRef) (n : ActionName) (xs : List Argument) (s : State) (sites : List Site) → is_quiet_sort (sort_of n) n sites ≡ true
      → notes form (found_at_option (all s.objects) m ++ flat_map (filled_object (all s.objects) (sort_of n)) xs) (all (act_on m n xs s).objects) ≡ []
      → AreAsTheyWere form (all s.objects) (all (act_on m n xs s).objects)
  acted_on None n xs s sites quiet none = unchanged_all (all s.objects) (all s.objects) refl
  acted_on (Some r) n xs s sites quiet none =
      let apart = notes_of_both (found_at (all s.objects) r) (flat_map (filled_object (all s.objects) (sort_of n)) xs) (all (rule_by (sort_of n) n xs r s).objects) none in
      acted (sort_of n) n xs r s sites quiet apart.0 apart.1

  -- An object that runs now, and did not, is told of.

  flags_told : (r : ObjRef) (word : List ℕ) → flag_note form r word false true ≡ [] → ⊥
  flags_told r word e = flag_told form r word e

  life_apart : (r : ObjRef) (b c : Body) → life_notes form r b c ≡ [] → flag_note form r (codes "running") b.running c.running ≡ []
  unfolding life_notes available_note running_note highlighted_note selected_note overwriting_note
  life_apart r b c none =
      none_behind (flag_note form r (codes "available") b.available c.available) (flag_note form r (codes "running") b.running c.running)
      (none_in_front (flag_note form r (codes "available") b.available c.available ++ flag_note form r (codes "running") b.running c.running)
      (flag_note form r (codes "highlighted") b.highlighted c.highlighted)
      (none_in_front (flag_note form r (codes "available") b.available c.available ++ flag_note form r (codes "running") b.running c.running ++ flag_note form r (codes "highlighted") b.highlighted c.highlighted)
      (flag_note form r (codes "selected") b.selected c.selected)
      (none_in_front (flag_note form r (codes "available") b.available c.available ++ flag_note form r (codes "running") b.running c.running ++ flag_note form r (codes "highlighted") b.highlighted c.highlighted ++ flag_note form r (codes "selected") b.selected c.selected)
      (flag_note form r (codes "overwriting") b.overwrites c.overwrites) none)))

  notes_apart : (o : Object) (c : Body) → notes_on form o c ≡ [] → life_notes form o.fixed.key o.body c ≡ []
  unfolding notes_on
  notes_apart o c none =
      let r = o.fixed.key in
      none_in_front (life_notes form r o.body c) (count_notes form r o.body c)
      (none_in_front (life_notes form r o.body c ++ count_notes form r o.body c) (content_notes form o c)
      (none_in_front (life_notes form r o.body c ++ count_notes form r o.body c ++ content_notes form o c) (attribute_notes form o c) none))

  runs_told : (o : Object) (c : Body) → o.body.running ≡ false → c.running ≡ true → notes_on form o c ≡ [] → ⊥
  runs_told o c was is none =
      flags_told o.fixed.key (codes "running") (λ i. by i)
    where
      by : flag_note form o.fixed.key (codes "running") false true ≡ []
      by = (λ i. flag_note form o.fixed.key (codes "running") (sym was i) (sym is i)) ∙ life_apart o.fixed.key o.body c (notes_apart o c none)

  -- whether the object at a reference runs, where it is present
  abbrev Runs : Option Object → Type 0
  Runs None = ⊤
  Runs (Some o) = o.body.running ≡ true

  runs_placed : (q : Position) (p : Fixed) (b : Body) → (placed_at q p b).running ≡ b.running
  runs_placed q p b = elim (is_visible p.class) as (λ (t : Bool). (if t then put attribute.OrigPosition (of.Pair q.x q.y) b else b).running ≡ b.running) [
    | true ↦ refl
    | false ↦ refl
  ]

  runs_mapped : (q : Position) (m : Option Object) → Runs m → Runs (option_map (on_body (placed_at q)) m)
  runs_mapped q None runs = tt
  runs_mapped q (Some o) runs = runs_placed q o.fixed o.body ∙ runs

  runs_behind : (ps : List (ObjRef × Position)) (os : Objects) (r : ObjRef) → Runs (object_at r (all os)) → Runs (object_at r (all (all_placed ps os)))
  runs_behind [] os r runs = runs
  runs_behind (p ∷ ps) os r runs = runs_behind ps (changed (placed_at p.1) p.0 os) r (subst (λ (x : List Object). Runs (object_at r x)) (sym (all-changed (placed_at p.1) p.0 os)) (by (same_ref r p.0) refl))
    where
      by : (b : Bool) → same_ref r p.0 ≡ b → Runs (object_at r (changed_in (placed_at p.1) p.0 (all os)))
      by true e =
          let same = same_ref-same r p.0 e in
          subst (λ (x : ObjRef). Runs (object_at x (changed_in (placed_at p.1) p.0 (all os)))) (sym same)
          (subst Runs (sym (changed_there (placed_at p.1) p.0 (all os))) (runs_mapped p.1 (object_at p.0 (all os)) (subst (λ (x : ObjRef). Runs (object_at x (all os))) same runs)))
      by false e = subst Runs (sym (changed_elsewhere (placed_at p.1) p.0 r (all os) e)) runs

  runs_started : (text : Option (List ℕ)) (m : Option Object) → Runs (option_map (on_body (λ p b. started text p b)) m)
  runs_started text None = tt
  runs_started text (Some o) = by o.body.running refl
    where
      by : (b : Bool) → o.body.running ≡ b → (if b then o.body else record (prepared text o.body) { running = true; token = token_started o.fixed o.body }).running ≡ true
      by true e = e
      by false e = refl

  -- where the object did not run, its running is told
  none_runs : (r : ObjRef) (os ps : List Object) (o : Object) → object_at r os ≡ Some o → o.body.running ≡ false → Runs (object_at r ps) → SameFixed (Some o) (object_at r ps) → notes form (found_at os r) ps ≡ [] → ⊥
  none_runs r os ps o found was runs same none = by (object_at r ps) refl runs same
    where
      told : notes_among form ps o ≡ []
      told = untold_one r os ps none r (ap (λ (b : Bool). b || false) (ref_alike r)) o found

      by : (m : Option Object) → object_at r ps ≡ m → Runs m → SameFixed (Some o) m → ⊥
      by None e run alike = alike
      by (Some p) e run alike =
          let at_key : object_at o.fixed.key ps ≡ Some p = subst (λ (x : ObjRef). object_at x ps ≡ Some p) (key_found r os o found) e in
          runs_told o p.body was run (ap (notes_at form o) (sym at_key) ∙ told)

  fixed_placed : (ps : List (ObjRef × Position)) (os : Objects) (r : ObjRef) → SameFixed (object_at r (all os)) (object_at r (all (all_placed ps os)))
  fixed_placed [] os r = fixed_alike (object_at r (all os))
  fixed_placed (p ∷ ps) os r =
      let next = changed (placed_at p.1) p.0 os in
      fixed_both (object_at r (all os)) (object_at r (all next)) (object_at r (all (all_placed ps next))) (keeps_changed (placed_at p.1) p.0 os r).0 (fixed_placed ps next r)

  -- an object runs
  as_run : (r : ObjRef) (s : State) → notes form (found_at (all s.objects) r) (all (run_rule r s).objects) ≡ [] → AreAsTheyWere form (all s.objects) (all (run_rule r s).objects)
  as_run r s none = by (object_at r (all s.objects)) refl
    where
      text : Option (List ℕ)
      text = loaded_at s.files (object_at r (all s.objects))

      next : Objects
      next = changed (λ p b. started text p b) r s.objects

      runs : (ps : List (ObjRef × Position)) → Runs (object_at r (all (all_placed ps next)))
      runs ps = runs_behind ps next r (subst (λ (x : List Object). Runs (object_at r x)) (sym (all-changed (λ p b. started text p b) r s.objects)) (subst Runs (sym (changed_there (λ p b. started text p b) r (all s.objects))) (runs_started text (object_at r (all s.objects)))))

      plain : run_places (object_at r (all s.objects)) ≡ [] → AreAsTheyWere form (all s.objects) (all (run_rule r s).objects)
      plain e = as_changed (λ p b. started text p b) r s.objects (run_rule r s).objects (ap (λ (ps : List (ObjRef × Position)). all_placed ps next) e) none

      fresh_runs : (o : Object) → object_at r (all s.objects) ≡ Some o → o.body.running ≡ false → ⊥
      fresh_runs o found was =
          let ps = run_places (object_at r (all s.objects)) in
          none_runs r (all s.objects) (all (run_rule r s).objects) o found was (runs ps)
          (subst (λ (m : Option Object). SameFixed m (object_at r (all (all_placed ps next)))) found
          (fixed_both (object_at r (all s.objects)) (object_at r (all next)) (object_at r (all (all_placed ps next))) (keeps_changed (λ p b. started text p b) r s.objects r).0 (fixed_placed ps next r)))
          none

      by_running : (o : Object) → object_at r (all s.objects) ≡ Some o → (b : Bool) → o.body.running ≡ b → AreAsTheyWere form (all s.objects) (all (run_rule r s).objects)
      by_running o found true e = plain (ap run_places found ∙ ap (λ (b : Bool). if b then [] else places_of o.fixed.class o) e)
      by_running o found false e = absurd (fresh_runs o found e)

      by : (m : Option Object) → object_at r (all s.objects) ≡ m → AreAsTheyWere form (all s.objects) (all (run_rule r s).objects)
      by None e = plain (ap run_places e)
      by (Some o) e = by_running o e o.body.running refl

  emitted_objects : (b : Bool) (e : Event) (s : State) → (if b then record s { work = heard e (all s.objects) ++ s.work } else record s { queue = s.queue ++ waiting.Event e ∷ [] }).objects ≡ s.objects
  emitted_objects true e s = refl
  emitted_objects false e s = refl

  pub item_rests : (i : Item) (s : State) (sites : List Site) → is_quiet_item i sites ≡ true → notes form (item_touches (all s.objects) i) (all (rule i s).objects) ≡ [] → AreAsTheyWere form (all s.objects) (all (rule i s).objects)
  item_rests (item.Act a) s sites quiet none = acted_on (referred a.target (all s.objects)) a.name a.arguments s sites quiet none
  item_rests (item.Prepare r) s sites quiet none =
      let f = λ (p : Fixed) (b : Body). prepared (loaded_at s.files (object_at r (all s.objects))) b in
      as_changed f r s.objects (changed f r s.objects) refl none
  item_rests (item.Run r) s sites quiet none = as_run r s none
  item_rests (item.Halt r) s sites quiet none = as_changed (λ p b. halted b) r s.objects (changed (λ p b. halted b) r s.objects) refl none
  item_rests (item.RunMember r) s sites quiet none = as_run r s none
  item_rests (item.HaltMember r) s sites quiet none = as_changed (λ p b. halted b) r s.objects (changed (λ p b. halted b) r s.objects) refl none
  item_rests (item.Drop r) s sites quiet none = as_changed (λ p b. dropped b) r s.objects (changed (λ p b. dropped b) r s.objects) refl none
  item_rests (item.Emit e) s sites quiet none = unchanged_all (all s.objects) (all (emitted e s).objects) (ap all (emitted_objects (is_sync e.kind) e s))
  item_rests (item.Enter g) s sites quiet none = unchanged_all (all s.objects) (all s.objects) refl
  item_rests (item.Exchange g) s sites quiet none = absurd (false≢true quiet)
  item_rests item.End s sites quiet none = unchanged_all (all s.objects) (all s.objects) refl

  -- WHAT IS TAKEN, AND STEPS

  keyed_objects : (k : Key) (m : Option Interaction) (s : State) (sites : List Site) → is_quiet_input (input.Key k) m sites ≡ true → (key_taken k m s).objects ≡ s.objects
  keyed_objects k None s sites quiet = refl
  keyed_objects k (Some i) s sites quiet = absurd (false≢true quiet)

  taken_objects : (w : Waiting) (s : State) (sites : List Site) → is_quiet None (Some w) s.interaction sites ≡ true → (taking w s).objects ≡ s.objects
  taken_objects (waiting.Event e) s sites quiet = refl
  taken_objects (waiting.Input (input.Key k)) s sites quiet = keyed_objects k s.interaction s sites quiet
  taken_objects (waiting.Input (input.Tick n)) s sites quiet = refl
  taken_objects (waiting.Input (input.Stream n)) s sites quiet = refl
  taken_objects (waiting.Input (input.Engine n)) s sites quiet = refl
  taken_objects (waiting.Input (input.Arrive f)) s sites quiet = absurd (false≢true quiet)
  taken_objects (waiting.Input (input.Scene g w)) s sites quiet = absurd (false≢true quiet)

  item_did : (m : Option Fault) (i : Item) (s : State) (sites : List Site) → is_quiet_item i sites ≡ true → is_fault (judged m) ≡ false
      → notes form (item_touches (all s.objects) i) (all (did m i s).objects) ≡ [] → AreAsTheyWere form (all s.objects) (all (did m i s).objects)
  item_did None i s sites quiet well none = item_rests i (record s { work = drop 1 s.work; taken = s.taken + 1 }) sites quiet none
  item_did (Some f) i s sites quiet well none = absurd (false≢true (sym well))

  step_rests : (ended : Bool) (i : Option Item) (w : Option Waiting) (s : State) (sites : List Site) → is_quiet i w s.interaction sites ≡ true
      → is_fault (if ended then answer.Ended else answer_by i w s) ≡ false
      → notes form (touched i w s) (all (if ended then s else step_by i w s).objects) ≡ []
      → AreAsTheyWere form (all s.objects) (all (if ended then s else step_by i w s).objects)
  step_rests true i w s sites quiet well none = unchanged_all (all s.objects) (all s.objects) refl
  step_rests false (Some i) w s sites quiet well none = item_did (stuck i s) i s sites quiet well none
  step_rests false None (Some w) s sites quiet well none =
      unchanged_all (all s.objects) (all (took w s).objects) (ap all (taken_objects w (record s { queue = drop 1 s.queue; taken = s.taken + 1 }) sites quiet))
  step_rests false None None s sites quiet well none = unchanged_all (all s.objects) (all s.objects) refl

  none_left : (xs : List ℕ) → is_empty xs ≡ true → xs ≡ []
  none_left [] e = refl
  none_left (x ∷ xs) e = absurd (false≢true e)

  not_so : (b : Bool) → not b ≡ true → b ≡ false
  not_so true e = absurd (false≢true e)
  not_so false e = refl

  pub nothing_so : (p : Tracing) → told_nothing form p ≡ true → AreAsTheyWere form (all p.state.objects) (all (step p.state).objects)
  nothing_so p told =
      let s = p.state in
      let x = seen_of (front s) s p.places in
      let a = answer_of s in
      let t = step s in
      let rested : has_rested x a t ≡ true = and_right (is_empty (notes form x.touched (all t.objects))) (has_rested x a t) told in
      let may : may_be_nothing a x.quiet ≡ true = and_left (may_be_nothing a x.quiet) (is_same x.stacks x.glance t) rested in
      step_rests s.ended (front s) (first s) s (opened (front s) s)
      (and_right (not (is_fault a)) x.quiet may)
      (not_so (is_fault a) (and_left (not (is_fault a)) x.quiet may))
      (none_left (notes form x.touched (all t.objects)) (and_left (is_empty (notes form x.touched (all t.objects))) (has_rested x a t) told))
