-- The links that an event asks are all that wait for it.
use Rattle.std.specs.Prelude.{◌≡◌, IfSome, ℕ, zero, suc, ◌+◌, ◌≤◌, ◌<◌, nat_eq, ◌==◌, Bool, true, false, ◌&&◌, if◌then◌else◌, List, [], ◌∷◌, ◌++◌, drop, length, slice_get, Option, Some, None, refl}
use Rattle.std.specs.List.{flat_map}
use Rattle.std.specs.Option.{option_map_or}
use Rattle.std.specs.Str.{bytes_eq}
use Rattle.std.proofs.Common.{ap, sym, ◌∙◌, subst, arith}
use Rattle.std.proofs.lemmas.Bool.{false≢true}
use Rattle.std.proofs.lemmas.List.{append_assoc, append-nil, drop_all}
use Rattle.mh_base.specs.declared.obj_ref.ObjRef.{ObjRef}
use Rattle.mh_base.specs.declared.value.Value.{Value}
use Rattle.mh_base.specs.declared.value.Value.TheVariants as value
use Rattle.mh_group.specs.declared.attribute.Attribute.TheVariants as attribute
use Rattle.mh_group.specs.Table.{is_link}
use Rattle.mh_model.specs.declared.event.Event.{Event}
use Rattle.mh_model.specs.declared.object.Fixed.{Fixed}
use Rattle.mh_model.specs.declared.object.Object.{Object}
use Rattle.mh_model.specs.Items.{hears_data, hears_source, hears_type, matches}
use Rattle.mh_model.specs.Property.{held, as_event, as_value}
use Rattle.mh_model.specs.declared.item.Item.{Item}
use Rattle.mh_model.specs.Service.{parts}
use Rattle.mh_model.specs.State.{State, all}
use Rattle.mh_model.specs.Step.{step}
use Rattle.mh_trace.specs.declared.form.Form.{Form}
use Rattle.mh_trace.specs.declared.site.EffectKind.TheVariants as kind
use Rattle.mh_trace.specs.Ears.{ear, ear_by, waits}
use Rattle.mh_trace.specs.Trace.{Tracing, traced_by}
use Rattle.mh_trace.specs.Sites.{heard_at, link_acts, places_in}
use Rattle.mh_trace.proofs.PartsLemmas.{parts_stay}
use Rattle.mh_trace.specs.Listening.{IsIndexOf, at_place, heard_number, is_exchange, is_number, listed, number_in, place_if, places_from}

-- The index is made place by place.

next_from : (n : ℕ) (os : List Object) (k at : ℕ) → places_from n at (parts (drop k os)) ≡ option_map_or (λ (o : Object). place_if (heard_number o.fixed) n at) (slice_get os k) [] ++ option_map_or (λ (o : Object). places_from n (suc at) (parts (drop (suc k) os))) (slice_get os k) []
next_from n [] zero at = refl
next_from n [] (suc k) at = refl
next_from n (o ∷ os) zero at = refl
next_from n (o ∷ os) (suc k) at = next_from n os k at

nothing_behind : (n : ℕ) (os : List Object) (k at : ℕ) → option_map_or (λ (o : Object). places_from n at (parts (drop (suc k) os))) (slice_get os k) [] ≡ places_from n at (parts (drop (suc k) os))
nothing_behind n [] zero at = refl
nothing_behind n [] (suc k) at = refl
nothing_behind n (o ∷ os) zero at = refl
nothing_behind n (o ∷ os) (suc k) at = nothing_behind n os k at

pub next_listed : (n : ℕ) (os : List Object) (k : ℕ) (old new whole : List ℕ) → new ≡ old ++ option_map_or (λ (o : Object). place_if (heard_number o.fixed) n k) (slice_get os k) []
    → old ++ places_from n k (parts (drop k os)) ≡ whole → new ++ places_from n (k + 1) (parts (drop (k + 1) os)) ≡ whole
next_listed n os k old new whole put so_far =
    let next : k + 1 ≡ suc k = omega arith in
    let this : List ℕ = option_map_or (λ (o : Object). place_if (heard_number o.fixed) n k) (slice_get os k) [] in
    (λ i. put i ++ places_from n (next i) (parts (drop (next i) os)))
    ∙ append_assoc old this (places_from n (suc k) (parts (drop (suc k) os)))
    ∙ ap (λ (ys : List ℕ). old ++ (this ++ ys)) (sym (nothing_behind n os k (suc k)))
    ∙ ap (λ (ys : List ℕ). old ++ ys) (sym (next_from n os k k)) ∙ so_far

pub all_listed : (n : ℕ) (os : List Object) (k : ℕ) (old whole : List ℕ) → length os ≤ k → old ++ places_from n k (parts (drop k os)) ≡ whole → old ≡ whole
all_listed n os k old whole over so_far =
    sym (append-nil old) ∙ ap (λ (xs : List Object). old ++ places_from n k (parts xs)) (sym (drop_all k os over)) ∙ so_far

-- What comes to nothing but at links that wait for what has this number is had by their places.

found_behind : {A : Type 0} (f : Object → List A) (before os : List Object) → flat_map (at_place f (before ++ os)) [] ≡ []
found_behind f before os = refl

place_of : (before os : List Object) (o : Object) → slice_get (before ++ o ∷ os) (length before) ≡ Some o
place_of [] os o = refl
place_of (x ∷ before) os o = place_of before os o

one_longer : (before os : List Object) (o : Object) → (before ++ o ∷ []) ++ os ≡ before ++ o ∷ os
one_longer [] os o = refl
one_longer (x ∷ before) os o = ap (λ (xs : List Object). x ∷ xs) (one_longer before os o)

count_longer : (before : List Object) (o : Object) → length (before ++ o ∷ []) ≡ suc (length before)
count_longer [] o = refl
count_longer (x ∷ before) o = ap suc (count_longer before o)

joined : {A : Type 0} (f : ℕ → List A) (xs ys : List ℕ) → flat_map f (xs ++ ys) ≡ flat_map f xs ++ flat_map f ys
joined f [] ys = refl
joined f (x ∷ xs) ys = ap (λ zs. f x ++ zs) (joined f xs ys) ∙ sym (append_assoc (f x) (flat_map f xs) (flat_map f ys))

here : {A : Type 0} (f : Object → List A) (n : ℕ) (m : Option ℕ) (before os : List Object) (o : Object) → (is_number m n ≡ false → f o ≡ [])
    → flat_map (at_place f (before ++ o ∷ os)) (place_if m n (length before)) ≡ f o
here f n m before os o none = by (is_number m n) refl
  where
    by : (b : Bool) → is_number m n ≡ b → flat_map (at_place f (before ++ o ∷ os)) (if b then length before ∷ [] else []) ≡ f o
    by true e = append-nil (at_place f (before ++ o ∷ os) (length before)) ∙ ap (λ (x : Option Object). option_map_or f x []) (place_of before os o)
    by false e = sym (none e)

by_places : {A : Type 0} (f : Object → List A) (n : ℕ) → ((o : Object) → is_number (heard_number o.fixed) n ≡ false → f o ≡ []) → (before os : List Object)
    → flat_map (at_place f (before ++ os)) (places_from n (length before) (parts os)) ≡ flat_map f os
by_places f n none before [] = refl
by_places {A} f n none before (o ∷ os) =
    let rest : flat_map (at_place f (before ++ o ∷ os)) (places_from n (suc (length before)) (parts os)) ≡ flat_map f os =
    (λ i. flat_map (at_place f (sym (one_longer before os o) i)) (places_from n (sym (count_longer before o) i) (parts os)))
    ∙ by_places f n none (before ++ o ∷ []) os in
    joined (at_place f (before ++ o ∷ os)) (place_if (heard_number o.fixed) n (length before)) (places_from n (suc (length before)) (parts os))
    ∙ (λ i. here f n (heard_number o.fixed) before os o (none o) i ++ rest i)

pub all_by_places : {A : Type 0} (f : Object → List A) (n : ℕ) (os : List Object) (ns : List ℕ) → ((o : Object) → is_number (heard_number o.fixed) n ≡ false → f o ≡ [])
    → ns ≡ places_from n 0 (parts os) → flat_map (at_place f os) ns ≡ flat_map f os
all_by_places f n os ns none are = ap (flat_map (at_place f os)) are ∙ by_places f n none [] os

-- a link that waits for an event waits for what has the number of its source

pub no_source : (v : Option Value) (r : ObjRef) → is_number (number_in v) r.number ≡ false → hears_source v r ≡ false
no_source (Some (value.Object q)) r e = by (bytes_eq q.group r.group) (q.number == r.number) e
  where
    by : (a b : Bool) → b ≡ false → (a && b) ≡ false
    by true b h = h
    by false b h = refl
no_source None r e = refl
no_source (Some _) r e = refl

waits_not : (e : Event) (o : Object) → is_number (heard_number o.fixed) e.source.number ≡ false → waits e o ≡ false
waits_not e o none = by (is_link o.fixed.class) (as_value (held attribute.EventSource o.fixed.properties)) (hears_type (as_event (held attribute.EventType o.fixed.properties)) e.kind) none
  where
    by : (b : Bool) (v : Option Value) (t : Bool) → is_number (if b then number_in v else None) e.source.number ≡ false → (if b then (if hears_source v e.source then t else false) else false) ≡ false
    by false v t h = refl
    by true v t h = ap (λ (b : Bool). if b then t else false) (no_source v e.source h)

pub ear_none : (f : Form) (e : Event) (o : Object) → is_number (heard_number o.fixed) e.source.number ≡ false → ear f e o ≡ []
ear_none f e o none = ap (λ (b : Bool). if b then ear_by f e o else []) (waits_not e o none)

matches_not : (e : Event) (o : Object) → is_number (heard_number o.fixed) e.source.number ≡ false → matches e o ≡ false
matches_not e o none =
    by (is_link o.fixed.class) o.body.running (as_value (held attribute.EventSource o.fixed.properties))
    (hears_type (as_event (held attribute.EventType o.fixed.properties)) e.kind) (hears_data (as_value (held attribute.EventData o.fixed.properties)) e.data) none
  where
    by : (b r : Bool) (v : Option Value) (t d : Bool) → is_number (if b then number_in v else None) e.source.number ≡ false → (b && r && hears_source v e.source && t && d) ≡ false
    by false r v t d h = refl
    by true false v t d h = refl
    by true true v t d h = ap (λ (b : Bool). b && t && d) (no_source v e.source h)

pub heard_none : (e : Event) (o : Object) → is_number (heard_number o.fixed) e.source.number ≡ false → heard_at e o ≡ []
heard_none e o none = ap (λ (b : Bool). if b then places_in o.fixed.key kind.Link (link_acts o) else []) (matches_not e o none)

-- Beside an exchange the parts stay, and with them the index.

pub still_listed : (s : State) (i : Option Item) (es fs : List (ℕ × List ℕ)) → slice_get s.work 0 ≡ i → is_exchange i ≡ false → fs ≡ es
    → IsIndexOf es (parts (all s.objects)) → IsIndexOf fs (parts (all (step s).objects))
still_listed s i es fs front other same index n =
    ap (listed n) same ∙ index n
    ∙ ap (places_from n 0) (sym (parts_stay s (ap is_exchange front ∙ other)))

-- behind a step that does this item
pub kept_behind : {T : Type 0} (entries : T → List (ℕ × List ℕ)) (p q : Tracing) (s : State) (i : Option Item) (es : List (ℕ × List ℕ)) (known : Option T)
    → p.state ≡ s → q ≡ traced_by i p → i ≡ slice_get s.work 0 → IsIndexOf es (parts (all s.objects))
    → IfSome known (λ x. (is_exchange i ≡ false) × (entries x ≡ es)) → IfSome known (λ x. IsIndexOf (entries x) (parts (all q.state.objects)))
kept_behind entries p q s i es None was made front index told = tt
kept_behind entries p q s i es (Some x) was made front index told =
    let now : q.state ≡ step s = ap (λ (r : Tracing). r.state) made ∙ ap step was in
    λ n.
    still_listed s i es (entries x) (sym front) told.0 told.1 index n
    ∙ ap (λ (t : State). places_from n 0 (parts (all t.objects))) (sym now)
