-- The index of links: that of two lists of parts, and that to ask the links that it holds for a source and a type is
-- to ask all.
use Rattle.std.specs.Prelude.{◌≡◌, ℕ, suc, ◌+◌, ◌<◌, ◌==◌, Bool, true, false, ◌&&◌, if◌then◌else◌, List, [], ◌∷◌, ◌++◌, drop, get_or, length, map, slice_get, Option, Some, None, refl}
use Rattle.std.specs.Option.{option_map_or}
use Rattle.std.proofs.Common.{ap, ◌∙◌, sym, subst, arith}
use Rattle.std.proofs.lemmas.List.{append_assoc, append-nil, drop_more, length-append, map-append}
use Rattle.std.proofs.lemmas.List.Concat.{flat_map-append}
use Rattle.mh_base.specs.Event.{number_of}
use Rattle.mh_base.specs.declared.event.EventType.{EventType}
use Rattle.mh_base.specs.declared.obj_ref.ObjRef.{ObjRef}
use Rattle.mh_base.specs.declared.value.Value.{Value}
use Rattle.mh_base.specs.declared.value.Value.TheVariants as value
use Rattle.mh_group.specs.Table.{is_link}
use Rattle.mh_group.specs.declared.attribute.Attribute.TheVariants as attribute
use Rattle.mh_model.specs.declared.event.Event.{Event}
use Rattle.mh_model.specs.declared.object.Fixed.{Fixed}
use Rattle.mh_model.specs.declared.object.Object.{Object}
use Rattle.mh_model.specs.Items.{hears_source, hears_type, hears_data, matches, heard, acts}
use Rattle.mh_model.specs.Property.{as_reference, held, as_value, as_event, as_effect}
use Rattle.mh_model.specs.Service.{parts, fresh}
use Rattle.std.specs.Str.{bytes_eq}
use Rattle.mh_model.proofs.PartLemmas.{parts-fresh}
use Rattle.mh_work.specs.Listening.{Index, place_in, waiting}
use Rattle.mh_work.specs.Links.{source_of, listener_at, place_of, places, IsIndex, fires, answer, answer_at, answers}

-- The index

-- the parts of two lists, in one index
pub places-append : (here n t : ℕ) (ps qs : List Fixed) → places here n t (ps ++ qs) ≡ places here n t ps ++ places (here + length ps) n t qs
places-append here n t [] qs = ap (λ (k : ℕ). places k n t qs) (omega arith)
places-append here n t (p ∷ ps) qs =
    let further : suc here + length ps ≡ here + length (p ∷ ps) = omega arith in
    ap (λ (ks : List ℕ). place_of here n t p ++ ks) (places-append (suc here) n t ps qs ∙ ap (λ (k : ℕ). places (suc here) n t ps ++ places k n t qs) further)
    ∙ sym (append_assoc (place_of here n t p) (places (suc here) n t ps) (places (here + length (p ∷ ps)) n t qs))

-- with the place of one part more
pub places_more : (first index n t : ℕ) (ps : List Fixed) (p q : Fixed) (old new all : List ℕ) → index < length ps → p ≡ get_or ps index p → q ≡ p → new ≡ old ++ place_of (first + index) n t q
    → old ++ places (first + index) n t (drop index ps) ≡ all → new ++ places (first + (index + 1)) n t (drop (index + 1) ps) ≡ all
places_more first index n t ps p q old new all less at same added so_far =
    let next : first + (index + 1) ≡ suc (first + index) = omega arith in
    let front : places (first + index) n t (drop index ps) ≡ place_of (first + index) n t q ++ places (suc (first + index)) n t (drop (index + 1) ps)
    = ap (places (first + index) n t) (drop_more ps index p less ∙ ap (λ (r : Fixed). r ∷ drop (index + 1) ps) (sym at ∙ sym same)) in
    (λ i. added i ++ places (next i) n t (drop (index + 1) ps))
    ∙ append_assoc old (place_of (first + index) n t q) (places (suc (first + index)) n t (drop (index + 1) ps))
    ∙ ap (λ (ks : List ℕ). old ++ ks) (sym front) ∙ so_far

pub index_of_two : (none application all : Index) (ps qs : List Fixed) → ((n t : ℕ) → waiting n t none ≡ [])
    → ((n t : ℕ) → waiting n t application ≡ waiting n t none ++ places 0 n t ps)
    → ((n t : ℕ) → waiting n t all ≡ waiting n t application ++ places (length ps) n t qs) → IsIndex all (ps ++ qs)
unfolding IsIndex
index_of_two none application all ps qs empty first second = λ n t.
    let begun : waiting n t application ≡ places 0 n t ps = first n t ∙ ap (λ (ks : List ℕ). ks ++ places 0 n t ps) (empty n t) in
    let counted : 0 + length ps ≡ length ps = omega arith in
    second n t ∙ ap (λ (ks : List ℕ). ks ++ places (length ps) n t qs) begun
    ∙ sym (places-append 0 n t ps qs ∙ ap (λ (k : ℕ). places 0 n t ps ++ places k n t qs) counted)

-- objects that have just entered, behind those that are there
pub index-entered : (index : Index) (ps qs : List Fixed) (os : List Object) → parts os ≡ ps → IsIndex index (ps ++ qs) → IsIndex index (parts (os ++ map fresh qs))
index-entered index ps qs os there is =
    let together : parts (os ++ map fresh qs) ≡ parts os ++ parts (map fresh qs) = map-append (λ (o : Object). o.fixed) os (map fresh qs) in
    subst (λ (all : List Fixed). IsIndex index all) (sym (together ∙ (λ i. there i ++ parts-fresh qs i))) is

-- Events

-- whether a link with this source and this type waits for type t of number n
abbrev waits : ℕ → ℕ → Option ObjRef → Option EventType → Bool
waits n t (Some source) (Some kind) = source.number == n && number_of kind == t
waits n t _ _ = false

place-waits : (here n t : ℕ) (source : Option ObjRef) (kind : Option EventType) → option_map_or (place_in n t) (listener_at here source kind) [] ≡ (if waits n t source kind then here ∷ [] else [])
place-waits here n t None kind = refl
place-waits here n t (Some source) None = refl
place-waits here n t (Some source) (Some kind) = refl

behind_both : (a b : Bool) → (a && b) ≡ true → b ≡ true
behind_both true b e = e
behind_both false b e = absurd cc

-- a link that hears a source and a type waits for the number and for the type
waits-heard : (v : Option Value) (kind : Option EventType) (e : Event) → hears_source v e.source ≡ true → hears_type kind e.kind ≡ true
    → waits e.source.number (number_of e.kind) (as_reference v) kind ≡ true
waits-heard (Some (value.Object s)) (Some kind) e h k =
    rw (behind_both (bytes_eq s.group e.source.group) (s.number == e.source.number) h) k
waits-heard (Some (value.Object s)) None e h k = absurd cc
waits-heard None kind e h k = absurd cc
waits-heard (Some (value.Bool b)) kind e h k = absurd cc
waits-heard (Some (value.Int n)) kind e h k = absurd cc
waits-heard (Some (value.Octets bs)) kind e h k = absurd cc
waits-heard (Some (value.Content bs)) kind e h k = absurd cc

apart : (link runs source kind given : Bool) → (link && runs && source && kind && given) ≡ (link && (runs && kind && source && given))
apart true true true true given = refl
apart true true true false given = refl
apart true true false true given = refl
apart true true false false given = refl
apart true false source kind given = refl
apart false runs source kind given = refl

silent : (runs kind source given own : Bool) → (source ≡ true → kind ≡ true → own ≡ true) → own ≡ false → (runs && kind && source && given) ≡ false
silent true true true given own h f = absurd (cc (h refl refl, f))
silent true true false given own h f = refl
silent true false source given own h f = refl
silent false kind source given own h f = refl

-- what an object puts, whether it waits or not
put-split : (e : Event) (o : Object)
    → (if waits e.source.number (number_of e.kind) (source_of o.fixed) (as_event (held attribute.EventType o.fixed.properties)) then answer e o else [])
    ≡ (if matches e o then acts (as_effect (held attribute.LinkEffect o.fixed.properties)) else [])
put-split e o =
    let ps = o.fixed.properties in
    let told : Option Value = as_value (held attribute.EventSource ps) in
    let kind : Option EventType = as_event (held attribute.EventType ps) in
    let given = hears_data (as_value (held attribute.EventData ps)) e.data in
    let moved : matches e o ≡ (is_link o.fixed.class && fires e o) = apart (is_link o.fixed.class) o.body.running (hears_source told e.source) (hears_type kind e.kind) given in
    let own : Bool = waits e.source.number (number_of e.kind) (as_reference told) kind in
    let deaf : own ≡ false → fires e o ≡ false = silent o.body.running (hears_type kind e.kind) (hears_source told e.source) given own (waits-heard told kind e) in
    by (is_link o.fixed.class) (as_reference told) kind deaf ∙ ap (λ (b : Bool). if b then acts (as_effect (held attribute.LinkEffect o.fixed.properties)) else []) (sym moved)
  where
    still : (own : Bool) → (own ≡ false → fires e o ≡ false) → (if own then answer e o else []) ≡ answer e o
    still true deaf = refl
    still false deaf = ap (λ (b : Bool). if b then acts (as_effect (held attribute.LinkEffect o.fixed.properties)) else []) (sym (deaf refl))

    by : (link : Bool) (source : Option ObjRef) (kind : Option EventType) → (waits e.source.number (number_of e.kind) source kind ≡ false → fires e o ≡ false)
        → (if waits e.source.number (number_of e.kind) (if link then source else None) kind then answer e o else []) ≡ (if link && fires e o then acts (as_effect (held attribute.LinkEffect o.fixed.properties)) else [])
    by true source kind deaf = still (waits e.source.number (number_of e.kind) source kind) deaf
    by false source kind deaf = refl

at_seam : (front : List Object) (o : Object) (os : List Object) → slice_get (front ++ o ∷ os) (length front) ≡ Some o
at_seam [] o os = refl
at_seam (x ∷ front) o os = at_seam front o os

-- one more object goes to the front
behind : (e : Event) (front : List Object) (o : Object) (os : List Object) → answers e (front ++ o ∷ [] ++ os) (places (length (front ++ o ∷ [])) e.source.number (number_of e.kind) (parts os)) ≡ heard e os → answers e (front ++ o ∷ os) (places (suc (length front)) e.source.number (number_of e.kind) (parts os)) ≡ heard e os
behind e front o os tail =
    let joined : front ++ o ∷ [] ++ os ≡ front ++ o ∷ os = append_assoc front (o ∷ []) os in
    let counted : length (front ++ o ∷ []) ≡ length front + length (o ∷ []) = length-append front (o ∷ []) in
    let longer : length (front ++ o ∷ []) ≡ suc (length front) = counted ∙ omega arith in
    sym (λ i. answers e (joined i) (places (longer i) e.source.number (number_of e.kind) (parts os))) ∙ tail

-- the links from some place on
heard-behind : (e : Event) (front os : List Object) → answers e (front ++ os) (places (length front) e.source.number (number_of e.kind) (parts os)) ≡ heard e os
heard-behind e front [] = refl
heard-behind e front (o ∷ os) =
    flat_map-append (answer_at e (front ++ o ∷ os)) (place_of (length front) e.source.number (number_of e.kind) o.fixed) (places (suc (length front)) e.source.number (number_of e.kind) (parts os))
    ∙ (λ i. here i ++ behind e front o os (heard-behind e (front ++ o ∷ []) os) i)
  where
    by : (b : Bool) → answers e (front ++ o ∷ os) (if b then length front ∷ [] else []) ≡ (if b then answer e o else [])
    by true = append-nil (answer_at e (front ++ o ∷ os) (length front)) ∙ ap (λ (m : Option Object). option_map_or (answer e) m []) (at_seam front o os)
    by false = refl

    kind : Option EventType
    kind = as_event (held attribute.EventType o.fixed.properties)

    here : answers e (front ++ o ∷ os) (place_of (length front) e.source.number (number_of e.kind) o.fixed) ≡ (if matches e o then acts (as_effect (held attribute.LinkEffect o.fixed.properties)) else [])
    here =
        ap (answers e (front ++ o ∷ os)) (place-waits (length front) e.source.number (number_of e.kind) (source_of o.fixed) kind)
        ∙ by (waits e.source.number (number_of e.kind) (source_of o.fixed) kind) ∙ put-split e o

-- asking the links that an index holds for the source and the type is asking all
pub heard-indexed : (e : Event) (index : Index) (os : List Object) → IsIndex index (parts os) → answers e os (waiting e.source.number (number_of e.kind) index) ≡ heard e os
unfolding IsIndex
heard-indexed e index os is = ap (answers e os) (is e.source.number (number_of e.kind)) ∙ heard-behind e [] os

-- where no link waits for the event's type from the source's number, none hears the event
pub unheard-indexed : (e : Event) (index : Index) (os : List Object) → IsIndex index (parts os) → waiting e.source.number (number_of e.kind) index ≡ [] → heard e os ≡ []
unheard-indexed e index os is none = sym (heard-indexed e index os is) ∙ ap (answers e os) none
