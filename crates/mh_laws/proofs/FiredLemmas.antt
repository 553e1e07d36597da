-- What an event puts costs no more than its price, whatever is known of its data.
use Rattle.std.specs.Prelude.{◌&&◌, ◌+◌, ◌<◌, ◌∷◌, ◌≡◌, ◌≤◌, ◌⊎◌, Bool, List, None, Option, Some, [], false, if◌then◌else◌, length, map, not, ◌||◌, true, ℕ}
use Rattle.std.proofs.Common.{◌∙◌, ap, arith, inl, inr, refl, subst, sym}
use Rattle.std.proofs.Math.Nat.{le-max_left}
use Rattle.std.proofs.lemmas.Bool.Decides.{Decides-int_eq}
use Rattle.std.proofs.lemmas.Slice.Eq.{bytes_eq-Decides}
use Rattle.mh_base.specs.Event.{is_sync}
use Rattle.mh_base.specs.declared.event.EventType.{EventType}
use Rattle.mh_base.specs.declared.obj_ref.ObjRef.{ObjRef}
use Rattle.mh_base.specs.declared.value.Value.{Value}
use Rattle.mh_base.specs.declared.value.Value.TheVariants as value
use Rattle.mh_group.specs.Table.{is_link}
use Rattle.mh_group.specs.declared.attribute.Attribute.TheVariants as attribute
use Rattle.mh_model.specs.declared.act.Act.{Act}
use Rattle.mh_model.specs.declared.config.Config.{Config}
use Rattle.mh_model.specs.declared.event.Event.{Event}
use Rattle.mh_model.specs.declared.item.Item.{Item}
use Rattle.mh_model.specs.declared.item.Item.TheVariants as item
use Rattle.mh_model.specs.declared.object.Fixed.{Fixed}
use Rattle.mh_model.specs.declared.object.Object.{Object}
use Rattle.mh_model.specs.Configuration.{present}
use Rattle.mh_model.specs.Items.{acts, heard, hears_data, hears_source, hears_type, matches}
use Rattle.mh_model.specs.Property.{as_effect, as_event, as_value, held}
use Rattle.mh_model.specs.Service.{Service, is_there, parts}
use Rattle.mh_model.specs.Variables.{same_value}
use Rattle.mh_model.proofs.ServiceLemmas.{same_ref-same}
use Rattle.mh_laws.specs.Costs.{Effect, can_hear, effect, effects, emit, entry, event_from, fired, heard_by, link_effect, named_data}
use Rattle.mh_laws.specs.Each.{Among, Each}
use Rattle.mh_laws.specs.Flow.{Flow}
use Rattle.mh_laws.specs.Price.{Plus, Price, if_price, most_price}
use Rattle.mh_laws.specs.Ways.{IsKnown, IsTold, Sure, Told, Unsure}
use Rattle.mh_laws.proofs.FitLemmas.{Fits, acts_fit, fits_both, fits_less, fits_none}
use Rattle.mh_laws.proofs.NodeLemmas.{hearing_active}
use Rattle.mh_laws.proofs.PriceLemmas.{le_same}
use Rattle.mh_laws.specs.Weighing.{IsHeardAwake, AreCovered, Weights, acts_cost, work_cost, worth}
use Rattle.mh_laws.proofs.WeighLemmas.{among_most, most_less}

abbrev source_of : Fixed → Option Value
source_of p = as_value (held attribute.EventSource p.properties)

abbrev type_of : Fixed → Option EventType
type_of p = as_event (held attribute.EventType p.properties)

abbrev data_of : Fixed → Option Value
data_of p = as_value (held attribute.EventData p.properties)

pub matching_hears : (e : Event) (o : Object) → matches e o ≡ true → can_hear e o.fixed ≡ true
matching_hears e o h = by (is_link o.fixed.class) o.body.running (hears_source (source_of o.fixed) e.source) (hears_type (type_of o.fixed) e.kind) (hears_data (data_of o.fixed) e.data) h
  where
    by : (a b c d x : Bool) → (a && b && c && d && x) ≡ true → (a && c && d && x) ≡ true
    by true true c d x h = h
    by true false c d x h = absurd cc
    by false b c d x h = h

pub matching_runs : (e : Event) (o : Object) → matches e o ≡ true → o.body.running ≡ true
matching_runs e o h = by (is_link o.fixed.class) o.body.running (hears_source (source_of o.fixed) e.source) (hears_type (type_of o.fixed) e.kind) (hears_data (data_of o.fixed) e.data) h
  where
    by : (a b c d x : Bool) → (a && b && c && d && x) ≡ true → b ≡ true
    by a true c d x h = refl
    by true false c d x h = absurd cc
    by false false c d x h = absurd cc

or_second : (a b : Bool) → b ≡ true → (a || b) ≡ true
or_second true b e = refl
or_second false b e = e

pub third : (p : Fixed) → link_effect < length (effects p)
third p = omega arith

pub if_worth : (f : Weights) (b : Bool) (p : Price Effect) → b ≡ true → worth f (if_price b p) ≡ worth f p
if_worth f true p e = refl
if_worth f false p e = absurd cc

-- what an event puts
pub heard_fits : (v : Service) (w : Flow) (f : Weights) (c : Config) (e : Event) (all : List Fixed) (os : List Object) → is_there e.source all ≡ true → AreCovered v w f c all (parts os) → IsHeardAwake f e os → Fits v w f c (heard e os) (worth f (heard_by c e (parts os)))
heard_fits v w f c e all [] there covered woken = fits_none v w f c 0
heard_fits v w f c e all (o ∷ os) there covered woken =
    fits_both v w f c (if matches e o then acts done else []) (heard e os) (worth f (if_price (can_hear e o.fixed) price)) (worth f (heard_by c e (parts os)))
    (by (matches e o) refl) (heard_fits v w f c e all os there covered.1 woken.1)
  where
    done : List Act
    done = as_effect (held attribute.LinkEffect o.fixed.properties)

    price : Price Effect
    price = effect c link_effect o.fixed

    by : (b : Bool) → matches e o ≡ b → Fits v w f c (if b then acts done else []) (worth f (if_price (can_hear e o.fixed) price))
    by true is =
        let hears = matching_hears e o is in
        let own = covered.0 (hearing_active e all o.fixed there hears) (or_second (not (is_link o.fixed.class)) (f.wakes o.fixed.key) (woken.0 is)) in
        subst (Fits v w f c (acts done)) (sym (if_worth f (can_hear e o.fixed) price hears))
        (fits_less v w f c (acts done) (acts_cost v w f c done) (worth f price) (own link_effect (third o.fixed)) (acts_fit v w f c done))
    by false is = fits_none v w f c (worth f (if_price (can_hear e o.fixed) price))

-- What is not known of the data costs most.

bool_same : (a b : Bool) → (if a then b else not b) ≡ true → a ≡ b
bool_same true b h = sym h
bool_same false true h = absurd cc
bool_same false false h = refl

same_value-same : (a b : Value) → same_value a b ≡ true → a ≡ b
same_value-same (value.Bool a) (value.Bool b) h = ap value.Bool (bool_same a b h)
same_value-same (value.Int a) (value.Int b) h = ap value.Int ((Decides-int_eq a b).0 h)
same_value-same (value.Octets a) (value.Octets b) h = ap value.Octets ((bytes_eq-Decides a b).0 h)
same_value-same (value.Object a) (value.Object b) h = ap value.Object (same_ref-same a b h)
same_value-same (value.Content a) (value.Content b) h = ap value.Content ((bytes_eq-Decides a b).0 h)
same_value-same _ _ h = absurd cc

abbrev data_written : List Fixed → List (Option Value)
data_written ps = map (λ (p : Fixed). as_value (held attribute.EventData p.properties)) ps

-- either a link names the data, or the event is heard as if it had none

abbrev IsHeardAsNone : List Fixed → Value → Type 0
IsHeardAsNone ps d = Each (λ (p : Fixed). hears_data (data_of p) (Some d) ≡ hears_data (data_of p) None) ps

named_or_none : (ps : List Fixed) (d : Value) → Among (data_written ps) (Some d) ⊎ IsHeardAsNone ps d
named_or_none [] d = inr tt
named_or_none (p ∷ ps) d = by (data_of p) refl (named_or_none ps d)
  where
    by : (m : Option Value) → data_of p ≡ m → Among (data_written ps) (Some d) ⊎ IsHeardAsNone ps d → Among (data_written (p ∷ ps)) (Some d) ⊎ IsHeardAsNone (p ∷ ps) d
    by m e (inl named) = inl (inr named)
    by None e (inr none) = inr (ap (λ (x : Option Value). hears_data x (Some d)) e ∙ sym (ap (λ (x : Option Value). hears_data x None) e), none)
    by (Some x) e (inr none) = by_value (same_value x d) refl
      where
        by_value : (b : Bool) → same_value x d ≡ b → Among (data_written (p ∷ ps)) (Some d) ⊎ IsHeardAsNone (p ∷ ps) d
        by_value true same = inl (inl (e ∙ ap Some (same_value-same x d same)))
        by_value false other = inr (ap (λ (y : Option Value). hears_data y (Some d)) e ∙ other ∙ sym (ap (λ (y : Option Value). hears_data y None) e), none)

heard_as_none : (c : Config) (r : ObjRef) (kind : EventType) (d : Value) (ps : List Fixed) → IsHeardAsNone ps d → heard_by c (event_from r kind (Some d)) ps ≡ heard_by c (event_from r kind None) ps
heard_as_none c r kind d [] h = refl
heard_as_none c r kind d (p ∷ ps) h = λ i.
    Plus (if_price (is_link p.class && hears_source (source_of p) r && hears_type (type_of p) kind && h.0 i) (effect c link_effect p)) (heard_as_none c r kind d ps h.1 i)

pub fired_unsure : (v : Service) (f : Weights) (c : Config) (r : ObjRef) (kind : EventType) (m : Option Value) → worth f (fired v c r kind (Sure m)) ≤ worth f (fired v c r kind Unsure)
fired_unsure v f c r kind None = le-max_left (worth f (heard_by c (event_from r kind None) (present v c))) _
fired_unsure v f c r kind (Some d) = by (named_or_none (present v c) d)
  where
    ps : List Fixed
    ps = present v c

    price_with : Option Value → Price Effect
    price_with m = heard_by c (event_from r kind m) ps

    by : Among (data_written ps) (Some d) ⊎ IsHeardAsNone ps d → worth f (price_with (Some d)) ≤ worth f (most_price price_with (named_data ps))
    by (inl named) = among_most f price_with (named_data ps) (Some d) (inr named)
    by (inr none) = subst (λ (p : Price Effect). worth f p ≤ worth f (most_price price_with (named_data ps))) (sym (heard_as_none c r kind d ps none)) (le-max_left (worth f (price_with None)) _)

fired_known : (v : Service) (f : Weights) (c : Config) (r : ObjRef) (kind : EventType) (d : Told) (m : Option Value) → IsKnown d m → worth f (fired v c r kind (Sure m)) ≤ worth f (fired v c r kind d)
fired_known v f c r kind (Sure n) m same = subst (λ (x : Option Value). worth f (fired v c r kind (Sure m)) ≤ worth f (fired v c r kind (Sure x))) same (le_same _)
fired_known v f c r kind Unsure m same = fired_unsure v f c r kind m

if_less : (f : Weights) (b : Bool) (p q : Price Effect) → worth f p ≤ worth f q → worth f (if_price b p) ≤ worth f (if_price b q)
if_less f true p q h = h
if_less f false p q h = le_same 0

pub more_one : (a b : ℕ) → a ≤ b → 1 + a ≤ 1 + b
more_one a b h = omega (arith, h)

pub entry_known : (v : Service) (w : Flow) (f : Weights) (r : ObjRef) (kind : EventType) (d : Told) (m : Option Value) → IsKnown d m → worth f (entry v w r kind (Sure m)) ≤ worth f (entry v w r kind d)
entry_known v w f r kind d m same =
    more_one _ _ (most_less f (λ x. if_price (is_there r (present v x)) (fired v x r kind (Sure m))) (λ x. if_price (is_there r (present v x)) (fired v x r kind d))
    (λ x. if_less f (is_there r (present v x)) (fired v x r kind (Sure m)) (fired v x r kind d) (fired_known v f x r kind d m same)) w.configs)

emit_known : (v : Service) (w : Flow) (f : Weights) (c : Config) (r : ObjRef) (kind : EventType) (d : Told) (m : Option Value) → IsKnown d m → worth f (emit v w c r kind (Sure m)) ≤ worth f (emit v w c r kind d)
emit_known v w f c r kind d m same = more_one _ _ (by (is_sync kind))
  where
    by : (b : Bool) → worth f (if b then if_price (is_there r (present v c)) (fired v c r kind (Sure m)) else entry v w r kind (Sure m)) ≤ worth f (if b then if_price (is_there r (present v c)) (fired v c r kind d) else entry v w r kind d)
    by true = if_less f (is_there r (present v c)) (fired v c r kind (Sure m)) (fired v c r kind d) (fired_known v f c r kind d m same)
    by false = entry_known v w f r kind d m same

-- an event that is told, or none
pub told_fits : (v : Service) (w : Flow) (f : Weights) (c : Config) (r : ObjRef) (kind : EventType) (d : Told) (is : List Item) → IsTold r kind d is → Fits v w f c is (worth f (emit v w c r kind d))
told_fits v w f c r kind d [] h = fits_none v w f c (worth f (emit v w c r kind d))
told_fits v w f c r kind d (item.Emit e ∷ []) h =
    let known = emit_known v w f c r kind d e.data h.2 in
    let same : emit v w c e.source e.kind (Sure e.data) ≡ emit v w c r kind (Sure e.data) = λ i. emit v w c (h.0 i) (h.1 i) (Sure e.data) in
    let less : worth f (emit v w c e.source e.kind (Sure e.data)) ≤ worth f (emit v w c r kind d) = subst (λ (p : Price Effect). worth f p ≤ worth f (emit v w c r kind d)) (sym same) known in
    λ rest. joined (worth f (emit v w c e.source e.kind (Sure e.data))) (worth f (emit v w c r kind d)) (work_cost v w f c rest) less
  where
    joined : (a b n : ℕ) → a ≤ b → a + n ≤ b + n
    joined a b n h = omega (arith, h)
told_fits v w f c r kind d _ h = absurd cc
