-- Events by nodes agree with events by effects.
use Rattle.std.specs.Prelude.{◌≡◌, ◌<◌, ℕ, Bool, true, false, ◌&&◌, if◌then◌else◌, List, [], ◌∷◌, Option, Some, None, refl}
use Rattle.std.specs.List.{list_any}
use Rattle.std.specs.Option.{option_map_or}
use Rattle.std.proofs.Common.{arith, inl, inr, ap, ◌∙◌, sym, subst}
use Rattle.mh_base.specs.declared.obj_ref.ObjRef.{ObjRef}
use Rattle.mh_base.specs.declared.value.Value.{Value}
use Rattle.mh_base.specs.declared.event.EventType.{EventType}
use Rattle.mh_base.specs.Event.{is_sync}
use Rattle.mh_group.specs.declared.attribute.Attribute.TheVariants as attribute
use Rattle.mh_group.specs.Table.{is_link}
use Rattle.mh_model.specs.declared.config.Config.{Config}
use Rattle.mh_model.specs.declared.object.Fixed.{Fixed}
use Rattle.mh_model.specs.Configuration.{present}
use Rattle.mh_model.specs.Items.{hears_source, hears_type}
use Rattle.mh_model.specs.Property.{as_event, as_value, held}
use Rattle.mh_model.specs.Service.{is_there}
use Rattle.mh_model.specs.Variables.{same_value}
use Rattle.mh_model.proofs.ListLemmas.{and_left, and_right}
use Rattle.mh_laws.specs.Costs as costs
use Rattle.mh_laws.specs.Each.{Among}
use Rattle.mh_laws.specs.Flow.{reached}
use Rattle.mh_laws.specs.Price.{Price, Nothing, One, Node, Plus, most_price, if_price}
use Rattle.mh_laws.specs.View as view
use Rattle.mh_laws.specs.Ways.{Told, Sure, Unsure}
use Rattle.mh_layers.specs.CostNode.{Effect, Fired, Entry, Hearing, Plain, With, Any}
use Rattle.mh_layers.specs.Grouped.{has, is_plain}
use Rattle.mh_layers.specs.CostNodes.{bucket, data_of, fired_at, fired_if_there, fired_price, fires, heard_with, hearing, hearing_level, is_caused, is_named, IsMet, knows, links_with, objects, told_by, values, waits_for}
use Rattle.mh_layers.proofs.AgreeLemmas.{Agrees, Setting, agrees_if, agrees_largest, agrees_node, agrees_nothing, agrees_one, agrees_plus, agrees_sum, agrees_then, agrees_wider, effects_come}
use Rattle.mh_layers.proofs.HeardLemmas.{AreKnown, any_heard, links, plain_heard, unheard, unnamed, value_heard, value_there}
use Rattle.mh_layers.proofs.MetLemmas.{link_active, on_of, reached_among}
use Rattle.mh_layers.proofs.ReckonLemmas.{plus_right}

-- what is known of a configuration that may be reached
pub known_there : {A : Type 0} (s : Setting A) (c : Config) → reached s.flow c ≡ true → (r : ObjRef) (kind : EventType) (o : Option (List Value)) → s.heard r kind ≡ o → AreKnown r kind o (present s.service c)
known_there s c is r kind o e p there waits = subst (λ (x : Option (List Value)). knows x (data_of p) ≡ true) e (s.hears.each c is p there r kind waits)

-- Effects of links

link_met : {A : Type 0} (s : Setting A) (c : Config) (r : ObjRef) (kind : EventType) (p : Fixed) → reached s.flow c ≡ true → is_there r (present s.service c) ≡ true → Among (present s.service c) p → waits_for r kind p ≡ true → IsMet s.service s.flow s.heard (Effect c p.key costs.link_effect)
link_met s c r kind p is source there waits =
    let front = and_left (is_link p.class && hears_source (as_value (held attribute.EventSource p.properties)) r) (hears_type (as_event (held attribute.EventType p.properties)) kind) waits in
    let link = and_left (is_link p.class) (hears_source (as_value (held attribute.EventSource p.properties)) r) front in
    let hears = and_right (is_link p.class) (hears_source (as_value (held attribute.EventSource p.properties)) r) front in (
      on_of s.service s.flow c p 2 is there (link_active (present s.service c) p r hears source) (omega arith),
      ap (λ (o : Option Fixed). option_map_or (is_caused 2) o false) (s.found c p there) ∙ link,
    )

pub links_agree : {A : Type 0} (s : Setting A) (c : Config) (r : ObjRef) (kind : EventType) (is : Option Value → Bool) → reached s.flow c ≡ true → is_there r (present s.service c) ≡ true → Agrees s 1 (links_with s.service c r kind is) (links c r kind is (present s.service c))
links_agree {A} s c r kind is here source =
    agrees_sum s 1 (λ (p : Fixed). if_price (waits_for r kind p && is (data_of p)) (Node (Effect c p.key costs.link_effect)))
    (λ (p : Fixed). if_price (waits_for r kind p && is (data_of p)) (costs.effect c costs.link_effect p)) (present s.service c)
    (λ p there. agrees_if s 1 (waits_for r kind p && is (data_of p)) (Node (Effect c p.key costs.link_effect)) (costs.effect c costs.link_effect p)
    (λ e. agrees_node s 1 (Effect c p.key costs.link_effect) (link_met s c r kind p here source there (and_left (waits_for r kind p) (is (data_of p)) e)) (omega arith)))

-- What an event sets going, hearing by hearing

plain_agrees : {A : Type 0} (s : Setting A) (c : Config) (r : ObjRef) (kind : EventType) → reached s.flow c ≡ true → is_there r (present s.service c) ≡ true → Agrees s 1 (links_with s.service c r kind is_plain) (costs.fired s.service c r kind (Sure None))
plain_agrees s c r kind here source =
    agrees_then s 1 (links_with s.service c r kind is_plain) (links c r kind is_plain (present s.service c)) (costs.fired s.service c r kind (Sure None))
    (links_agree s c r kind is_plain here source) (sym (plain_heard s c r kind (present s.service c)))

plain_node : {A : Type 0} (s : Setting A) (n : ℕ) (c : Config) (r : ObjRef) (kind : EventType) → reached s.flow c ≡ true → is_there r (present s.service c) ≡ true → is_named (s.heard r kind) Plain ≡ true → 1 < n → Agrees s n (Node (Fired c r kind Plain)) (costs.fired s.service c r kind (Sure None))
plain_node s n c r kind here source named less = agrees_node s n (Fired c r kind Plain) (here, source, named) less

with_node : {A : Type 0} (s : Setting A) (n : ℕ) (c : Config) (r : ObjRef) (kind : EventType) (x : Value) → reached s.flow c ≡ true → is_there r (present s.service c) ≡ true → is_named (s.heard r kind) (With x) ≡ true → 1 < n → Agrees s n (Node (Fired c r kind (With x))) (bucket s.service c r kind x)
with_node s n c r kind x here source named less = agrees_node s n (Fired c r kind (With x)) (here, source, named) less

some_named : (o : Option (List Value)) (g : Hearing) → is_named o g ≡ true → (xs : List Value) × (o ≡ Some xs)
some_named None g e = absurd cc
some_named (Some xs) g e = (xs, refl)

any_agrees : {A : Type 0} (s : Setting A) (c : Config) (r : ObjRef) (kind : EventType) (xs : List Value) → s.heard r kind ≡ Some xs → reached s.flow c ≡ true → is_there r (present s.service c) ≡ true → Agrees s 2 (Plus (Node (Fired c r kind Plain)) (most_price (λ x. Node (Fired c r kind (With x))) xs)) (costs.fired s.service c r kind Unsure)
any_agrees {A} s c r kind xs e here source =
    agrees_then s 2 (Plus (Node (Fired c r kind Plain)) (most_price (λ x. Node (Fired c r kind (With x))) xs))
    (Plus (costs.fired s.service c r kind (Sure None)) (most_price (λ x. bucket s.service c r kind x) xs)) (costs.fired s.service c r kind Unsure)
    (agrees_plus s 2 (Node (Fired c r kind Plain)) (most_price (λ x. Node (Fired c r kind (With x))) xs)
    (costs.fired s.service c r kind (Sure None)) (most_price (λ x. bucket s.service c r kind x) xs)
    (plain_node s 2 c r kind here source (ap (λ (o : Option (List Value)). is_named o Plain) e) (omega arith))
    (agrees_largest s 2 (λ x. Node (Fired c r kind (With x))) (λ x. bucket s.service c r kind x) xs
    (λ x there. with_node s 2 c r kind x here source (ap (λ (o : Option (List Value)). is_named o (With x)) e ∙ value_there xs x there) (omega arith))))
    (ap (λ (a : A). s.way.plus a (effects_come s (most_price (λ x. bucket s.service c r kind x) xs))) (plain_heard s c r kind (present s.service c))
    ∙ any_heard s c r kind xs (present s.service c) (known_there s c here r kind (Some xs) e))

pub fired_agrees : {A : Type 0} (s : Setting A) (c : Config) (r : ObjRef) (kind : EventType) (g : Hearing) → IsMet s.service s.flow s.heard (Fired c r kind g) → Agrees s (hearing_level g) (fired_price s.service s.heard c r kind g) (fires s.service c r kind g)
fired_agrees s c r kind Plain (here, source, named) = plain_agrees s c r kind here source
fired_agrees s c r kind (With x) (here, source, named) = links_agree s c r kind (has same_value x) here source
fired_agrees {A} s c r kind Any (here, source, named) =
    let is = some_named (s.heard r kind) Any named in
    subst (λ (o : Option (List Value)). Agrees s 2 (Plus (Node (Fired c r kind Plain)) (most_price (λ x. Node (Fired c r kind (With x))) (values o))) (costs.fired s.service c r kind Unsure)) (sym is.1)
    (any_agrees s c r kind is.0 is.1 here source)

-- all that hear an event of this hearing
pub fired_at_agrees : {A : Type 0} (s : Setting A) (c : Config) (r : ObjRef) (kind : EventType) (g : Hearing) → IsMet s.service s.flow s.heard (Fired c r kind g) → Agrees s 3 (fired_at c r kind g) (costs.fired s.service c r kind (told_by g))
fired_at_agrees s c r kind Plain met = agrees_node s 3 (Fired c r kind Plain) met (omega arith)
fired_at_agrees {A} s c r kind (With x) (here, source, named) =
    agrees_then s 3 (fired_at c r kind (With x)) (Plus (costs.fired s.service c r kind (Sure None)) (bucket s.service c r kind x)) (costs.fired s.service c r kind (Sure (Some x)))
    (agrees_plus s 3 (Node (Fired c r kind Plain)) (Node (Fired c r kind (With x))) (costs.fired s.service c r kind (Sure None)) (bucket s.service c r kind x)
    (plain_node s 3 c r kind here source (plainly (s.heard r kind) named) (omega arith)) (with_node s 3 c r kind x here source named (omega arith)))
    (ap (λ (a : A). s.way.plus a (effects_come s (bucket s.service c r kind x))) (plain_heard s c r kind (present s.service c))
    ∙ sym (value_heard s c r kind x (present s.service c)))
  where
    plainly : (o : Option (List Value)) → is_named o (With x) ≡ true → is_named o Plain ≡ true
    plainly None e = absurd cc
    plainly (Some xs) e = refl
fired_at_agrees s c r kind Any met = agrees_node s 3 (Fired c r kind Any) met (omega arith)

pub there_agrees : {A : Type 0} (s : Setting A) (c : Config) (r : ObjRef) (kind : EventType) (g : Hearing) → reached s.flow c ≡ true → is_named (s.heard r kind) g ≡ true → Agrees s 3 (fired_if_there s.service c r kind g) (costs.fired_if_there s.service c r kind (told_by g))
there_agrees s c r kind g here named =
    agrees_if s 3 (is_there r (present s.service c)) (fired_at c r kind g) (costs.fired s.service c r kind (told_by g)) (λ source. fired_at_agrees s c r kind g (here, source, named))

-- An event's data among those that are named

hearing_named : (xs : List Value) (d : Told) → is_named (Some xs) (hearing xs d) ≡ true
hearing_named xs (Sure None) = refl
hearing_named xs (Sure (Some x)) = by (list_any (same_value x) xs) refl
  where
    by : (b : Bool) → list_any (same_value x) xs ≡ b → is_named (Some xs) (if b then With x else Plain) ≡ true
    by true e = e
    by false e = refl
hearing_named xs Unsure = refl

fired_hearing : {A : Type 0} (s : Setting A) (c : Config) (r : ObjRef) (kind : EventType) (xs : List Value) (d : Told) → s.heard r kind ≡ Some xs → reached s.flow c ≡ true → effects_come s (costs.fired s.service c r kind (told_by (hearing xs d))) ≡ effects_come s (costs.fired s.service c r kind d)
fired_hearing s c r kind xs (Sure None) e here = refl
fired_hearing s c r kind xs Unsure e here = refl
fired_hearing {A} s c r kind xs (Sure (Some x)) e here = by (list_any (same_value x) xs) refl
  where
    by : (b : Bool) → list_any (same_value x) xs ≡ b → effects_come s (costs.fired s.service c r kind (told_by (if b then With x else Plain))) ≡ effects_come s (costs.fired s.service c r kind (Sure (Some x)))
    by true is = refl
    by false is =
        plain_heard s c r kind (present s.service c) ∙ sym (plus_right s.way (effects_come s (links c r kind is_plain (present s.service c))))
        ∙ ap (λ (a : A). s.way.plus (effects_come s (links c r kind is_plain (present s.service c))) a)
        (sym (unnamed s c r kind xs x (present s.service c) (known_there s c here r kind (Some xs) e) is))
        ∙ sym (value_heard s c r kind x (present s.service c))

if_hearing : {A : Type 0} (s : Setting A) (c : Config) (r : ObjRef) (kind : EventType) (xs : List Value) (d : Told) → s.heard r kind ≡ Some xs → reached s.flow c ≡ true → effects_come s (costs.fired_if_there s.service c r kind (told_by (hearing xs d))) ≡ effects_come s (costs.fired_if_there s.service c r kind d)
if_hearing {A} s c r kind xs d e here = by (is_there r (present s.service c))
  where
    by : (b : Bool) → effects_come s (if_price b (costs.fired s.service c r kind (told_by (hearing xs d)))) ≡ effects_come s (if_price b (costs.fired s.service c r kind d))
    by true = fired_hearing s c r kind xs d e here
    by false = refl

largest_same : {A : Type 0} (s : Setting A) (g h : Config → Price costs.Effect) (cs : List Config) → ((c : Config) → Among cs c → effects_come s (g c) ≡ effects_come s (h c)) → effects_come s (most_price g cs) ≡ effects_come s (most_price h cs)
largest_same s g h [] e = refl
largest_same s g h (c ∷ cs) e = λ i. s.way.most (e c (inl refl) i) (largest_same s g h cs (λ d there. e d (inr there)) i)

entry_hearing : {A : Type 0} (s : Setting A) (r : ObjRef) (kind : EventType) (xs : List Value) (d : Told) → s.heard r kind ≡ Some xs → effects_come s (costs.entry s.service s.flow r kind (told_by (hearing xs d))) ≡ effects_come s (costs.entry s.service s.flow r kind d)
entry_hearing {A} s r kind xs d e =
    ap (λ (a : A). s.way.plus s.way.one a)
    (largest_same s (λ c. costs.fired_if_there s.service c r kind (told_by (hearing xs d))) (λ c. costs.fired_if_there s.service c r kind d) s.flow.configs
    (λ c there. if_hearing s c r kind xs d e (reached_among s.flow.configs c there)))

-- where no link waits

pub silent_fired : {A : Type 0} (s : Setting A) (c : Config) (r : ObjRef) (kind : EventType) (d : Told) → s.heard r kind ≡ None → reached s.flow c ≡ true → effects_come s (costs.fired s.service c r kind d) ≡ s.way.none
silent_fired {A} s c r kind d e here = by d
  where
    known : AreKnown r kind None (present s.service c)
    known = known_there s c here r kind None e

    one : (m : Option Value) → effects_come s (costs.heard_by c (costs.event_from r kind m) (present s.service c)) ≡ s.way.none
    one None = plain_heard s c r kind (present s.service c) ∙ unheard s c r kind is_plain (present s.service c) known
    one (Some x) =
        value_heard s c r kind x (present s.service c)
        ∙ (λ i. s.way.plus (unheard s c r kind is_plain (present s.service c) known i) (unheard s c r kind (has same_value x) (present s.service c) known i))
        ∙ s.way.plus_none s.way.none

    all : (ms : List (Option Value)) → effects_come s (most_price (λ m. costs.heard_by c (costs.event_from r kind m) (present s.service c)) ms) ≡ s.way.none
    all [] = refl
    all (m ∷ ms) = (λ i. s.way.most (one m i) (all ms i)) ∙ s.way.most_none s.way.none

    by : (d : Told) → effects_come s (costs.fired s.service c r kind d) ≡ s.way.none
    by (Sure m) = one m
    by Unsure = all (costs.named_data (present s.service c))

silent_if : {A : Type 0} (s : Setting A) (c : Config) (r : ObjRef) (kind : EventType) (d : Told) → s.heard r kind ≡ None → reached s.flow c ≡ true → effects_come s (costs.fired_if_there s.service c r kind d) ≡ s.way.none
silent_if {A} s c r kind d e here = by (is_there r (present s.service c))
  where
    by : (b : Bool) → effects_come s (if_price b (costs.fired s.service c r kind d)) ≡ s.way.none
    by true = silent_fired s c r kind d e here
    by false = refl

silent_entry : {A : Type 0} (s : Setting A) (r : ObjRef) (kind : EventType) (d : Told) → s.heard r kind ≡ None → effects_come s (costs.entry s.service s.flow r kind d) ≡ s.way.one
silent_entry {A} s r kind d e =
    ap (λ (a : A). s.way.plus s.way.one a) (all s.flow.configs (λ c there. silent_if s c r kind d e (reached_among s.flow.configs c there)))
    ∙ plus_right s.way s.way.one
  where
    all : (cs : List Config) → ((c : Config) → Among cs c → effects_come s (costs.fired_if_there s.service c r kind d) ≡ s.way.none) → effects_come s (most_price (λ c. costs.fired_if_there s.service c r kind d) cs) ≡ s.way.none
    all [] h = refl
    all (c ∷ cs) h = (λ i. s.way.most (h c (inl refl) i) (all cs (λ x there. h x (inr there)) i)) ∙ s.way.most_none s.way.none

-- Entries

pub entry_agrees : {A : Type 0} (s : Setting A) (r : ObjRef) (kind : EventType) (g : Hearing) → is_named (s.heard r kind) g ≡ true → Agrees s 3 (Plus One (most_price (λ c. fired_if_there s.service c r kind g) s.flow.configs)) (costs.entry s.service s.flow r kind (told_by g))
entry_agrees s r kind g named =
    agrees_plus s 3 One (most_price (λ c. fired_if_there s.service c r kind g) s.flow.configs) One
    (most_price (λ c. costs.fired_if_there s.service c r kind (told_by g)) s.flow.configs) (agrees_one s 3)
    (agrees_largest s 3 (λ c. fired_if_there s.service c r kind g) (λ c. costs.fired_if_there s.service c r kind (told_by g)) s.flow.configs
    (λ c there. there_agrees s c r kind g (reached_among s.flow.configs c there) named))

-- Events that are emitted

pub heard_agrees : {A : Type 0} (s : Setting A) (c : Config) (r : ObjRef) (kind : EventType) (d : Told) (o : Option (List Value)) → s.heard r kind ≡ o → reached s.flow c ≡ true → Agrees s 4 (heard_with s.service c r kind d o) (if is_sync kind then costs.fired_if_there s.service c r kind d else costs.entry s.service s.flow r kind d)
heard_agrees {A} s c r kind d None e here = by (is_sync kind)
  where
    by : (b : Bool) → Agrees s 4 (if b then Nothing else One) (if b then costs.fired_if_there s.service c r kind d else costs.entry s.service s.flow r kind d)
    by true = agrees_then s 4 Nothing Nothing (costs.fired_if_there s.service c r kind d) (agrees_nothing s 4) (sym (silent_if s c r kind d e here))
    by false = agrees_then s 4 One One (costs.entry s.service s.flow r kind d) (agrees_one s 4) (sym (silent_entry s r kind d e))
heard_agrees {A} s c r kind d (Some xs) e here = by (is_sync kind)
  where
    named : is_named (s.heard r kind) (hearing xs d) ≡ true
    named = ap (λ (o : Option (List Value)). is_named o (hearing xs d)) e ∙ hearing_named xs d

    by : (b : Bool) → Agrees s 4 (if b then fired_if_there s.service c r kind (hearing xs d) else Node (Entry r kind (hearing xs d))) (if b then costs.fired_if_there s.service c r kind d else costs.entry s.service s.flow r kind d)
    by true =
        agrees_then s 4 (fired_if_there s.service c r kind (hearing xs d)) (costs.fired_if_there s.service c r kind (told_by (hearing xs d))) (costs.fired_if_there s.service c r kind d)
        (agrees_wider s 3 4 (fired_if_there s.service c r kind (hearing xs d)) (costs.fired_if_there s.service c r kind (told_by (hearing xs d))) (omega arith) (there_agrees s c r kind (hearing xs d) here named))
        (if_hearing s c r kind xs d e here)
    by false =
        agrees_then s 4 (Node (Entry r kind (hearing xs d))) (costs.entry s.service s.flow r kind (told_by (hearing xs d))) (costs.entry s.service s.flow r kind d)
        (agrees_node s 4 (Entry r kind (hearing xs d)) named (omega arith)) (entry_hearing s r kind xs d e)

pub emit_agrees : {A : Type 0} (s : Setting A) (c : Config) → reached s.flow c ≡ true → (r : ObjRef) (kind : EventType) (d : Told) → Agrees s 4 (view.emit (objects s.service s.flow s.heard c) r kind d) (costs.emit s.service s.flow c r kind d)
emit_agrees s c here r kind d =
    agrees_plus s 4 One (heard_with s.service c r kind d (s.heard r kind)) One (if is_sync kind then costs.fired_if_there s.service c r kind d else costs.entry s.service s.flow r kind d)
    (agrees_one s 4) (heard_agrees s c r kind d (s.heard r kind) refl here)
