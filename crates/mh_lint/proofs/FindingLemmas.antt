-- What is found never happens.
use Rattle.std.specs.Prelude.{◌≡◌, ◌⊎◌, ℕ, Bool, true, false, ◌&&◌, ◌||◌, not, if◌then◌else◌, List, [], ◌∷◌, ◌++◌, map, Option, Some, None, refl}
use Rattle.std.specs.List.{flat_map, list_any}
use Rattle.std.specs.Option.{option_to_list}
use Rattle.std.proofs.Common.{ap, sym, subst, inl, inr}
use Rattle.mh_base.specs.declared.event.EventType.{EventType}
use Rattle.mh_base.specs.declared.value.Value.{Value}
use Rattle.mh_group.specs.declared.attribute.Attribute.TheVariants as attribute
use Rattle.mh_group.specs.Table.{is_link, is_runnable}
use Rattle.mh_model.specs.declared.config.Config.{Config}
use Rattle.mh_model.specs.declared.object.Fixed.{Fixed}
use Rattle.mh_model.specs.Property.{held, as_event, as_value}
use Rattle.mh_model.specs.Service.{Service}
use Rattle.mh_model.proofs.ListLemmas.{and_right, some_same}
use Rattle.mh_laws.specs.Budget.{IsAccepted}
use Rattle.mh_laws.specs.Each.{Among}
use Rattle.mh_laws.specs.Safe.{config_of}
use Rattle.mh_laws.proofs.EachLemmas.{among_each, from_joined}
use Rattle.mh_laws.proofs.NodeLemmas.{config_among}
use Rattle.mh_flow.specs.Index.{is_entered}
use Rattle.mh_alive.specs.Alive.{Alive, InEachRun, IsAliveOf, never_hears, never_put, never_runs, never_says}
use Rattle.mh_alive.proofs.HearLemmas.{deaf as deaf_law}
use Rattle.mh_alive.proofs.InputLemmas.{unput as unput_law}
use Rattle.mh_alive.proofs.ReachLemmas.{stays_reached}
use Rattle.mh_alive.proofs.RunLemmas.{still}
use Rattle.mh_alive.proofs.SayLemmas.{unsaid as unsaid_law}
use Rattle.mh_lint.specs.declared.finding.Finding.{Finding}
use Rattle.mh_lint.specs.declared.finding.Finding.TheVariants as finding
use Rattle.mh_lint.specs.Findings.{all_of, all_of_link, beyond, found_of, findings, idle, is_unreached, of_group, of_link, or_unmoved, root_of, unmoved, unsaid, waits_beyond}
use Rattle.mh_lint.specs.Laws.{FindingsNeverHappen, IsOutside, NeverHappens}

pub groups_joined : {X : Type 0} (f : List Fixed → List X) (gs : List (List ℕ × List Fixed)) → flat_map f (map (λ g. g.1) gs) ≡ flat_map (λ g. f g.1) gs
groups_joined f [] = refl
groups_joined {X} f (g ∷ gs) = ap (λ (t : List X). f g.1 ++ t) (groups_joined f gs)

any_there : (p : Config → Bool) (cs : List Config) (c : Config) → Among cs c → p c ≡ true → list_any p cs ≡ true
any_there p [] c h e = absurd cc
any_there p (d ∷ cs) c (inl same) e = first (p d) (list_any p cs) (subst (λ (x : Config). p x ≡ true) (sym same) e)
  where
    first : (a b : Bool) → a ≡ true → (a || b) ≡ true
    first true b e = refl
    first false b e = absurd cc
any_there p (d ∷ cs) c (inr more) e = second (p d) (list_any p cs) (any_there p cs c more e)
  where
    second : (a b : Bool) → b ≡ true → (a || b) ≡ true
    second true b e = refl
    second false b e = e

outside : (most : ℕ) (v : Service) (k : IsAccepted most v) (g : List ℕ) → is_unreached (k.flow).configs g ≡ true → InEachRun v (IsOutside g)
outside most v k g never mjd fs ss ms s run =
    by (is_entered (config_of s) g) (list_any (λ c. is_entered c g) (k.flow).configs) never
    (λ e. any_there (λ c. is_entered c g) (k.flow).configs (config_of s) (config_among (k.flow).configs (config_of s) (stays_reached v k.flow k.acceptable mjd fs ss ms s run)) e)
  where
    by : (a b : Bool) → not b ≡ true → (a ≡ true → b ≡ true) → a ≡ false
    by false b h f = refl
    by true true h f = absurd cc
    by true false h f = sym (f refl)

unsaid_never : (most : ℕ) (v : Service) (k : IsAccepted most v) (a : Alive) → IsAliveOf v k.flow a → (p : Fixed) (t : Option EventType) (d : Option Value) (f : Finding) → unsaid a p t d ≡ Some f → NeverHappens most v k f
unsaid_never most v k a is p (Some kind) (Some x) f e = by (never_says a kind (Some x)) refl e
  where
    by : (b : Bool) → never_says a kind (Some x) ≡ b → (if b then Some (finding.Unsaid p.key kind x) else None) ≡ Some f → NeverHappens most v k f
    by true never e = subst (NeverHappens most v k) (some_same e) (unsaid_law v k.flow a kind (Some x) is k.acceptable never)
    by false never e = absurd cc
unsaid_never most v k a is p (Some kind) None f e = absurd cc
unsaid_never most v k a is p None d f e = absurd cc

unmoved_never : (most : ℕ) (v : Service) (k : IsAccepted most v) (a : Alive) → IsAliveOf v k.flow a → (p : Fixed) (f : Finding) → Among (option_to_list (unmoved a p)) f → NeverHappens most v k f
unmoved_never most v k a is p f h = by (never_put a p.key) (never_hears a p.key) refl refl h
  where
    by : (b d : Bool) → never_put a p.key ≡ b → never_hears a p.key ≡ d → Among (option_to_list (if b then Some (finding.Unput p.key) else (if d then Some (finding.Deaf p.key) else None))) f → NeverHappens most v k f
    by true d never deaf (inl same) = subst (NeverHappens most v k) same (unput_law most v k a p.key is never)
    by true d never deaf (inr more) = absurd cc
    by false true never deaf (inl same) = subst (NeverHappens most v k) same (deaf_law most v k a p.key is deaf)
    by false true never deaf (inr more) = absurd cc
    by false false never deaf h = absurd cc

link_never : (most : ℕ) (v : Service) (k : IsAccepted most v) (a : Alive) → IsAliveOf v k.flow a → (p : Fixed) (f : Finding) → Among (option_to_list (of_link a p)) f → NeverHappens most v k f
link_never most v k a is p f h = by (unsaid a p (as_event (held attribute.EventType p.properties)) (as_value (held attribute.EventData p.properties))) refl h
  where
    by : (m : Option Finding) → unsaid a p (as_event (held attribute.EventType p.properties)) (as_value (held attribute.EventData p.properties)) ≡ m → Among (option_to_list (or_unmoved a p m)) f → NeverHappens most v k f
    by (Some g) e (inl same) = subst (NeverHappens most v k) same (unsaid_never most v k a is p (as_event (held attribute.EventType p.properties)) (as_value (held attribute.EventData p.properties)) g e)
    by (Some g) e (inr more) = absurd cc
    by None e h = unmoved_never most v k a is p f h

idle_never : (most : ℕ) (v : Service) (k : IsAccepted most v) (a : Alive) → IsAliveOf v k.flow a → (p : Fixed) (f : Finding) → Among (option_to_list (idle a p)) f → NeverHappens most v k f
idle_never most v k a is p f h = by (is_runnable p.class && never_runs a p.key) refl h
  where
    by : (b : Bool) → (is_runnable p.class && never_runs a p.key) ≡ b → Among (option_to_list (if b then Some (finding.Idle p.key) else None)) f → NeverHappens most v k f
    by true e (inl same) = subst (NeverHappens most v k) same (still v k.flow a p.key is k.acceptable (and_right (is_runnable p.class) (never_runs a p.key) e))
    by true e (inr more) = absurd cc
    by false e h = absurd cc

root_never : (most : ℕ) (v : Service) (k : IsAccepted most v) (a : Alive) → IsAliveOf v k.flow a → (p : Fixed) (f : Finding) → Among (option_to_list (root_of a (k.flow).configs p)) f → NeverHappens most v k f
root_never most v k a is p f h = by (is_runnable p.class && never_runs a p.key) (is_link p.class) (waits_beyond (k.flow).configs p) refl h
  where
    by : (b d x : Bool) → (is_runnable p.class && never_runs a p.key) ≡ b → Among (option_to_list (if b then Some (finding.Idle p.key) else if d then (if x then None else of_link a p) else None)) f → NeverHappens most v k f
    by true d x e (inl same) = subst (NeverHappens most v k) same (still v k.flow a p.key is k.acceptable (and_right (is_runnable p.class) (never_runs a p.key) e))
    by true d x e (inr more) = absurd cc
    by false true true e h = absurd cc
    by false true false e h = link_never most v k a is p f h
    by false false x e h = absurd cc

silent_never : (most : ℕ) (v : Service) (k : IsAccepted most v) (a : Alive) → IsAliveOf v k.flow a → (p : Fixed) (t : Option EventType) (d : Option Value) (f : Finding) → Among (option_to_list (unsaid a p t d)) f → NeverHappens most v k f
silent_never most v k a is p t d f h = by (unsaid a p t d) refl h
  where
    by : (m : Option Finding) → unsaid a p t d ≡ m → Among (option_to_list m) f → NeverHappens most v k f
    by (Some g) e (inl same) = subst (NeverHappens most v k) same (unsaid_never most v k a is p t d g e)
    by (Some g) e (inr more) = absurd cc
    by None e h = absurd cc

either : {A : Type 0} (f : A) (xs ys : List A) → Among (xs ++ ys) f → Among xs f ⊎ Among ys f
either f [] ys h = inr h
either f (x ∷ xs) ys (inl e) = inl (inl e)
either {A} f (x ∷ xs) ys (inr m) = by (either f xs ys m)
  where
    by : Among xs f ⊎ Among ys f → Among (x ∷ xs) f ⊎ Among ys f
    by (inl h) = inl (inr h)
    by (inr h) = inr h

all_of_link_never : (most : ℕ) (v : Service) (k : IsAccepted most v) (a : Alive) → IsAliveOf v k.flow a → (p : Fixed) (f : Finding) → Among (all_of_link a p) f → NeverHappens most v k f
all_of_link_never most v k a is p f h =
    by (either f (option_to_list (unsaid a p (as_event (held attribute.EventType p.properties)) (as_value (held attribute.EventData p.properties)))) (option_to_list (unmoved a p)) h)
  where
    by : Among (option_to_list (unsaid a p (as_event (held attribute.EventType p.properties)) (as_value (held attribute.EventData p.properties)))) f ⊎ Among (option_to_list (unmoved a p)) f → NeverHappens most v k f
    by (inl h) = silent_never most v k a is p (as_event (held attribute.EventType p.properties)) (as_value (held attribute.EventData p.properties)) f h
    by (inr h) = unmoved_never most v k a is p f h

all_never : (most : ℕ) (v : Service) (k : IsAccepted most v) (a : Alive) → IsAliveOf v k.flow a → (p : Fixed) (f : Finding) → Among (all_of a p) f → NeverHappens most v k f
all_never most v k a is p f h = by (is_link p.class) (either f (option_to_list (idle a p)) (if is_link p.class then all_of_link a p else []) h)
  where
    by : (b : Bool) → Among (option_to_list (idle a p)) f ⊎ Among (if b then all_of_link a p else []) f → NeverHappens most v k f
    by b (inl h) = idle_never most v k a is p f h
    by true (inr h) = all_of_link_never most v k a is p f h
    by false (inr h) = absurd cc

part_never : (most : ℕ) (v : Service) (k : IsAccepted most v) (a : Alive) → IsAliveOf v k.flow a → (all : Bool) (p : Fixed) (f : Finding) → Among (found_of all a (k.flow).configs p) f → NeverHappens most v k f
part_never most v k a is true p f h = all_never most v k a is p f h
part_never most v k a is false p f h = root_never most v k a is p f h

parts_never : (most : ℕ) (v : Service) (k : IsAccepted most v) (a : Alive) → IsAliveOf v k.flow a → (all : Bool) (ps : List Fixed) (f : Finding) → Among (flat_map (found_of all a (k.flow).configs) ps) f → NeverHappens most v k f
parts_never most v k a is all ps f h =
    let q = from_joined (found_of all a (k.flow).configs) ps f h in part_never most v k a is all q.0 f q.2

group_never : (most : ℕ) (v : Service) (k : IsAccepted most v) (a : Alive) → IsAliveOf v k.flow a → (all : Bool) (ps : List Fixed) (f : Finding) → Among (of_group all a (k.flow).configs ps) f → NeverHappens most v k f
group_never most v k a is all [] f h = absurd cc
group_never most v k a is all (p ∷ ps) f h = by (is_unreached (k.flow).configs p.key.group) all refl h
  where
    by : (b e : Bool) → is_unreached (k.flow).configs p.key.group ≡ b → Among (if b then finding.Unreached p.key ∷ beyond e a (k.flow).configs (p ∷ ps) else flat_map (found_of e a (k.flow).configs) (p ∷ ps)) f → NeverHappens most v k f
    by true e never (inl same) = subst (NeverHappens most v k) same (outside most v k p.key.group never)
    by true true never (inr more) = parts_never most v k a is true (p ∷ ps) f more
    by true false never (inr more) = absurd cc
    by false e never h = parts_never most v k a is e (p ∷ ps) f h

pub findings_never : FindingsNeverHappen
findings_never most v k a is all =
    among_each (NeverHappens most v k) (findings all v (k.flow).configs a)
    (λ f h. let g = from_joined (λ (x : List ℕ × List Fixed). of_group all a (k.flow).configs x.1) v.groups f h in group_never most v k a is all g.0.1 f g.2)
