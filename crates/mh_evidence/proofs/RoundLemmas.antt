-- Arrows of which each leads to the next are causes.
use Rattle.std.specs.Prelude.{◌≡◌, ◌≤◌, ◌<◌, ◌+◌, ◌-◌, ◌==◌, ℕ, zero, suc, nat_le, nat_lt, Bool, true, false, ◌&&◌, ◌||◌, List, [], ◌∷◌, filter, get_or, length, slice_get, take, Option, Some, None, refl}
use Rattle.std.specs.List.{flat_map, list_any}
use Rattle.std.specs.Option.{option_map_or}
use Rattle.std.proofs.Common.{arith, inl, inr, ap, ◌∙◌, sym, subst, length-append, leb-true, ltb-true}
use Rattle.std.proofs.lemmas.Bool.Decides.{Decides-eqb}
use Rattle.mh_base.specs.declared.obj_ref.ObjRef.{ObjRef}
use Rattle.mh_model.specs.declared.act.Act.{Act}
use Rattle.mh_model.specs.declared.object.Fixed.{Fixed}
use Rattle.mh_model.specs.Configuration.{present}
use Rattle.mh_model.specs.Reference.{same_key, same_ref}
use Rattle.mh_model.specs.Service.{Service, part_at}
use Rattle.mh_model.proofs.ListLemmas.{and_left, and_right, some_same}
use Rattle.mh_laws.specs.Active.{is_active}
use Rattle.mh_laws.specs.Costs.{Effect, act, acts_price, effect_at, effect_price, effects}
use Rattle.mh_laws.specs.Each.{Among}
use Rattle.mh_laws.specs.Flow.{Flow}
use Rattle.mh_laws.specs.Price.{Price, counted_in, most_price, sum_price}
use Rattle.mh_laws.proofs.EachLemmas.{among_filtered, among_left, among_right, contains_of, got_among}
use Rattle.mh_laws.proofs.SetLemmas.{same_itself}
use Rattle.mh_flow.proofs.PresentLemmas.{present_found}
use Rattle.mh_layers.specs.declared.arrows.arrow.Arrow.{Arrow}
use Rattle.mh_layers.specs.declared.arrows.arrow.By.{By}
use Rattle.mh_layers.specs.Arrows.{ArrowsAreCauses, counts, granted, is_action_in, is_waited_for, leads, meets, number_by, put_by, same_action, same_effect}
use Rattle.mh_layers.specs.Cycle.{first_number}
use Rattle.mh_evidence.specs.Putting.{is_putting, puts_in}
use Rattle.mh_evidence.proofs.EffectLemmas.{got_left, got_right}
use Rattle.mh_evidence.proofs.HearLemmas.{key_is, same_is}
use Rattle.mh_evidence.proofs.ArrowLemmas.{leads_told, puts_told}
use Rattle.mh_evidence.proofs.SiteLemmas.{action_at, number_asked}

-- One that passes a test is among those of which any does

found_any : {X : Type 0} (p : X → Bool) (xs : List X) → list_any p xs ≡ true → (x : X) × Among xs x × (p x ≡ true)
found_any p [] h = absurd cc
found_any {X} p (x ∷ xs) h = by (p x) refl h (found_any p xs)
  where
    by : (b : Bool) → p x ≡ b → (b || list_any p xs) ≡ true → (list_any p xs ≡ true → (y : X) × Among xs y × (p y ≡ true)) → (y : X) × Among (x ∷ xs) y × (p y ≡ true)
    by true e any behind = (x, inl refl, e)
    by false e any behind = let more = behind any in (more.0, inr more.1, more.2)

counted_there : (y : Effect) (p : Price Effect) → counts y p ≡ true → Among (counted_in p) y
counted_there y p h =
    let one = found_any (same_effect y) (counted_in p) h in
    subst (λ (z : Effect). Among (counted_in p) z) (sym (same_is y one.0 one.2)) one.1

-- What one of a list counts is counted by the sum and by the largest

counted_sum : {X : Type 0} (f : X → Price Effect) (xs : List X) (x : X) (y : Effect) → Among xs x → Among (counted_in (f x)) y → Among (counted_in (sum_price f xs)) y
counted_sum f [] x y there own = absurd cc
counted_sum {X} f (z ∷ xs) x y (inl same) own =
    among_left (counted_in (f z)) (counted_in (sum_price f xs)) y (subst (λ (t : X). Among (counted_in (f t)) y) (sym same) own)
counted_sum f (z ∷ xs) x y (inr more) own = among_right (counted_in (f z)) (counted_in (sum_price f xs)) y (counted_sum f xs x y more own)

counted_most : {X : Type 0} (f : X → Price Effect) (xs : List X) (x : X) (y : Effect) → Among xs x → Among (counted_in (f x)) y → Among (counted_in (most_price f xs)) y
counted_most f [] x y there own = absurd cc
counted_most {X} f (z ∷ xs) x y (inl same) own =
    among_left (counted_in (f z)) (counted_in (most_price f xs)) y (subst (λ (t : X). Among (counted_in (f t)) y) (sym same) own)
counted_most f (z ∷ xs) x y (inr more) own = among_right (counted_in (f z)) (counted_in (most_price f xs)) y (counted_most f xs x y more own)

-- so it is by the effect that has the action
counted_by_effect : (v : Service) (w : Flow) (x y : Effect) (p : Fixed) (a : Act) → Among (present v x.config) p → same_ref x.object p.key ≡ true → Among (effect_at p x.number) a → Among (counted_in (act v w x.config a)) y → Among (counted_in (effect_price v w x)) y
counted_by_effect v w x y p a there its has own =
    counted_most (λ (q : Fixed). acts_price v w x.config (effect_at q x.number)) (filter (λ (q : Fixed). same_ref x.object q.key) (present v x.config)) p y
    (among_filtered (λ (q : Fixed). same_ref x.object q.key) (present v x.config) p its there)
    (counted_sum (act v w x.config) (effect_at p x.number) a y has own)

-- An action that stands where an effect has its own is one of these

within_effect : (es : List (List Act)) (n i : ℕ) (a : Act) → length (flat_map (λ (e : List Act). e) (take n es)) ≤ i → i < length (flat_map (λ (e : List Act). e) (take n es)) + length (get_or es n []) → slice_get (flat_map (λ (e : List Act). e) es) i ≡ Some a → Among (get_or es n []) a
within_effect [] n i a from to at = absurd cc
within_effect (e ∷ es) zero i a from to at =
    got_among e i a (sym (got_left e (flat_map (λ (x : List Act). x) es) i (omega (arith, to))) ∙ at)
within_effect (e ∷ es) (suc n) i a from to at =
    let whole = length-append e (flat_map (λ (x : List Act). x) (take n es)) in
    within_effect es n (i - length e) a (omega (arith, from, whole)) (omega (arith, from, to, whole))
    (sym (got_right e (flat_map (λ (x : List Act). x) es) i (omega (arith, from, whole))) ∙ at)

its_action : (n : ℕ) (b : Arrow) (p : Fixed) (a : Act) → is_action_in n b p ≡ true → action_at b.index p ≡ Some a → Among (effect_at p n) a
its_action n b p a is at = by b.index refl at
  where
    begins : Bool
    begins = b.cause.index == first_number n p

    first : b.cause.index ≡ first_number n p
    first = (Decides-eqb b.cause.index (first_number n p)).0 (and_left begins (nat_le b.cause.index b.index) (and_left (begins && nat_le b.cause.index b.index) (nat_lt b.index (b.cause.index + length (effect_at p n))) is))

    from : b.cause.index ≤ b.index
    from = leb-true b.cause.index b.index (and_right begins (nat_le b.cause.index b.index) (and_left (begins && nat_le b.cause.index b.index) (nat_lt b.index (b.cause.index + length (effect_at p n))) is))

    to : b.index < b.cause.index + length (effect_at p n)
    to = ltb-true b.index (b.cause.index + length (effect_at p n)) (and_right (begins && nat_le b.cause.index b.index) (nat_lt b.index (b.cause.index + length (effect_at p n))) is)

    by : (i : ℕ) → b.index ≡ i → action_at i p ≡ Some a → Among (effect_at p n) a
    by zero e here = absurd cc
    by (suc i) e here =
        within_effect (effects p) n i a (omega (arith, first, from, e)) (omega (arith, first, to, e)) here

-- Arrows

-- what the arrow before puts to work is an effect of an object that is there, which has the action
pub met : (v : Service) (b : By) (a : Arrow) → meets v b a ≡ true → (p : Fixed) × (part_at a.cause.at (present v a.cause.config) ≡ Some p) × (is_action_in (number_by b) a p ≡ true)
met v b a h = by (part_at a.cause.at (present v a.cause.config)) refl h
  where
    by : (o : Option Fixed) → part_at a.cause.at (present v a.cause.config) ≡ o → option_map_or (λ (p : Fixed). is_waited_for b p && is_action_in (number_by b) a p) o false ≡ true → (p : Fixed) × (part_at a.cause.at (present v a.cause.config) ≡ Some p) × (is_action_in (number_by b) a p ≡ true)
    by None e is = absurd cc
    by (Some p) e is = (p, e, and_right (is_waited_for b p) (is_action_in (number_by b) a p) is)

-- the arrow's action is one of an object that is there, and counts the effect of the next
record Puts (v : Service) (a next : Arrow) : Type 0 where
  part : Fixed
  action : Act
  there : Among (present v a.cause.config) part
  its : same_key a.cause.at part.key ≡ true
  at : action_at a.index part ≡ Some action
  puts : is_putting v a next action ≡ true

putting : (v : Service) (a next : Arrow) → leads v a next ≡ true → Puts v a next
putting v a next h =
    let any = and_right (meets v a.by next) _ (sym (leads_told v a next) ∙ h) in
    let one = found_any (λ (p : Fixed). is_active (present v a.cause.config) p && puts_in v a next p) (present v a.cause.config) any in
    let puts = and_right (is_active (present v a.cause.config) one.0) (puts_in v a next one.0) one.2 in
    let told = sym (puts_told v a next one.0) ∙ puts in
    by one.0 one.1 (and_left (same_key a.cause.at one.0.key) _ told) (action_at a.index one.0) refl
    (sym (number_asked (is_putting v a next) a.index one.0) ∙ and_right (same_key a.cause.at one.0.key) _ told)
  where
    by : (p : Fixed) → Among (present v a.cause.config) p → same_key a.cause.at p.key ≡ true → (o : Option Act) → action_at a.index p ≡ o → option_map_or (is_putting v a next) o false ≡ true → Puts v a next
    by p there its None at is = absurd cc
    by p there its (Some x) at is = record { part = p; action = x; there = there; its = its; at = at; puts = is }

counts_next : (v : Service) (a next : Arrow) (x : Act) → is_putting v a next x ≡ true → counts (put_by a.by next.cause) (act v (granted v a next.cause.config x) a.cause.config x) ≡ true
unfolding is_putting
counts_next v a next x h = and_right (same_action a.action x.name) _ h

pub arrows_are_causes : ArrowsAreCauses
arrows_are_causes v before a next good keys before_leads leads =
    let puts = putting v a next leads in
    let own = met v before.by a (and_left (meets v before.by a) _ (sym (leads_told v before a) ∙ before_leads)) in
    let key : a.cause.at ≡ puts.part.key = key_is a.cause.at puts.part.key puts.its in
    let found : part_at a.cause.at (present v a.cause.config) ≡ Some puts.part =
    ap (λ (r : ObjRef). part_at r (present v a.cause.config)) key ∙ present_found v a.cause.config puts.part good keys (contains_of (present v a.cause.config) puts.part puts.there) in
    let same : own.0 ≡ puts.part = some_same (sym own.1 ∙ found) in
    let has : is_action_in (number_by before.by) a puts.part ≡ true = subst (λ (p : Fixed). is_action_in (number_by before.by) a p ≡ true) same own.2 in
    let its : same_ref a.cause.at puts.part.key ≡ true = subst (λ (r : ObjRef). same_ref a.cause.at r ≡ true) key (same_itself a.cause.at) in (
      puts.action,
      counted_by_effect v (granted v a next.cause.config puts.action) (put_by before.by a.cause) (put_by a.by next.cause) puts.part puts.action puts.there its
          (its_action (number_by before.by) a puts.part puts.action has puts.at)
          (counted_there (put_by a.by next.cause) (act v (granted v a next.cause.config puts.action) a.cause.config puts.action) (counts_next v a next puts.action puts.puts)),
    )
