-- What never happens, by weights: an action that is none of those that may come is marked with more than the whole budget,
-- and effects that are not in the set cost so much the more; the start and all inputs cost as much as without marks.
use Rattle.std.specs.Prelude.{◌≡◌, ◌≤◌, ◌<◌, ◌⊎◌, ◌==◌, Option, Some, None, ℕ, zero, suc, ◌+◌, max, Bool, true, false, if◌then◌else◌, List, [], ◌∷◌, filter, slice_get}
use Rattle.std.specs.List.{list_all}
use Rattle.std.proofs.Common.{arith, inl, inr, refl, ap, ◌∙◌, sym, subst}
use Rattle.std.proofs.Math.Nat.{le-max_left, le-max_right, max-le}
use Rattle.mh_model.specs.declared.act.Act.{Act}
use Rattle.mh_model.specs.declared.config.Config.{Config}
use Rattle.mh_model.specs.declared.item.Item.{Item}
use Rattle.mh_model.specs.declared.item.Item.TheVariants as item
use Rattle.mh_model.specs.declared.object.Fixed.{Fixed}
use Rattle.mh_model.specs.Configuration.{present, starting}
use Rattle.mh_model.specs.Reference.{same_ref}
use Rattle.mh_model.specs.Service.{Service}
use Rattle.mh_model.specs.State.{State}
use Rattle.mh_laws.specs.Budget.{AreBounds, IsAccepted, bounds}
use Rattle.mh_laws.specs.Costs.{Costing, Effect, act, acts_price, effect_at, effect_price, enter, input_price}
use Rattle.mh_laws.specs.Each.{Among, Each}
use Rattle.mh_laws.specs.Flow.{Flow, reached}
use Rattle.mh_laws.specs.Headline.{begun_with}
use Rattle.mh_laws.specs.Layers.{IsOn, costs}
use Rattle.mh_never.specs.Never.{IsAwakeOn, CountsLiving, Living, IsClosed, HoldsOfLiving, IsSo, AreSo, NeverOthers}
use Rattle.mh_laws.specs.Price.{Price, Nothing, One, Node, Plus, Most, Nodes, most_price, worth}
use Rattle.mh_laws.specs.Safe.{behind, config_of}
use Rattle.mh_laws.specs.Weighing.{CoversAll, IsActiveCovered, Weights, acts_cost, item_cost, work_cost}
use Rattle.mh_model.proofs.ListLemmas.{and_left, and_right, some_same}
use Rattle.mh_model.specs.declared.input.Input.{Input}
use Rattle.mh_model.specs.declared.input.Move.{Move}
use Rattle.mh_model.specs.declared.input.Move.TheVariants as move
use Rattle.mh_model.specs.declared.object.Object.{Object}
use Rattle.mh_model.specs.declared.program.Call.{Call}
use Rattle.mh_model.specs.declared.program.Outcome.{Outcome}
use Rattle.mh_model.specs.declared.program.Signature.{Signature}
use Rattle.mh_model.specs.Limits.{most_steps}
use Rattle.mh_model.specs.Receiver.{IsCountedStep, IsMoved, IsStepWith, anything, call_next, told}
use Rattle.mh_model.specs.State.{all}
use Rattle.mh_model.specs.Step.{obstacle, posted, step}
use Rattle.mh_laws.specs.Budget.{Bounds, IsPaidRun, paid}
use Rattle.mh_never.specs.Running.{Doings, IsRunClosed, Runners, RunsOnly}
use Rattle.mh_base.specs.declared.event.EventType.TheVariants as event
use Rattle.mh_base.specs.declared.value.Value.TheVariants as value
use Rattle.mh_model.specs.declared.event.Event.{Event}
use Rattle.mh_model.specs.declared.input.Waiting.{Waiting}
use Rattle.mh_model.specs.declared.input.Waiting.TheVariants as waiting
use Rattle.mh_model.specs.declared.key.Key.{Key}
use Rattle.mh_model.specs.Items.{matches}
use Rattle.mh_model.specs.Reference.{group_ref}
use Rattle.mh_model.specs.Service.{parts}
use Rattle.mh_model.specs.Step.{key_event}
use Rattle.mh_never.specs.Never.{AllPutLiving, IsWakeClosed, ItemsPutLiving, PutsLiving, WaitingPutsLiving}
use Rattle.mh_laws.specs.Budget.{queue_cost}
use Rattle.mh_laws.specs.Costs.{entry, item_price}
use Rattle.mh_laws.specs.Ways.{Sure}
use Rattle.mh_never.specs.Saying.{IsSaidClosed, IsSaidIn, IsWaitIn, Sayings, SaysOnly}
use Rattle.mh_laws.proofs.BudgetLemmas.{IsMayWait}
use Rattle.mh_laws.proofs.FiredLemmas.{matching_hears, matching_runs}
use Rattle.mh_laws.proofs.ReadyLemmas.{IsMayItem}
use Rattle.mh_never.proofs.FiringLemmas.{effect_whole, light_nodes, next_living, nodes_each_most, one_at_least}
use Rattle.mh_never.proofs.RegisterLemmas.{scene_heard}
use Rattle.mh_never.proofs.SaidLemmas.{begun_says, posted_says, step_says, told_says}
use Rattle.mh_never.proofs.SayingLemmas.{first_item_said, first_wait}
use Rattle.mh_laws.proofs.StateLemmas.{parts_present}
use Rattle.mh_laws.specs.Weighing.{IsAwake, hears_key}
use Rattle.mh_laws.proofs.BudgetLemmas.{Plays, each_is_paid, from_here, posted_serves, six_bounds, start_sum, step_serves}
use Rattle.mh_laws.proofs.MindLemmas.{attends_of, posted_minds, step_minds}
use Rattle.mh_laws.proofs.ReadyLemmas.{first_item, free_first, ready_item, ready_state}
use Rattle.mh_laws.proofs.RunLemmas.{IsReadied, posted_spent, spent, step_spent}
use Rattle.mh_never.proofs.RunningLemmas.{begun_runs, posted_runs, step_runs, told_runs}
use Rattle.mh_laws.proofs.StepLemmas.{safe_by_begun_with, safe_by_posted, safe_by_step, safe_by_told}
use Rattle.mh_laws.proofs.TakenLemmas.{first_waits}
use Rattle.mh_laws.proofs.EachLemmas.{among_each, among_filtered, each_joined}
use Rattle.mh_laws.proofs.LayerLemmas.{lower_nodes}
use Rattle.mh_laws.proofs.NodeLemmas.{among_is, is_on}
use Rattle.mh_laws.proofs.PriceLemmas.{le_same, le_trans, nodes_map, nodes_most, worth_same}
use Rattle.mh_laws.proofs.SetLemmas.{same_itself}

-- So many times, and with so many times as much more for each layer

abbrev times : ℕ → ℕ → ℕ
times zero a = 0
times (suc n) a = a + times n a

abbrev grown : ℕ → ℕ → ℕ → ℕ
grown k zero a = a
grown k (suc r) a = grown k r a + times k a

times_sum : (n a b : ℕ) → times n (a + b) ≡ times n a + times n b
times_sum zero a b = omega arith
times_sum (suc n) a b = let h = times_sum n a b in omega (arith, h)

times_more : (n a b : ℕ) → a ≤ b → times n a ≤ times n b
times_more zero a b h = le_same 0
times_more (suc n) a b h = let k = times_more n a b h in omega (arith, h, k)

times_least : (n a : ℕ) → 1 ≤ a → n ≤ times n a
times_least zero a h = le_same 0
times_least (suc n) a h = let k = times_least n a h in omega (arith, h, k)

grown_sum : (k r a b : ℕ) → grown k r (a + b) ≡ grown k r a + grown k r b
grown_sum k zero a b = refl
grown_sum k (suc r) a b = let h = grown_sum k r a b in let t = times_sum k a b in omega (arith, h, t)

grown_more : (k r a b : ℕ) → a ≤ b → grown k r a ≤ grown k r b
grown_more k zero a b h = h
grown_more k (suc r) a b h = let g = grown_more k r a b h in let t = times_more k a b h in omega (arith, g, t)

grown_least : (k r a : ℕ) → a ≤ grown k r a
grown_least k zero a = le_same a
grown_least k (suc r) a = let g = grown_least k r a in omega (arith, g)

grown_deeper : (k r n a : ℕ) → r ≤ n → grown k r a ≤ grown k n a
grown_deeper k zero n a h = grown_least k n a
grown_deeper k (suc r) zero a h = absurd (omega (arith, h))
grown_deeper k (suc r) (suc n) a h = let g = grown_deeper k r n a (less r n h) in omega (arith, g)
  where
    less : (r n : ℕ) → suc r ≤ suc n → r ≤ n
    less r n h = omega (arith, h)

-- a price whose nodes are no more than grown is no more than grown
grown_worth : (k r : ℕ) (f g : Costing) (p : Price Effect) → Nodes (λ y. f y ≤ grown k r (g y)) p → worth f p ≤ grown k r (worth g p)
grown_worth k r f g Nothing h = omega arith
grown_worth k r f g One h = grown_least k r 1
grown_worth k r f g (Node y) h = h
grown_worth k r f g (Plus p q) h =
    let a = grown_worth k r f g p h.0 in
    let b = grown_worth k r f g q h.1 in
    let both = grown_sum k r (worth g p) (worth g q) in
    omega (arith, a, b, both)
grown_worth k r f g (Most p q) h =
    max-le (le_trans _ _ _ (grown_worth k r f g p h.0) (grown_more k r (worth g p) (max (worth g p) (worth g q)) (le-max_left _ _)))
    (le_trans _ _ _ (grown_worth k r f g q h.1) (grown_more k r (worth g q) (max (worth g p) (worth g q)) (le-max_right _ _)))

-- The weights

abbrev heavy_cost : ℕ → Living → (Effect → ℕ) → Costing → Costing
heavy_cost k lives rank g x = if lives x then g x else grown k (suc (rank x)) (g x)

abbrev heavy : ℕ → Living → (Effect → ℕ) → Costing → Doings → Runners → Sayings → Weights
heavy k lives rank g q u y = record { cost = heavy_cost k lives rank g; mark = λ c a. if q c a then 0 else k; wakes = u; may = y }

living_same : (k : ℕ) (lives : Living) (rank : Effect → ℕ) (g : Costing) (x : Effect) → lives x ≡ true → heavy_cost k lives rank g x ≡ g x
living_same k lives rank g x e = ap (λ (t : Bool). if t then g x else grown k (suc (rank x)) (g x)) e

living_worth : (k : ℕ) (lives : Living) (rank : Effect → ℕ) (g : Costing) (p : Price Effect) → CountsLiving lives p → worth (heavy_cost k lives rank g) p ≡ worth g p
living_worth k lives rank g p h =
    worth_same (heavy_cost k lives rank g) g p (nodes_map (λ y. lives y ≡ true) (λ y. heavy_cost k lives rank g y ≡ g y) (λ y e. living_same k lives rank g y e) p h)

lower_cost : (k : ℕ) (lives : Living) (rank : Effect → ℕ) (g : Costing) (r : ℕ) (y : Effect) → rank y < r → heavy_cost k lives rank g y ≤ grown k r (g y)
lower_cost k lives rank g r y less = by (lives y)
  where
    by : (t : Bool) → (if t then g y else grown k (suc (rank y)) (g y)) ≤ grown k r (g y)
    by true = grown_least k r (g y)
    by false = grown_deeper k (suc (rank y)) r (g y) less

-- The effects are covered

living_acts : (v : Service) (w : Flow) (k : ℕ) (lives : Living) (rank : Effect → ℕ) (g : Costing) (q : Config → Act → Bool) (u : Runners) (y : Sayings) (c : Config) (e : List Act) → CountsLiving lives (acts_price v w c e) → list_all (q c) e ≡ true → acts_cost v w (heavy k lives rank g q u y) c e ≤ worth g (acts_price v w c e)
living_acts v w k lives rank g q u y c [] h so = le_same 0
living_acts v w k lives rank g q u y c (a ∷ e) h so =
    let own = living_worth k lives rank g (act v w c a) h.0 in
    let none : (if q c a then 0 else k) ≡ 0 = ap (λ (t : Bool). if t then 0 else k) (and_left (q c a) (list_all (q c) e) so) in
    let rest = living_acts v w k lives rank g q u y c e h.1 (and_right (q c a) (list_all (q c) e) so) in
    added _ _ _ _ _ own none rest
  where
    added : (x y m r s : ℕ) → x ≡ y → m ≡ 0 → r ≤ s → x + m + r ≤ y + s
    added x y m r s a b d = omega (arith, a, b, d)

dead_acts : (v : Service) (w : Flow) (k : ℕ) (lives : Living) (rank : Effect → ℕ) (g : Costing) (q : Config → Act → Bool) (u : Runners) (y : Sayings) (c : Config) (r : ℕ) (e : List Act) → Nodes (λ y. rank y < r) (acts_price v w c e) → acts_cost v w (heavy k lives rank g q u y) c e ≤ grown k (suc r) (worth g (acts_price v w c e))
dead_acts v w k lives rank g q u y c r [] h = nothing _
  where
    nothing : (n : ℕ) → 0 ≤ n
    nothing n = omega arith
dead_acts v w k lives rank g q u y c r (a ∷ e) h =
    let own = grown_worth k r (heavy_cost k lives rank g) g (act v w c a) (nodes_map (λ y. rank y < r) (λ y. heavy_cost k lives rank g y ≤ grown k r (g y)) (λ y less. lower_cost k lives rank g r y less) (act v w c a) h.0) in
    let mark = marked (q c a) in
    let enough = times_least k (worth g (act v w c a)) (one_at_least v w g c a) in
    let rest = dead_acts v w k lives rank g q u y c r e h.1 in
    let both = grown_sum k (suc r) (worth g (act v w c a)) (worth g (acts_price v w c e)) in
    added _ _ _ _ _ _ _ _ own mark enough rest both
  where
    marked : (t : Bool) → (if t then 0 else k) ≤ k
    marked true = omega arith
    marked false = le_same k

    added : (x gx m n tx y gy gxy : ℕ) → x ≤ gx → m ≤ n → n ≤ tx → y ≤ gy → gxy ≡ gx + tx + gy → x + m + y ≤ gxy
    added x gx m n tx y gy gxy a b d e h = omega (arith, a, b, d, e, h)

heavy_covers : (most : ℕ) (v : Service) (k : IsAccepted most v) (u : Runners) (y : Sayings) (lives : Living) → IsClosed v k.flow u lives → (q : Config → Act → Bool) → HoldsOfLiving v k.flow u lives q → (n : ℕ) → CoversAll v k.flow (heavy n lives k.rank (costs v k.flow k.rank) q u y)
heavy_covers most v k u y lives closed q holds n c reached_it = among_each (IsActiveCovered v k.flow weights c (present v c)) (present v c) one
  where
    g : Costing
    g = costs v k.flow k.rank

    weights : Weights
    weights = heavy n lives k.rank g q u y

    one : (p : Fixed) → Among (present v c) p → IsActiveCovered v k.flow weights c (present v c) p
    one p there active awake m less = by (lives x) refl
      where
        x : Effect
        x = record { config = c; object = p.key; number = m }

        on : IsOn v k.flow x
        on = is_on v k.flow c p m reached_it there active less

        awake_on : IsAwakeOn v k.flow u c p m
        awake_on = record { among = reached_it; there = there; active = active; awake = awake; less = less }

        e : List Act
        e = effect_at p m

        whole : worth g (acts_price v k.flow c e) ≤ g x
        whole = effect_whole most v k c p m there on

        by : (t : Bool) → lives x ≡ t → acts_cost v k.flow weights c e ≤ (if t then g x else grown n (suc (k.rank x)) (g x))
        by true is = le_trans _ _ _ (living_acts v k.flow n lives k.rank g q u y c e (closed.causes c p m awake_on is) (holds c p m awake_on is)) whole
        by false is =
            let lower = nodes_map (λ y. IsOn v k.flow y × (k.rank y < k.rank x)) (λ y. k.rank y < k.rank x) (λ y h. h.1) (effect_price v k.flow x) (lower_nodes v k.flow k.rank x (k.acceptable).service k.layering on) in
            let own = among_filtered (λ (z : Fixed). same_ref p.key z.key) (present v c) p (same_itself p.key) there in
            let nodes = nodes_each_most (λ y. k.rank y < k.rank x) (λ (z : Fixed). acts_price v k.flow c (effect_at z m)) (filter (λ (z : Fixed). same_ref p.key z.key) (present v c)) p lower own in
            le_trans _ _ _ (dead_acts v k.flow n lives k.rank g q u y c (k.rank x) e nodes) (grown_more n (suc (k.rank x)) (worth g (acts_price v k.flow c e)) (g x) whole)

-- and the bounds are those without marks
heavy_bounds : (most : ℕ) (v : Service) (k : IsAccepted most v) (u : Runners) (y : Sayings) (lives : Living) → IsClosed v k.flow u lives → (q : Config → Act → Bool) (n : ℕ) → AreBounds v k.flow (heavy n lives k.rank (costs v k.flow k.rank) q u y).cost (bounds k)
heavy_bounds most v k u y lives closed q n = record {
  start = equal _ _ (living_worth n lives k.rank g (enter v k.flow (starting v) v.start) closed.start);
  inputs = λ i. within _ _ _ (living_worth n lives k.rank g (most_price (λ c. input_price v k.flow c i) (k.flow).configs) (nodes_most (λ y. lives y ≡ true) (λ c. input_price v k.flow c i) (k.flow).configs (λ c h. closed.inputs c (among_is (k.flow).configs c h) i))) ((six_bounds v k.flow g).inputs i);
}
  where
    g : Costing
    g = costs v k.flow k.rank

    equal : (a b : ℕ) → a ≡ b → a ≤ b
    equal a b h = omega (arith, h)

    within : (a b d : ℕ) → a ≡ b → b ≤ d → a ≤ d
    within a b d h l = omega (arith, h, l)

-- Runs in which nothing runs but what may

record Quiet (v : Service) (w : Flow) (u : Runners) (y : Sayings) (s : State) : Type 0 where
  plays : Plays v w s
  runs : RunsOnly u s
  says : SaysOnly y s

-- the links that hear an event of the set are awake
heard_awake : (v : Service) (w : Flow) (u : Runners) (y : Sayings) (z : Runners) → IsWakeClosed v w u y z → (c : Config) → reached w c ≡ true → (e : Event) → y e ≡ true → (os : List Object) → ((p : Fixed) → Among (parts os) p → Among (present v c) p) → Each (λ (o : Object). o.body.running ≡ true → u o.fixed.key ≡ true) os → Each (λ (o : Object). matches e o ≡ true → z o.fixed.key ≡ true) os
heard_awake v w u y z closed c among e says [] into h = tt
heard_awake v w u y z closed c among e says (o ∷ os) into h =
    (λ is. closed.hears c among o.fixed (into o.fixed (inl refl)) (h.0 (matching_runs e o is)) e says (matching_hears e o is), heard_awake v w u y z closed c among e says os (λ p there. into p (inr there)) h.1)

awake_now : {q : Doings} (v : Service) (w : Flow) (u : Runners) (y : Sayings) (z : Runners) → IsSaidClosed v w q y → IsWakeClosed v w u y z → (f : Weights) → f.wakes ≡ z → f.may ≡ y → (s : State) → Quiet v w u y s → IsAwake f s
awake_now v w u y z said closed f wakes may s p = subst (λ (t : Weights). IsAwake t s) (sym same) (record { heard = heard; keys = keys; engine = λ n. said.usual (group_ref s.application) event.EngineEvent (Some (value.Int n)) refl })
  where
    own : Weights
    own = record { cost = f.cost; mark = f.mark; wakes = z; may = y }

    same : f ≡ own
    same = λ i. record { cost = f.cost; mark = f.mark; wakes = wakes i; may = may i }

    there : (q : Fixed) → Among (parts (all s.objects)) q → Among (present v (config_of s)) q
    there q h = subst (λ (x : Service). Among (present x (config_of s)) q) (p.plays).service (subst (λ (ps : List Fixed). Among ps q) (parts_present s (p.plays).safe) h)

    heard : (e : Event) → y e ≡ true → Each (λ (o : Object). matches e o ≡ true → z o.fixed.key ≡ true) (all s.objects)
    heard e says =
        heard_awake v w u y z closed (config_of s) ((p.plays).safe).among e says (all s.objects) there
        (each_joined (λ (o : Object). o.body.running ≡ true → u o.fixed.key ≡ true) s.objects.application s.objects.scene ((p.runs).objects).0 ((p.runs).objects).1)

    keys : (x : Key) (g : List ℕ) → s.scene ≡ Some g → hears_key s g x ≡ true → y (key_event x (group_ref g)) ≡ true
    keys x g there heard = scene_heard y s (p.says).keys (p.plays).safe x g there heard

may_item_now : (y : Sayings) (f : Weights) → f.may ≡ y → (i : Item) → IsSaidIn y i → IsMayItem f i
may_item_now y f same (item.Emit e) h = ap (λ (t : Sayings). t e) same ∙ h
may_item_now y f same (item.Act a) h = tt
may_item_now y f same (item.Prepare r) h = tt
may_item_now y f same (item.Run r) h = tt
may_item_now y f same (item.Halt r) h = tt
may_item_now y f same (item.RunMember r) h = tt
may_item_now y f same (item.HaltMember r) h = tt
may_item_now y f same (item.Drop r) h = tt
may_item_now y f same (item.Enter g) h = tt
may_item_now y f same (item.Exchange g) h = tt
may_item_now y f same item.End h = tt

may_wait_now : (y : Sayings) (f : Weights) → f.may ≡ y → (x : Waiting) → IsWaitIn y x → IsMayWait f x
may_wait_now y f same (waiting.Event e) h = ap (λ (t : Sayings). t e) same ∙ h
may_wait_now y f same (waiting.Input i) h = tt

-- all that a step needs is known
quiet_ready : {q : Doings} (v : Service) (w : Flow) (u : Runners) (y : Sayings) (z : Runners) (f : Weights) (b : Bounds) → f.wakes ≡ z → f.may ≡ y → IsSaidClosed v w q y → IsWakeClosed v w u y z → CoversAll v w f → AreBounds v w f.cost b → IsReadied w f b (Quiet v w u y)
quiet_ready v w u y z f b wakes may said woken covers bounded = record {
  ready = λ s p. ready_state f s (p.plays).safe (covers_now s p) (awake_now v w u y z said woken f wakes may s p);
  attends = λ s p. attends_of w s (p.plays).safe (p.plays).minds;
  bounds = λ s p. subst (λ (x : Service). AreBounds x w f.cost b) (sym (p.plays).service) bounded;
  item = λ s p i e. ready_item f s (p.plays).safe (covers_now s p) (awake_now v w u y z said woken f wakes may s p) i (may_item_now y f may i (first_item_said y s i e (p.says).work)) (first_item s (p.plays).safe i e);
  free = λ s p i e. free_first s (p.plays).safe i e;
  waits = λ s p x e. from_here f s x (first_waits (present s.service (config_of s)) s.queue x e ((p.plays).safe).queue).0 (may_wait_now y f may x (first_wait y s.queue x e (p.says).queue));
}
  where
    covers_now : (s : State) → Quiet v w u y s → CoversAll s.service w f
    covers_now s p = subst (λ (x : Service). CoversAll x w f) (sym (p.plays).service) covers

quiet_told : (v : Service) (w : Flow) (u : Runners) (y : Sayings) (s : State) → Quiet v w u y s → (o : Outcome) → Quiet v w u y (told o s)
quiet_told v w u y s p o = record {
  plays = record { safe = safe_by_told s (p.plays).safe o; minds = record { timers = ((p.plays).minds).timers; readers = ((p.plays).minds).readers; late = ((p.plays).minds).late; awaited = ((p.plays).minds).awaited }; service = (p.plays).service };
  runs = told_runs u s o p.runs;
  says = told_says y s o p.says;
}

quiet_posted : (v : Service) (w : Flow) (u : Runners) (y : Sayings) (s : State) → Quiet v w u y s → (i : Input) → Quiet v w u y (posted i s)
quiet_posted v w u y s p i = record {
  plays = record { safe = safe_by_posted s (p.plays).safe i; minds = posted_minds w s i (p.plays).minds; service = posted_serves i s ∙ (p.plays).service };
  runs = posted_runs u s i p.runs;
  says = posted_says y s i p.says;
}

-- where what comes first may come
quiet_stepped : (v : Service) (w : Flow) (q : Doings) (u : Runners) (y : Sayings) → IsRunClosed v w q u → IsSaidClosed v w q y → (s : State) → Quiet v w u y s → ((i : Item) → slice_get s.work 0 ≡ Some i → IsSo q (config_of s) i) → Quiet v w u y (step s)
quiet_stepped v w q u y closed said s p comes = record {
  plays = record { safe = safe_by_step s (p.plays).safe; minds = step_minds w s (p.plays).safe (p.plays).minds; service = step_serves s (p.plays).safe ∙ (p.plays).service };
  runs = step_runs u s (p.plays).safe (subst (λ (x : Service). IsRunClosed x w q u) (sym (p.plays).service) closed) comes p.runs;
  says = step_says y s (p.plays).safe (subst (λ (x : Service). IsSaidClosed x w q y) (sym (p.plays).service) said) comes p.says;
}

-- A budget for anything that holds on where less than so much is spent

record IsHeld (w : Flow) (f : Weights) (b : Bounds) (top : ℕ) (Safe : State → Type 0) : Type 0 where
  readied : IsReadied w f b Safe
  told : (s : State) → Safe s → (o : Outcome) → Safe (told o s)
  posted : (s : State) → Safe s → (i : Input) → Safe (posted i s)
  stepped : (s : State) → Safe s → spent w f b s < top → Safe (step s)

abbrev Within : Flow → Weights → Bounds → (State → Type 0) → ℕ → State → Type 0
Within w f b Safe budget s = Safe s × (spent w f b s ≤ budget)

held_step : (w : Flow) (f : Weights) (b : Bounds) (top : ℕ) (Safe : State → Type 0) → IsHeld w f b top Safe → (budget : ℕ) → budget < top → (s : State) → Within w f b Safe budget s → Within w f b Safe budget (step s)
held_step w f b top Safe k budget below s h = (k.stepped s h.0 (under _ _ _ h.1 below), le_trans _ _ _ (step_spent w f b Safe k.readied s h.0) h.1)
  where
    under : (a n m : ℕ) → a ≤ n → n < m → a < m
    under a n m h l = omega (arith, h, l)

held_moved : (w : Flow) (f : Weights) (b : Bounds) (top : ℕ) (Safe : State → Type 0) → IsHeld w f b top Safe → (ss : List Signature) (m : Move) (budget : ℕ) → budget < top → (s t : State) → Within w f b Safe budget s → IsMoved ss anything m s t → Within w f b Safe (budget + paid b m s) t
held_moved w f b top Safe k ss (move.Post i) budget below s t h so =
    subst (Within w f b Safe (budget + paid b (move.Post i) s)) (sym so) (k.posted s h.0 i, more _ _ _ _ (posted_spent w f b s i (obstacle i s)) h.1)
  where
    more : (x y p n : ℕ) → x ≤ y + p → y ≤ n → x ≤ n + p
    more x y p n a c = omega (arith, a, c)
held_moved w f b top Safe k ss move.Step budget below s t h so = by (s.taken == most_steps) so
  where
    same : (u : State) → Within w f b Safe budget u → Within w f b Safe (budget + 0) u
    same u g = (g.0, plus _ _ g.1)
      where
        plus : (x n : ℕ) → x ≤ n → x ≤ n + 0
        plus x n a = omega (arith, a)

    with : (c : Option Call) → IsStepWith anything c s t → Within w f b Safe (budget + 0) t
    with None e = subst (Within w f b Safe (budget + 0)) (sym e) (same (step s) (held_step w f b top Safe k budget below s h))
    with (Some c) e = subst (Within w f b Safe (budget + 0)) (sym e.2) (same (step (told e.0 s)) (held_step w f b top Safe k budget below (told e.0 s) (k.told s h.0 e.0, h.1)))

    by : (x : Bool) → IsCountedStep x ss anything s t → Within w f b Safe (budget + 0) t
    by true e = subst (Within w f b Safe (budget + 0)) (sym e) (same s h)
    by false e = with (call_next ss s) e

-- a budget never shrinks
paid_least : (b : Bounds) (ss : List Signature) (ms : List Move) (n m : ℕ) (s t : State) → IsPaidRun b ss anything ms n s m t → n ≤ m
paid_least b ss [] n m s t so = equal _ _ so.1
  where
    equal : (a d : ℕ) → d ≡ a → a ≤ d
    equal a d e = omega (arith, e)
paid_least b ss (x ∷ ms) n m s t so = less _ _ _ (paid_least b ss ms (n + paid b x s) m so.0 t so.2)
  where
    less : (a d e : ℕ) → a + d ≤ e → a ≤ e
    less a d e h = omega (arith, h)

held_run : (w : Flow) (f : Weights) (b : Bounds) (top : ℕ) (Safe : State → Type 0) → IsHeld w f b top Safe → (ss : List Signature) (ms : List Move) (n m : ℕ) → m < top → (s t : State) → Within w f b Safe n s → IsPaidRun b ss anything ms n s m t → Within w f b Safe m t
held_run w f b top Safe k ss [] n m below s t h so = subst (λ (x : State). Within w f b Safe m x) (sym so.0) (subst (λ (x : ℕ). Within w f b Safe x s) (sym so.1) h)
held_run w f b top Safe k ss (x ∷ ms) n m below s t h so =
    held_run w f b top Safe k ss ms (n + paid b x s) m below so.0 t (held_moved w f b top Safe k ss x n (under _ _ _ (paid_least b ss (x ∷ ms) n m s t so) below) s so.0 h so.1) so.2
  where
    under : (a n m : ℕ) → a ≤ n → n < m → a < m
    under a n m h l = omega (arith, h, l)

-- No more than the budget is left, so that nothing on the work list is marked.

unmarked_item : (v : Service) (w : Flow) (n : ℕ) (lives : Living) (rank : Effect → ℕ) (g : Costing) (q : Config → Act → Bool) (u : Runners) (y : Sayings) (c : Config) (i : Item) → item_cost v w (heavy n lives rank g q u y) c i < n → IsSo q c i
unmarked_item v w n lives rank g q u y c (item.Act a) less = by (q c a) (below _ _ _ less)
  where
    below : (x m n : ℕ) → x + m < n → m < n
    below x m n h = omega (arith, h)

    by : (t : Bool) → (if t then 0 else n) < n → t ≡ true
    by true h = refl
    by false h = absurd (omega (arith, h))
unmarked_item v w n lives rank g q u y c (item.Prepare r) less = tt
unmarked_item v w n lives rank g q u y c (item.Run r) less = tt
unmarked_item v w n lives rank g q u y c (item.Halt r) less = tt
unmarked_item v w n lives rank g q u y c (item.RunMember r) less = tt
unmarked_item v w n lives rank g q u y c (item.HaltMember r) less = tt
unmarked_item v w n lives rank g q u y c (item.Drop r) less = tt
unmarked_item v w n lives rank g q u y c (item.Emit e) less = tt
unmarked_item v w n lives rank g q u y c (item.Enter x) less = tt
unmarked_item v w n lives rank g q u y c (item.Exchange x) less = tt
unmarked_item v w n lives rank g q u y c item.End less = tt

unmarked_work : (v : Service) (w : Flow) (n : ℕ) (lives : Living) (rank : Effect → ℕ) (g : Costing) (q : Config → Act → Bool) (u : Runners) (y : Sayings) (c : Config) (is : List Item) → work_cost v w (heavy n lives rank g q u y) c is < n → AreSo v q c is
unmarked_work v w n lives rank g q u y c [] less = tt
unmarked_work v w n lives rank g q u y c (i ∷ is) less =
    (unmarked_item v w n lives rank g q u y c i (first _ _ _ less), unmarked_work v w n lives rank g q u y (behind v c i) is (second _ _ _ less))
  where
    first : (a b n : ℕ) → a + b < n → a < n
    first a b n h = omega (arith, h)

    second : (a b n : ℕ) → a + b < n → b < n
    second a b n h = omega (arith, h)

-- what comes first may come
first_so : (v : Service) (q : Doings) (c : Config) (is : List Item) (i : Item) → slice_get is 0 ≡ Some i → AreSo v q c is → IsSo q c i
first_so v q c [] i e h = absurd cc
first_so v q c (j ∷ is) i e h = subst (IsSo q c) (some_same e) h.0

-- EFFECTS. What is within the budget counts none but living effects, and such as cost nothing.

-- a dead effect that costs something costs more than all
light_lives : (n : ℕ) (lives : Living) (rank : Effect → ℕ) (g : Costing) (y : Effect) → heavy_cost n lives rank g y < n → (lives y ≡ true) ⊎ (g y ≡ 0)
light_lives n lives rank g y h = by (lives y) (g y) refl h
  where
    by : (t : Bool) (a : ℕ) → g y ≡ a → (if t then g y else grown n (rank y) (g y) + times n (g y)) < n → (t ≡ true) ⊎ (g y ≡ 0)
    by true a e h = inl refl
    by false zero e h = inr e
    by false (suc a) e h = let many = times_least n (g y) (omega (arith, e)) in absurd (omega (arith, h, many))

puts_living : (n : ℕ) (lives : Living) (rank : Effect → ℕ) (g : Costing) (p : Price Effect) → worth (heavy_cost n lives rank g) p < n → PutsLiving g lives p
puts_living n lives rank g p h =
    nodes_map (λ y. heavy_cost n lives rank g y < n) (λ y. (lives y ≡ true) ⊎ (g y ≡ 0)) (λ y less. light_lives n lives rank g y less) p (light_nodes (heavy_cost n lives rank g) n p h)

price_within : (v : Service) (w : Flow) (n : ℕ) (lives : Living) (rank : Effect → ℕ) (g : Costing) (q : Config → Act → Bool) (u : Runners) (y : Sayings) (c : Config) (i : Item) → worth (heavy_cost n lives rank g) (item_price v w c i) ≤ item_cost v w (heavy n lives rank g q u y) c i
price_within v w n lives rank g q u y c (item.Act a) = more _ _
  where
    more : (a b : ℕ) → a ≤ a + b
    more a b = omega arith
price_within v w n lives rank g q u y c (item.Prepare r) = le_same _
price_within v w n lives rank g q u y c (item.Run r) = le_same _
price_within v w n lives rank g q u y c (item.Halt r) = le_same _
price_within v w n lives rank g q u y c (item.RunMember r) = le_same _
price_within v w n lives rank g q u y c (item.HaltMember r) = le_same _
price_within v w n lives rank g q u y c (item.Drop r) = le_same _
price_within v w n lives rank g q u y c (item.Emit e) = le_same _
price_within v w n lives rank g q u y c (item.Enter x) = le_same _
price_within v w n lives rank g q u y c (item.Exchange x) = le_same _
price_within v w n lives rank g q u y c item.End = le_same _

items_living : (v : Service) (w : Flow) (n : ℕ) (lives : Living) (rank : Effect → ℕ) (g : Costing) (q : Config → Act → Bool) (u : Runners) (y : Sayings) (c : Config) (is : List Item) → work_cost v w (heavy n lives rank g q u y) c is < n → ItemsPutLiving v w g lives c is
items_living v w n lives rank g q u y c [] h = tt
items_living v w n lives rank g q u y c (i ∷ is) h =
    (puts_living n lives rank g (item_price v w c i) (first _ _ _ _ (price_within v w n lives rank g q u y c i) h), items_living v w n lives rank g q u y (behind v c i) is (second _ _ _ h))
  where
    first : (p a b n : ℕ) → p ≤ a → a + b < n → p < n
    first p a b n l h = omega (arith, l, h)

    second : (a b n : ℕ) → a + b < n → b < n
    second a b n h = omega (arith, h)

queue_living : (v : Service) (w : Flow) (n : ℕ) (lives : Living) (rank : Effect → ℕ) (g : Costing) (b : Bounds) → ((c : Config) → reached w c ≡ true → (i : Input) → PutsLiving g lives (input_price v w c i)) → (ws : List Waiting) → queue_cost v w (heavy_cost n lives rank g) b ws < n → Each (WaitingPutsLiving v w g lives) ws
queue_living v w n lives rank g b posts [] h = tt
queue_living v w n lives rank g b posts (waiting.Event e ∷ ws) h = (puts_living n lives rank g (entry v w e.source e.kind (Sure e.data)) (first _ _ _ h), queue_living v w n lives rank g b posts ws (second _ _ _ h))
  where
    first : (a b n : ℕ) → a + b < n → a < n
    first a b n h = omega (arith, h)

    second : (a b n : ℕ) → a + b < n → b < n
    second a b n h = omega (arith, h)
queue_living v w n lives rank g b posts (waiting.Input i ∷ ws) h = (λ c among. posts c among i, queue_living v w n lives rank g b posts ws (second _ _ _ h))
  where
    second : (a b n : ℕ) → a + b < n → b < n
    second a b n h = omega (arith, h)

-- THE LAW

pub never_others : NeverOthers
never_others most v k q u runners y said z woken lives closed holds mjd fs ss ms s so = record {
  work = subst (λ (x : Service). AreSo x q (config_of s) s.work) (end.0.plays).service (so_now s (below _ _ _ _ end.1));
  running = end.0.runs;
  said = end.0.says;
  put = puts;
  fired = next_living most v k lives s (end.0.plays).safe (end.0.plays).service puts (λ i. living_posts (config_of s) ((end.0.plays).safe).among i);
}
  where
    g : Costing
    g = costs v k.flow k.rank

    paid_for : (m : ℕ) × IsPaidRun (bounds k) ss anything ms (bounds k).start (begun_with v mjd fs) m s
    paid_for = each_is_paid (bounds k) ss ms (bounds k).start (begun_with v mjd fs) s so

    n : ℕ
    n = suc paid_for.0

    f : Weights
    f = heavy n lives k.rank g q z y

    begun : Quiet v k.flow u y (begun_with v mjd fs)
    begun = record {
      plays = record { safe = safe_by_begun_with v k.acceptable mjd fs; minds = record { timers = λ x. none _; readers = refl; late = λ g h. h; awaited = tt }; service = refl };
      runs = begun_runs u v mjd fs;
      says = begun_says y v k.acceptable said mjd fs;
    }
      where
        none : (n : ℕ) → 0 ≤ n
        none n = omega arith

    bounded : AreBounds v k.flow f.cost (bounds k)
    bounded = heavy_bounds most v k z y lives closed q n

    so_now : (t : State) → work_cost t.service k.flow f (config_of t) t.work < n → AreSo t.service q (config_of t) t.work
    so_now t less = unmarked_work t.service k.flow n lives k.rank g q z y (config_of t) t.work less

    part_less : (t a b n : ℕ) → t + (a + b) < n → a < n
    part_less t a b n h = omega (arith, h)

    held : IsHeld k.flow f (bounds k) n (Quiet v k.flow u y)
    held = record {
      readied = quiet_ready v k.flow u y z f (bounds k) refl refl said woken (heavy_covers most v k z y lives closed q holds n) bounded;
      told = λ t p o. quiet_told v k.flow u y t p o;
      posted = λ t p i. quiet_posted v k.flow u y t p i;
      stepped = λ t p less. quiet_stepped v k.flow q u y runners said t p (λ i e. first_so t.service q (config_of t) t.work i e (so_now t (part_less _ _ _ _ less)));
    }

    last : (m : ℕ) → m < suc m
    last m = omega arith

    end : Within k.flow f (bounds k) (Quiet v k.flow u y) paid_for.0 s
    end = held_run k.flow f (bounds k) n (Quiet v k.flow u y) held ss ms (bounds k).start paid_for.0 (last paid_for.0) (begun_with v mjd fs) s (begun, start_sum _ _ bounded.start) paid_for.1

    below : (t a b n : ℕ) → t + (a + b) ≤ n → a < suc n
    below t a b n h = omega (arith, h)

    beside : (t a b n : ℕ) → t + (a + b) ≤ n → b < suc n
    beside t a b n h = omega (arith, h)

    living_posts : (c : Config) → reached k.flow c ≡ true → (i : Input) → PutsLiving g lives (input_price v k.flow c i)
    living_posts c among i = nodes_map (λ y. lives y ≡ true) (λ y. (lives y ≡ true) ⊎ (g y ≡ 0)) (λ y h. inl h) (input_price v k.flow c i) (closed.inputs c among i)

    puts : AllPutLiving v k.flow g lives s
    puts = record {
      work = subst (λ (x : Service). ItemsPutLiving x k.flow g lives (config_of s) s.work) (end.0.plays).service (items_living s.service k.flow n lives k.rank g q z y (config_of s) s.work (below _ _ _ _ end.1));
      queue = queue_living v k.flow n lives k.rank g (bounds k) living_posts s.queue
          (subst (λ (x : Service). queue_cost x k.flow f.cost (bounds k) s.queue < n) (end.0.plays).service (beside _ _ _ _ end.1));
    }
