-- Each item that is done costs what it takes off the list, or less.
use Rattle.std.specs.Option.{option_map, option_map_or}
use Rattle.std.specs.Prelude.{◌++◌, ◌+◌, ◌<◌, ◌∷◌, ◌≡◌, ◌≤◌, ◌⊎◌, Bool, List, None, Option, Some, [], cond, false, filter, if◌then◌else◌, length, not, ◌||◌, true, ℕ}
use Rattle.std.proofs.Common.{◌∙◌, ap, arith, inl, inr, refl, subst, sym}
use Rattle.mh_base.specs.Event.{is_sync}
use Rattle.mh_base.specs.declared.event.EventType.TheVariants as event
use Rattle.mh_base.specs.declared.obj_ref.ObjRef.{ObjRef}
use Rattle.mh_group.specs.Table.{is_link, is_list_group, is_visible}
use Rattle.mh_group.specs.declared.attribute.Attribute.TheVariants as attribute
use Rattle.mh_group.specs.declared.class.Class.{Class}
use Rattle.mh_model.specs.declared.act.Act.{Act}
use Rattle.mh_model.specs.declared.config.Config.{Config}
use Rattle.mh_model.specs.declared.event.Event.{Event}
use Rattle.mh_model.specs.declared.file.File.{File}
use Rattle.mh_model.specs.declared.input.Waiting.{Waiting}
use Rattle.mh_model.specs.declared.input.Waiting.TheVariants as waiting
use Rattle.mh_model.specs.declared.item.Item.{Item}
use Rattle.mh_model.specs.declared.item.Item.TheVariants as item
use Rattle.mh_model.specs.declared.object.Fixed.{Fixed}
use Rattle.mh_model.specs.declared.object.Object.{Object}
use Rattle.mh_model.specs.Arguments.{referred, values}
use Rattle.mh_model.specs.Configuration.{is_service, present, scene_parts}
use Rattle.mh_model.specs.Groups.{effect_of, entering, halts, is_initially_active, runs}
use Rattle.mh_model.specs.Groups as put
use Rattle.mh_model.specs.Items.{acts, heard, plain_event}
use Rattle.mh_model.specs.Known.{class_at}
use Rattle.mh_model.specs.Lifecycle.{halt_items, is_unavailable_at, is_unprepared_at, prepare_items, rise_items, run_items, running_items, started_items, stopping_items}
use Rattle.mh_model.specs.Property.{as_effect, as_value, held}
use Rattle.mh_model.specs.Reference.{group_ref, same_ref}
use Rattle.mh_model.specs.Rules.{emitted}
use Rattle.mh_model.specs.Service.{Service, group_parts, is_there, object_at, part_at, parts}
use Rattle.mh_model.specs.State.{State, all}
use Rattle.mh_model.proofs.PartLemmas.{part_at-parts}
use Rattle.mh_model.proofs.ServiceLemmas.{found_group, group_parts_whole}
use Rattle.mh_laws.specs.Active.{has_source, is_active}
use Rattle.mh_laws.specs.Budget.{Bounds, queue_cost, waiting_cost}
use Rattle.mh_laws.specs.Costs.{Effect, effect, effects, enter, entry, fired, group_effect, group_halt, group_run, halt, heard_by, item_price, on_close_down, on_start_up, plain_emit, rise_of, run, run_alone, targets}
use Rattle.mh_laws.specs.Describing.{is_transition, items_put}
use Rattle.mh_laws.specs.Each.{Among, Each}
use Rattle.mh_laws.specs.Flow.{Flow, reached}
use Rattle.mh_laws.specs.Price.{Nothing, Price, if_price, sum_price}
use Rattle.mh_laws.specs.Safe.{IsPartOf, config_of, exchanged}
use Rattle.mh_laws.specs.Ways.{Sure, ways}
use Rattle.mh_laws.proofs.CoverLemmas.{covered_here}
use Rattle.mh_laws.proofs.EachLemmas.{each_found, each_left, each_right}
use Rattle.mh_laws.proofs.FiredLemmas.{heard_fits, if_worth, told_fits}
use Rattle.mh_laws.proofs.FitLemmas.{Fits, acts_fit, fits_both, fits_less, fits_none, next}
use Rattle.mh_laws.proofs.LifeCostLemmas.{AreInSet, alone_halts, alone_runs, rise_fits, running_fits, stopping_fits}
use Rattle.mh_laws.proofs.PriceLemmas.{le_same}
use Rattle.mh_laws.proofs.ShareLemmas.{Needs}
use Rattle.mh_laws.specs.Weighing.{left, IsAwake, is_awake, AreCovered, CoversAll, IsActiveCovered, Weights, work_cost, worth}

-- What is known of a state that plays the service: its objects are those of its configuration, which may be reached, and
-- its lists hold what the flow says.
pub record Ready (w : Flow) (f : Weights) (s : State) : Type 0 where
  pub service : is_service s.service ≡ true
  pub covers : CoversAll s.service w f
  pub objects : parts (all s.objects) ≡ present s.service (config_of s)
  pub among : reached w (config_of s) ≡ true
  pub woken : IsAwake f s
  pub lists : (r : ObjRef) (o : Object) → object_at r (all s.objects) ≡ Some o → is_list_group o.fixed.class ≡ true → AreInSet w (config_of s) r o

-- what an action puts is what its shares need, or it puts nothing
abbrev pub MayPut : Flow → Weights → State → Act → ObjRef → Object → Type 0
MayPut w f s a r o =
    Each (Each (Needs s.service w f (config_of s) a.arguments (values (all s.objects) a.arguments) r o)) (ways a.name a.arguments)
    ⊎ ((fs : List File) (t : Bool) → items_put fs t a.name (values (all s.objects) a.arguments) r o ≡ [])

-- an action comes to something that the flow knows, and what it puts does so as well
abbrev pub IsReadyAct : Flow → Weights → State → Act → Type 0
IsReadyAct w f s a =
    (r : ObjRef) → referred a.target (all s.objects) ≡ Some r →
    Among (targets w (config_of s) a.target) r
    × (is_transition a.name ≡ false → (o : Object) × (object_at r (all s.objects) ≡ Some o) × MayPut w f s a r o)

abbrev pub IsReadyItem : Flow → Weights → State → Item → Type 0
IsReadyItem w f s (item.Act a) = IsReadyAct w f s a
IsReadyItem w f s (item.RunMember r) = (o : Object) → object_at r (all s.objects) ≡ Some o → is_visible o.fixed.class ≡ true
IsReadyItem w f s (item.HaltMember r) = (o : Object) → object_at r (all s.objects) ≡ Some o → is_visible o.fixed.class ≡ true
IsReadyItem w f s (item.Emit e) = (is_there e.source (present s.service (config_of s)) ≡ true) × (f.may e ≡ true)
IsReadyItem w f s (item.Enter g) = IsPartOf (config_of s) g
IsReadyItem w f s (item.Exchange g) = reached w (exchanged s.service (config_of s) g) ≡ true
IsReadyItem w f s _ = Unit {0}

-- the step costs no more than the price of what was done
abbrev pub Falls : Flow → Weights → Bounds → ℕ → ℕ → State → State → Type 0
Falls w f b price rest s t = 1 + left w f b t ≤ price + rest + queue_cost s.service w f.cost b s.queue

same_queue : (n a p r q : ℕ) → a ≤ n + r → 1 + n ≤ p → 1 + (a + q) ≤ p + r + q
same_queue n a p r q h k = omega (arith, h, k)

-- where what is put fits
pub put_falls : (w : Flow) (f : Weights) (b : Bounds) (s : State) (is rest : List Item) (n p : ℕ) → Fits s.service w f (config_of s) is n → 1 + n ≤ p → 1 + (work_cost s.service w f (config_of s) (is ++ rest) + queue_cost s.service w f.cost b s.queue) ≤ p + work_cost s.service w f (config_of s) rest + queue_cost s.service w f.cost b s.queue
put_falls w f b s is rest n p h less = same_queue n _ p _ _ (h rest) less

-- What is covered

pub covered_now : (w : Flow) (f : Weights) (s : State) → Ready w f s → AreCovered s.service w f (config_of s) (present s.service (config_of s)) (present s.service (config_of s))
covered_now w f s k = covered_here s.service w f (config_of s) k.covers k.among

pub found_part : (w : Flow) (f : Weights) (s : State) → Ready w f s → (r : ObjRef) → part_at r (present s.service (config_of s)) ≡ option_map (λ (o : Object). o.fixed) (object_at r (all s.objects))
found_part w f s k r = ap (part_at r) (sym k.objects) ∙ part_at-parts r (all s.objects)

pub class_found : (w : Flow) (f : Weights) (s : State) → Ready w f s → (r : ObjRef) → class_at r (present s.service (config_of s)) ≡ option_map (λ (p : Fixed). p.class) (option_map (λ (o : Object). o.fixed) (object_at r (all s.objects)))
class_found w f s k r = ap (option_map (λ (p : Fixed). p.class)) (found_part w f s k r)

-- Life

one_more : (a : ℕ) → 1 + 0 ≤ 1 + a
one_more a = omega arith

one_and_more : (a b : ℕ) → 1 + 0 ≤ 1 + a + b
one_and_more a b = omega arith

run_sum : (a b d : ℕ) → 1 + (a + (b + d)) ≤ 1 + (a + b) + d
run_sum a b d = omega arith

-- prices by what is found
abbrev pub rise_at : Service → Flow → Config → ObjRef → Option Class → Price Effect
rise_at v w c r m = option_map_or (rise_of v w c r) m Nothing

abbrev pub group_run_at : Service → Flow → Config → ObjRef → Option Fixed → Price Effect
group_run_at v w c r m = option_map_or (λ (p : Fixed). group_run v w c r p p.class) m Nothing

abbrev pub group_halt_at : Service → Flow → Config → ObjRef → Option Fixed → Price Effect
group_halt_at v w c r m = option_map_or (λ (p : Fixed). group_halt v w c r p p.class) m Nothing

abbrev run_priced : Service → Flow → Weights → Config → ObjRef → Option Fixed → ℕ
run_priced v w f c r m = 1 + (worth f (rise_at v w c r (option_map (λ (p : Fixed). p.class) m)) + worth f (plain_emit v w c r event.IsRunning)) + worth f (group_run_at v w c r m)

pub run_fits : (w : Flow) (f : Weights) (s : State) (k : Ready w f s) (r : ObjRef) → (n : ℕ) × Fits s.service w f (config_of s) (run_items s.files r (object_at r (all s.objects))) n × (1 + n ≤ worth f (run s.service w (config_of s) r))
run_fits w f s k r = by (object_at r (all s.objects)) refl
  where
    v : Service
    v = s.service

    c : Config
    c = config_of s

    by : (m : Option Object) → object_at r (all s.objects) ≡ m → (n : ℕ) × Fits v w f c (run_items s.files r m) n × (1 + n ≤ worth f (run v w c r))
    by None e = (0, fits_none v w f c 0, one_and_more _ _)
    by (Some o) e =
        let found : part_at r (present v c) ≡ Some o.fixed = found_part w f s k r ∙ ap (option_map (λ (x : Object). x.fixed)) e in
        let price : worth f (run v w c r) ≡ run_priced v w f c r (Some o.fixed) = ap (run_priced v w f c r) found in
        let start : Fits v w f c (started_items r (Some o)) (worth f (plain_emit v w c r event.IsRunning) + worth f (group_run_at v w c r (Some o.fixed))) = begun o.body.running in
        (worth f (rise_of v w c r o.fixed.class) + (worth f (plain_emit v w c r event.IsRunning) + worth f (group_run_at v w c r (Some o.fixed))), fits_both v w f c (rise_items s.files is_unprepared_at r (Some o)) (started_items r (Some o)) _ _ (rise_fits v w f c s.files is_unprepared_at r o) start, subst (λ (n : ℕ). 1 + (worth f (rise_of v w c r o.fixed.class) + (worth f (plain_emit v w c r event.IsRunning) + worth f (group_run_at v w c r (Some o.fixed)))) ≤ n) (sym price) (run_sum _ _ _))
      where
        begun : (t : Bool) → Fits v w f c (if t then [] else running_items r o) (worth f (plain_emit v w c r event.IsRunning) + worth f (group_run_at v w c r (Some o.fixed)))
        begun true = fits_none v w f c _
        begun false = running_fits v w f c r o o.fixed.class (k.lists r o e)

halt_sum : (a d : ℕ) → 1 + (a + d) ≤ 1 + a + d
halt_sum a d = omega arith

pub halt_fits : (w : Flow) (f : Weights) (s : State) (k : Ready w f s) (r : ObjRef) → (n : ℕ) × Fits s.service w f (config_of s) (halt_items r (object_at r (all s.objects))) n × (1 + n ≤ worth f (halt s.service w (config_of s) r))
halt_fits w f s k r = by (object_at r (all s.objects)) refl
  where
    v : Service
    v = s.service

    c : Config
    c = config_of s

    stopped : ℕ
    stopped = worth f (plain_emit v w c r event.IsStopped)

    by : (m : Option Object) → object_at r (all s.objects) ≡ m → (n : ℕ) × Fits v w f c (halt_items r m) n × (1 + n ≤ worth f (halt v w c r))
    by None e = (0, fits_none v w f c 0, one_and_more _ _)
    by (Some o) e =
        let found : part_at r (present v c) ≡ Some o.fixed = found_part w f s k r ∙ ap (option_map (λ (x : Object). x.fixed)) e in
        let price : worth f (halt v w c r) ≡ 1 + stopped + worth f (group_halt_at v w c r (Some o.fixed)) = ap (λ (m : Option Fixed). 1 + stopped + worth f (group_halt_at v w c r m)) found in
        (stopped + worth f (group_halt_at v w c r (Some o.fixed)), ends o.body.running, subst (λ (n : ℕ). 1 + (stopped + worth f (group_halt_at v w c r (Some o.fixed))) ≤ n) (sym price) (halt_sum stopped _))
      where
        ends : (t : Bool) → Fits v w f c (if t then stopping_items r o else []) (stopped + worth f (group_halt_at v w c r (Some o.fixed)))
        ends true = stopping_fits v w f c r o o.fixed.class (k.lists r o e)
        ends false = fits_none v w f c _

-- members, that run and halt no others

abbrev alone_priced : Service → Flow → Weights → Config → ObjRef → Option Class → ℕ
alone_priced v w f c r m = 1 + (worth f (rise_at v w c r m) + worth f (plain_emit v w c r event.IsRunning))

pub run_alone_fits : (w : Flow) (f : Weights) (s : State) (k : Ready w f s) (r : ObjRef) → ((o : Object) → object_at r (all s.objects) ≡ Some o → is_visible o.fixed.class ≡ true) → (n : ℕ) × Fits s.service w f (config_of s) (run_items s.files r (object_at r (all s.objects))) n × (1 + n ≤ worth f (run_alone s.service w (config_of s) r))
run_alone_fits w f s k r visible = by (object_at r (all s.objects)) refl
  where
    v : Service
    v = s.service

    c : Config
    c = config_of s

    by : (m : Option Object) → object_at r (all s.objects) ≡ m → (n : ℕ) × Fits v w f c (run_items s.files r m) n × (1 + n ≤ worth f (run_alone v w c r))
    by None e = (0, fits_none v w f c 0, one_more _)
    by (Some o) e =
        let found : class_at r (present v c) ≡ Some o.fixed.class = class_found w f s k r ∙ ap (λ (m : Option Object). option_map (λ (p : Fixed). p.class) (option_map (λ (x : Object). x.fixed) m)) e in
        let price : worth f (run_alone v w c r) ≡ alone_priced v w f c r (Some o.fixed.class) = ap (alone_priced v w f c r) found in
        (worth f (rise_of v w c r o.fixed.class) + worth f (plain_emit v w c r event.IsRunning), fits_both v w f c (rise_items s.files is_unprepared_at r (Some o)) (started_items r (Some o)) _ _ (rise_fits v w f c s.files is_unprepared_at r o) (begun o.body.running), subst (λ (n : ℕ). 1 + (worth f (rise_of v w c r o.fixed.class) + worth f (plain_emit v w c r event.IsRunning)) ≤ n) (sym price) (le_same _))
      where
        begun : (t : Bool) → Fits v w f c (if t then [] else running_items r o) (worth f (plain_emit v w c r event.IsRunning))
        begun true = fits_none v w f c _
        begun false = alone_runs v w f c r o o.fixed.class (visible o e)

pub halt_alone_fits : (w : Flow) (f : Weights) (s : State) (r : ObjRef) → ((o : Object) → object_at r (all s.objects) ≡ Some o → is_visible o.fixed.class ≡ true) → Fits s.service w f (config_of s) (halt_items r (object_at r (all s.objects))) (worth f (plain_emit s.service w (config_of s) r event.IsStopped))
halt_alone_fits w f s r visible = by (object_at r (all s.objects)) refl
  where
    by : (m : Option Object) → object_at r (all s.objects) ≡ m → Fits s.service w f (config_of s) (halt_items r m) (worth f (plain_emit s.service w (config_of s) r event.IsStopped))
    by None e = fits_none s.service w f (config_of s) _
    by (Some o) e = ends o.body.running
      where
        ends : (t : Bool) → Fits s.service w f (config_of s) (if t then stopping_items r o else []) (worth f (plain_emit s.service w (config_of s) r event.IsStopped))
        ends true = alone_halts s.service w f (config_of s) r o o.fixed.class (visible o e)
        ends false = fits_none s.service w f (config_of s) _

pub prepare_fits : (w : Flow) (f : Weights) (s : State) (k : Ready w f s) (r : ObjRef) → Fits s.service w f (config_of s) (prepare_items s.files r (object_at r (all s.objects))) (worth f (rise_at s.service w (config_of s) r (class_at r (present s.service (config_of s)))))
prepare_fits w f s k r = by (object_at r (all s.objects)) refl
  where
    v : Service
    v = s.service

    c : Config
    c = config_of s

    by : (m : Option Object) → object_at r (all s.objects) ≡ m → Fits v w f c (prepare_items s.files r m) (worth f (rise_at v w c r (class_at r (present v c))))
    by None e = fits_none v w f c _
    by (Some o) e =
        let found : class_at r (present v c) ≡ Some o.fixed.class = class_found w f s k r ∙ ap (λ (m : Option Object). option_map (λ (p : Fixed). p.class) (option_map (λ (x : Object). x.fixed) m)) e in
        subst (λ (m : Option Class). Fits v w f c (prepare_items s.files r (Some o)) (worth f (rise_at v w c r m))) (sym found) (rise_fits v w f c s.files is_unavailable_at r o)

-- Events

pub queue_append : (v : Service) (w : Flow) (f : Weights) (b : Bounds) (xs ys : List Waiting) → queue_cost v w f.cost b (xs ++ ys) ≡ queue_cost v w f.cost b xs + queue_cost v w f.cost b ys
queue_append v w f b [] ys = omega arith
queue_append v w f b (x ∷ xs) ys = let h = queue_append v w f b xs ys in omega (arith, h)

pub queue_filter : (v : Service) (w : Flow) (f : Weights) (b : Bounds) (p : Waiting → Bool) (xs : List Waiting) → queue_cost v w f.cost b (filter p xs) ≤ queue_cost v w f.cost b xs
queue_filter v w f b p [] = le_same 0
queue_filter v w f b p (x ∷ xs) = by (p x) (queue_filter v w f b p xs)
  where
    by : (t : Bool) → queue_cost v w f.cost b (filter p xs) ≤ queue_cost v w f.cost b xs → queue_cost v w f.cost b (cond t (x ∷ filter p xs) (filter p xs)) ≤ waiting_cost v w f.cost b x + queue_cost v w f.cost b xs
    by true h = omega (arith, h)
    by false h = omega (arith, h)

guarded_sum : (a m x r q : ℕ) → x ≡ m → a ≤ m + r → 1 + (a + q) ≤ 1 + x + r + q
guarded_sum a m x r q same h = omega (arith, same, h)

async_sum : (n e r q more : ℕ) → more ≡ q + (e + 0) → 1 + (r + more) ≤ 1 + e + r + q
async_sum n e r q more h = omega (arith, h)

pub emit_falls : (w : Flow) (f : Weights) (b : Bounds) (s : State) (k : Ready w f s) (e : Event) (rest : List Item) (n : ℕ) → is_there e.source (present s.service (config_of s)) ≡ true → f.may e ≡ true → Falls w f b (worth f (item_price s.service w (config_of s) (item.Emit e))) (work_cost s.service w f (config_of s) rest) s (emitted e (record s { work = rest; taken = n }))
emit_falls w f b s k e rest n there may = by (is_sync e.kind)
  where
    v : Service
    v = s.service

    c : Config
    c = config_of s

    by : (t : Bool) → Falls w f b (1 + worth f (if t then if_price (is_there e.source (present v c)) (fired v c e.source e.kind (Sure e.data)) else entry v w e.source e.kind (Sure e.data))) (work_cost v w f c rest) s (if t then record s { work = heard e (all s.objects) ++ rest; taken = n } else record s { queue = s.queue ++ waiting.Event e ∷ []; work = rest; taken = n })
    by true =
        let covered = subst (AreCovered v w f c (present v c)) (sym k.objects) (covered_now w f s k) in
        let fits = heard_fits v w f c e (present v c) (all s.objects) there covered ((k.woken).heard e may) in
        let now : Fits v w f c (heard e (all s.objects)) (worth f (fired v c e.source e.kind (Sure e.data))) = subst (λ (ps : List Fixed). Fits v w f c (heard e (all s.objects)) (worth f (heard_by c e ps))) k.objects fits in
        let guarded : worth f (if_price (is_there e.source (present v c)) (fired v c e.source e.kind (Sure e.data))) ≡ worth f (fired v c e.source e.kind (Sure e.data)) = if_worth f (is_there e.source (present v c)) (fired v c e.source e.kind (Sure e.data)) there in
        guarded_sum _ _ _ _ _ guarded (now rest)
    by false = async_sum n (worth f (entry v w e.source e.kind (Sure e.data))) _ _ _ (queue_append v w f b s.queue (waiting.Event e ∷ []))

-- Groups

runs_fit : (v : Service) (w : Flow) (f : Weights) (c : Config) (ps : List Fixed) → Fits v w f c (runs ps) (worth f (sum_price (λ (p : Fixed). run v w c p.key) ps))
runs_fit v w f c [] = fits_none v w f c 0
runs_fit v w f c (p ∷ ps) = λ rest. next (worth f (run v w c p.key)) _ _ _ (runs_fit v w f c ps rest)

pub halts_fit : (v : Service) (w : Flow) (f : Weights) (c : Config) (ps : List Fixed) → Fits v w f c (halts ps) (worth f (sum_price (λ (p : Fixed). halt v w c p.key) ps))
halts_fit v w f c [] = fits_none v w f c 0
halts_fit v w f c (p ∷ ps) = λ rest. next (worth f (halt v w c p.key)) _ _ _ (halts_fit v w f c ps rest)

-- an effect of a group of the configuration

first : (p : Fixed) → on_start_up < length (effects p)
first p = omega arith

second : (p : Fixed) → on_close_down < length (effects p)
second p = omega arith

abbrev pub GroupCovered : Service → Flow → Weights → Config → List ℕ → Type 0
GroupCovered v w f c g = AreCovered v w f c (present v c) (group_parts v g)

group_active : (w : Flow) (f : Weights) (v : Service) (c : Config) (g : List ℕ) (p : Fixed) → is_service v ≡ true → part_at (group_ref g) (group_parts v g) ≡ Some p → is_active (present v c) p ≡ true
group_active w f v c g p good e =
    let no_link : is_link p.class ≡ false = found_group g (group_parts v g) p (group_parts_whole v g good) e in
    ap (λ (t : Bool). if t then has_source (present v c) (as_value (held attribute.EventSource p.properties)) else true) no_link

group_awake : (f : Weights) (v : Service) (g : List ℕ) (p : Fixed) → is_service v ≡ true → part_at (group_ref g) (group_parts v g) ≡ Some p → is_awake f.wakes p ≡ true
group_awake f v g p good e =
    let no_link : is_link p.class ≡ false = found_group g (group_parts v g) p (group_parts_whole v g good) e in
    ap (λ (t : Bool). not t || f.wakes p.key) no_link

start_up_fits : (v : Service) (w : Flow) (f : Weights) (c : Config) (g : List ℕ) → is_service v ≡ true → GroupCovered v w f c g → Fits v w f c (put.group_effect g (group_parts v g) attribute.OnStartUp) (worth f (group_effect v c g on_start_up))
start_up_fits v w f c g good covered = by (part_at (group_ref g) (group_parts v g)) refl
  where
    by : (m : Option Fixed) → part_at (group_ref g) (group_parts v g) ≡ m → Fits v w f c (effect_of m attribute.OnStartUp) (worth f (option_map_or (effect c on_start_up) m Nothing))
    by None e = fits_none v w f c 0
    by (Some p) e =
        let own = each_found (IsActiveCovered v w f c (present v c)) (λ (x : Fixed). same_ref (group_ref g) x.key) (group_parts v g) p covered e (group_active w f v c g p good e) (group_awake f v g p good e) in
        fits_less v w f c (acts (as_effect (held attribute.OnStartUp p.properties))) _ _ (own on_start_up (first p)) (acts_fit v w f c (as_effect (held attribute.OnStartUp p.properties)))

pub close_down_fits : (v : Service) (w : Flow) (f : Weights) (c : Config) (g : List ℕ) → is_service v ≡ true → GroupCovered v w f c g → Fits v w f c (put.group_effect g (group_parts v g) attribute.OnCloseDown) (worth f (group_effect v c g on_close_down))
close_down_fits v w f c g good covered = by (part_at (group_ref g) (group_parts v g)) refl
  where
    by : (m : Option Fixed) → part_at (group_ref g) (group_parts v g) ≡ m → Fits v w f c (effect_of m attribute.OnCloseDown) (worth f (option_map_or (effect c on_close_down) m Nothing))
    by None e = fits_none v w f c 0
    by (Some p) e =
        let own = each_found (IsActiveCovered v w f c (present v c)) (λ (x : Fixed). same_ref (group_ref g) x.key) (group_parts v g) p covered e (group_active w f v c g p good e) (group_awake f v g p good e) in
        fits_less v w f c (acts (as_effect (held attribute.OnCloseDown p.properties))) _ _ (own on_close_down (second p)) (acts_fit v w f c (as_effect (held attribute.OnCloseDown p.properties)))

pub own_covered : (w : Flow) (f : Weights) (s : State) → Ready w f s → GroupCovered s.service w f (config_of s) s.application
own_covered w f s k = each_left (IsActiveCovered s.service w f (config_of s) (present s.service (config_of s))) (group_parts s.service s.application) (scene_parts s.service s.scene) (covered_now w f s k)

pub scene_covered : (w : Flow) (f : Weights) (s : State) → Ready w f s → AreCovered s.service w f (config_of s) (present s.service (config_of s)) (scene_parts s.service s.scene)
scene_covered w f s k = each_right (IsActiveCovered s.service w f (config_of s) (present s.service (config_of s))) (group_parts s.service s.application) (scene_parts s.service s.scene) (covered_now w f s k)

pub part_covered : (w : Flow) (f : Weights) (s : State) → Ready w f s → (g : List ℕ) → IsPartOf (config_of s) g → GroupCovered s.service w f (config_of s) g
part_covered w f s k g (inl same) = subst (GroupCovered s.service w f (config_of s)) (sym same) (own_covered w f s k)
part_covered w f s k g (inr same) = subst (λ (m : Option (List ℕ)). AreCovered s.service w f (config_of s) (present s.service (config_of s)) (scene_parts s.service m)) same (scene_covered w f s k)

pub entering_fits : (v : Service) (w : Flow) (f : Weights) (c : Config) (g : List ℕ) → is_service v ≡ true → GroupCovered v w f c g → (n : ℕ) × Fits v w f c (entering g (group_parts v g)) n × (1 + n ≤ worth f (enter v w c g))
entering_fits v w f c g good covered =
    let start = start_up_fits v w f c g good covered in
    let active : List Fixed = filter is_initially_active (group_parts v g) in
    let running = told_fits v w f c (group_ref g) event.IsRunning (Sure None) (plain_event (group_ref g) event.IsRunning ∷ []) (refl, refl, refl) in
    let two = fits_both v w f c (put.group_effect g (group_parts v g) attribute.OnStartUp) (runs active) _ _ start (runs_fit v w f c active) in
    (worth f (group_effect v c g on_start_up) + worth f (sum_price (λ (p : Fixed). run v w c p.key) active) + worth f (plain_emit v w c (group_ref g) event.IsRunning), fits_both v w f c (put.group_effect g (group_parts v g) attribute.OnStartUp ++ runs active) (plain_event (group_ref g) event.IsRunning ∷ []) _ _ two running, three _ _ _)
  where
    three : (a b d : ℕ) → 1 + (a + b + d) ≤ 1 + (a + (b + d))
    three a b d = omega arith
