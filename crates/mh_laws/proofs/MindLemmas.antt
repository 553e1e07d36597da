-- What a run keeps beside safety: its timers are among those that can be set, none twice, and only what has content waits.
use Rattle.std.specs.Cmp.Derive.{both_true}
use Rattle.std.specs.List.{flat_map, list_all, list_any}
use Rattle.std.specs.Option.{is_some, option_map, option_map_or, option_or}
use Rattle.std.specs.Prelude.{◌&&◌, ◌++◌, ◌+◌, ◌==◌, ◌||◌, ◌∷◌, ◌≡◌, ◌≤◌, Bool, List, None, Option, Some, [], cond, drop, false, filter, if◌then◌else◌, map, nat_lt, negsuc, not, pos, slice_get, true, ℕ, ℤ}
use Rattle.std.specs.Str.{bytes_eq}
use Rattle.std.proofs.Common.{◌∙◌, ap, arith, inl, inr, refl, subst, sym}
use Rattle.std.proofs.lemmas.Bool.Decides.{Decides-int_eq}
use Rattle.std.proofs.lemmas.List.Folds.{find-append}
use Rattle.std.proofs.lemmas.Slice.Eq.{bytes_eq-Decides}
use Rattle.mh_base.specs.Event.{is_sync}
use Rattle.mh_base.specs.declared.obj_ref.ObjRef.{ObjRef}
use Rattle.mh_base.specs.declared.value.Value.{Value}
use Rattle.mh_base.specs.declared.value.Value.TheVariants as value
use Rattle.mh_group.specs.Table.{admits, has_content, is_application, needs_of}
use Rattle.mh_group.specs.declared.action_name.ActionName.{ActionName}
use Rattle.mh_group.specs.declared.action_name.ActionName.TheVariants as action
use Rattle.mh_group.specs.declared.attribute.Attribute.TheVariants as attribute
use Rattle.mh_group.specs.declared.class.Class.{Class}
use Rattle.mh_group.specs.declared.shape.Need.TheVariants as need
use Rattle.mh_model.specs.declared.act.Act.{Act}
use Rattle.mh_model.specs.declared.act.Argument.{Argument}
use Rattle.mh_model.specs.declared.act.Argument.TheVariants as argument
use Rattle.mh_model.specs.declared.config.Config.{Config}
use Rattle.mh_model.specs.declared.event.Event.{Event}
use Rattle.mh_model.specs.declared.fault.Fault.{Fault}
use Rattle.mh_model.specs.declared.file.File.{File}
use Rattle.mh_model.specs.declared.file.Wait.{Wait}
use Rattle.mh_model.specs.declared.input.Input.{Input}
use Rattle.mh_model.specs.declared.input.Input.TheVariants as input
use Rattle.mh_model.specs.declared.input.Obstacle.{Obstacle}
use Rattle.mh_model.specs.declared.input.Waiting.{Waiting}
use Rattle.mh_model.specs.declared.input.Waiting.TheVariants as waiting
use Rattle.mh_model.specs.declared.interaction.Interaction.{Interaction}
use Rattle.mh_model.specs.declared.item.Item.{Item}
use Rattle.mh_model.specs.declared.item.Item.TheVariants as item
use Rattle.mh_model.specs.declared.key.Key.{Key}
use Rattle.mh_model.specs.declared.object.Body.{Body}
use Rattle.mh_model.specs.declared.object.Fixed.{Fixed}
use Rattle.mh_model.specs.declared.object.Object.{Object}
use Rattle.mh_model.specs.declared.sort.Sort.{Sort}
use Rattle.mh_model.specs.declared.sort.Sort.TheVariants as sort
use Rattle.mh_model.specs.declared.time.Moments.{Moments}
use Rattle.mh_model.specs.declared.time.Timer.{Timer}
use Rattle.mh_model.specs.Arguments.{receivers, referred, values}
use Rattle.mh_model.specs.Bodies.{lacking}
use Rattle.mh_model.specs.Configuration.{is_group_of, is_service, present, scene_parts}
use Rattle.mh_model.specs.Faults.{admitted_wrongs, arguments_wrongs, called_wrongs, is_transition, target_wrongs, timer_wrongs}
use Rattle.mh_model.specs.Files.{awaited, by_content, forgotten, is_loadable, missing, waits_for}
use Rattle.mh_model.specs.Items.{heard}
use Rattle.mh_model.specs.Known.{Known, as_integer, class_at, known_before}
use Rattle.mh_model.specs.Lifecycle.{is_available_at, is_unavailable_at, is_unprepared_at, lacking_at, waits_if}
use Rattle.mh_model.specs.Property.{read_of}
use Rattle.mh_model.specs.Reference.{group_ref, same_ref}
use Rattle.mh_model.specs.Late.{is_late_scene, late_without}
use Rattle.mh_model.specs.Rules.{act_on, application_exchanged, begins, begins_or_waits, emitted, exchange_rule, is_begun, interact_rule, load_rule, loaded_with, rule, rule_by, scene_exchanged, whole_rule, widget_at}
use Rattle.mh_model.specs.Service.{Service, group_parts, is_in, is_there, object_at, part_at}
use Rattle.mh_model.specs.Sort.{sort_of}
use Rattle.mh_model.specs.State.{State, all}
use Rattle.mh_model.specs.Step.{awaits, scene_arrived, did, is_waiting, key_taken, obstacle, posted, posted_by, pressed_at, scene_taken, step, step_by, taking}
use Rattle.mh_model.specs.Time.{cancelled, entered_at, is_due, is_timer, set_timers, timed, timed_from}
use Rattle.mh_model.proofs.ListLemmas.{all_follow, all_joined, and_left, and_right, empty_left, empty_right, found}
use Rattle.mh_model.proofs.PartLemmas.{part_at-parts}
use Rattle.mh_model.proofs.ServiceLemmas.{group_parts_in, present_whole, same_ref-same}
use Rattle.mh_laws.specs.Active.{active_actions}
use Rattle.mh_laws.specs.Budget.{AreLate, AreSettable, IsAwaited, can_read, count_timer, timer_key}
use Rattle.mh_laws.specs.Costs.{TimerKey, each_once, is_group_in, is_reader, same_timer, set_by, set_with, targets, timers}
use Rattle.mh_laws.specs.Costs as cost
use Rattle.mh_laws.specs.Each.{Among, Each}
use Rattle.mh_laws.specs.Flow.{Flow, reached}
use Rattle.mh_laws.specs.Safe.{IsFine, IsSafeBy, IsSafeItem, config_of, exchanged, has_group}
use Rattle.mh_laws.specs.Ways.{once}
use Rattle.mh_laws.proofs.ActLemmas.{IsSound, known_now, none_wrong}
use Rattle.mh_laws.proofs.EachLemmas.{among_filtered, among_joined, among_mapped}
use Rattle.mh_laws.proofs.LifeCostLemmas.{no_content}
use Rattle.mh_laws.proofs.NodeLemmas.{config_among}
use Rattle.mh_laws.proofs.ReadyLemmas.{first_item, found_object, free_first, sound_now, target_among}
use Rattle.mh_laws.proofs.StateLemmas.{group_there, parts_present}
use Rattle.mh_laws.proofs.TakenCostLemmas.{Attends, key_itself, key_same}
use Rattle.mh_laws.proofs.TimeLemmas.{all_filtered, all_kept}
use Rattle.mh_laws.proofs.TransitionLemmas.{leads_zeroth}

pub record Minds (w : Flow) (s : State) : Type 0 where
  pub timers : AreSettable s.service w s.timers
  pub readers : list_all (can_read (present s.service (config_of s))) s.waits ≡ true
  pub late : AreLate s.service s.late
  pub awaited : IsAwaited s.service w (config_of s) s.transition

-- Timers

abbrev keys : List Timer → List TimerKey
keys ts = map timer_key ts

-- no timer is there more often
abbrev AreAtMost : (TimerKey → ℕ) → List Timer → Type 0
AreAtMost most ts = (x : TimerKey) → count_timer x (keys ts) ≤ most x

-- how often each can be there: once, or not
abbrev often : Service → Flow → TimerKey → ℕ
often v w x = once (list_any (same_timer x) (cost.set_timers v w))

count_filtered : (x : TimerKey) (p : Timer → Bool) (ts : List Timer) → count_timer x (keys (filter p ts)) ≤ count_timer x (keys ts)
count_filtered x p [] = omega arith
count_filtered x p (t ∷ ts) = by (p t) (count_filtered x p ts)
  where
    by : (b : Bool) → count_timer x (keys (filter p ts)) ≤ count_timer x (keys ts) → count_timer x (keys (cond b (t ∷ filter p ts) (filter p ts))) ≤ once (same_timer x (timer_key t)) + count_timer x (keys ts)
    by true h = omega (arith, h)
    by false h = omega (arith, h)

within_filtered : (most : TimerKey → ℕ) (p : Timer → Bool) (ts : List Timer) → AreAtMost most ts → AreAtMost most (filter p ts)
within_filtered most p ts h x = let a = count_filtered x p ts in let b = h x in omega (arith, a, b)

-- a timer that is cancelled is not there
count_cancelled : (g : List ℕ) (id : ℤ) (ts : List Timer) → count_timer (g, id) (keys (cancelled g id ts)) ≡ 0
count_cancelled g id [] = refl
count_cancelled g id (t ∷ ts) = by (is_timer g id t) refl (count_cancelled g id ts)
  where
    other : is_timer g id t ≡ false → same_timer (g, id) (timer_key t) ≡ false
    other h = by_key (same_timer (g, id) (timer_key t)) refl
      where
        by_key : (b : Bool) → same_timer (g, id) (timer_key t) ≡ b → b ≡ false
        by_key false e = refl
        by_key true e =
            let same : (g, id) ≡ timer_key t = key_same (g, id) (timer_key t) e in
            let group : t.group ≡ g = sym (ap (λ (k : TimerKey). k.0) same) in
            let number : t.id ≡ id = sym (ap (λ (k : TimerKey). k.1) same) in
            let is : is_timer g id t ≡ true = both_true ((bytes_eq-Decides t.group g).1 group) ((Decides-int_eq t.id id).1 number) in
            sym is ∙ h

    by : (b : Bool) → is_timer g id t ≡ b → count_timer (g, id) (keys (cancelled g id ts)) ≡ 0 → count_timer (g, id) (keys (cond (not b) (t ∷ cancelled g id ts) (cancelled g id ts))) ≡ 0
    by true e h = h
    by false e h = let none : once (same_timer (g, id) (timer_key t)) ≡ 0 = ap once (other e) in omega (arith, h, none)

within_timed : (most : TimerKey → ℕ) (g : List ℕ) (id : ℤ) (moment : ℕ) (ts : List Timer) → 1 ≤ most (g, id) → AreAtMost most ts → AreAtMost most (timed g id moment ts)
within_timed most g id moment ts can h x = by (same_timer x (g, id)) refl
  where
    one : Timer
    one = record { group = g; id = id; due = moment }

    joined : (us : List Timer) → count_timer x (keys (us ++ one ∷ [])) ≡ count_timer x (keys us) + once (same_timer x (g, id))
    joined [] = omega arith
    joined (u ∷ us) = let more = joined us in omega (arith, more)

    by : (b : Bool) → same_timer x (g, id) ≡ b → count_timer x (keys (timed g id moment ts)) ≤ most x
    by true e =
        let same : x ≡ (g, id) = key_same x (g, id) e in
        let none : count_timer x (keys (cancelled g id ts)) ≡ 0 = ap (λ (k : TimerKey). count_timer k (keys (cancelled g id ts))) same ∙ count_cancelled g id ts in
        let there : 1 ≤ most x = subst (λ (k : TimerKey). 1 ≤ most k) (sym same) can in
        let all = joined (cancelled g id ts) in
        let own : once (same_timer x (g, id)) ≡ 1 = ap once e in
        omega (arith, none, there, all, own)
    by false e =
        let all = joined (cancelled g id ts) in
        let own : once (same_timer x (g, id)) ≡ 0 = ap once e in
        let fewer = count_filtered x (λ t. not (is_timer g id t)) ts in
        let before = h x in
        omega (arith, all, own, fewer, before)

within_from : (most : TimerKey → ℕ) (from : ℕ) (d : ℤ) (g : List ℕ) (id : ℤ) (now : ℕ) (ts : List Timer) → 1 ≤ most (g, id) → AreAtMost most ts → AreAtMost most (timed_from from d g id now ts)
within_from most from (pos n) g id now ts can h = by (nat_lt (from + n) now)
  where
    by : (b : Bool) → AreAtMost most (if b then cancelled g id ts else timed g id (from + n) ts)
    by true = within_filtered most (λ t. not (is_timer g id t)) ts h
    by false = within_timed most g id (from + n) ts can h
within_from most from (negsuc n) g id now ts can h = within_filtered most (λ t. not (is_timer g id t)) ts h

within_set : (most : TimerKey → ℕ) (vs : List Value) (app g : List ℕ) (m : Moments) (ts : List Timer) → ((id : ℤ) (x : Value) (more : List Value) → vs ≡ value.Int id ∷ x ∷ more → 1 ≤ most (g, id)) → AreAtMost most ts → AreAtMost most (set_timers vs app g m ts)
within_set most (value.Int id ∷ []) app g m ts can h = within_filtered most (λ t. not (is_timer g id t)) ts h
within_set most (value.Int id ∷ value.Int n ∷ []) app g m ts can h = within_from most m.present n g id m.present ts (can id (value.Int n) [] refl) h
within_set most (value.Int id ∷ value.Int n ∷ value.Bool absolute ∷ []) app g m ts can h =
    within_from most (if absolute then entered_at app g m else m.present) n g id m.present ts (can id (value.Int n) (value.Bool absolute ∷ []) refl) h
within_set most _ app g m ts can h = h

-- Waiting

awaited_reads : (ps : List Fixed) (m : Option (List ℕ)) (r : ObjRef) (ws : List Wait) → (is_some m ≡ true → is_reader (class_at r ps) ≡ true) → list_all (can_read ps) ws ≡ true → list_all (can_read ps) (awaited m r ws) ≡ true
awaited_reads ps None r ws can h = all_filtered (λ x. not (same_ref r x.object)) (can_read ps) ws h
awaited_reads ps (Some name) r ws can h =
    all_joined (can_read ps) (forgotten r ws) (record { object = r; name = name } ∷ []) (all_filtered (λ x. not (same_ref r x.object)) (can_read ps) ws h) (both_true (can refl) refl)

-- what lacks a file has content
lacking_class : (fs : List File) (p : Fixed) (b : Body) → is_some (lacking fs p b) ≡ true → has_content p.class ≡ true
lacking_class fs p b h = by (has_content p.class) refl
  where
    by : (t : Bool) → has_content p.class ≡ t → t ≡ true
    by true e = refl
    by false e =
        let none : is_some (lacking fs p b) ≡ false = ap (λ (t : Bool). is_some (by_content (missing fs) (read_of attribute.OrigContent p b) t)) e ∙ no_content (missing fs) (read_of attribute.OrigContent p b) in
        sym none ∙ h

waits_if_reads : {w : Flow} (s : State) → IsSafeBy w s → (fs : List File) (b : Bool) (r : ObjRef) → list_all (can_read (present s.service (config_of s))) s.waits ≡ true → list_all (can_read (present s.service (config_of s))) (waits_if fs b r (object_at r (all s.objects)) s.waits) ≡ true
waits_if_reads {w} s k fs false r h = h
waits_if_reads {w} s k fs true r h = by (object_at r (all s.objects)) refl
  where
    ps : List Fixed
    ps = present s.service (config_of s)

    by : (m : Option Object) → object_at r (all s.objects) ≡ m → list_all (can_read ps) (awaited (lacking_at fs m) r s.waits) ≡ true
    by None e = awaited_reads ps None r s.waits (λ never. absurd cc) h
    by (Some o) e =
        let found : class_at r ps ≡ Some o.fixed.class = ap (option_map (λ (p : Fixed). p.class)) (ap (part_at r) (sym (parts_present s k)) ∙ part_at-parts r (all s.objects) ∙ ap (option_map (λ (x : Object). x.fixed)) e) in
        awaited_reads ps (lacking fs o.fixed o.body) r s.waits (λ some. ap is_reader found ∙ lacking_class fs o.fixed o.body some) h

-- Rules that touch neither

load_loads : (n : ActionName) (c : Class) → sort_of n ≡ sort.Load → admits c n ≡ true → has_content c ≡ true
load_loads action.SetData c is h = h
load_loads _ c is h = absurd cc

load_minds : (w : Flow) (s : State) (k : IsSafeBy w s) (vs : List Value) (r : ObjRef) (rest : List Item) (n : ℕ) → Minds w s → is_reader (class_at r (present s.service (config_of s))) ≡ true → Minds w (load_rule vs r (record s { work = rest; taken = n }))
load_minds w s k [] r rest n m reads_it = record { timers = m.timers; readers = m.readers; late = m.late; awaited = m.awaited }
load_minds w s k (v ∷ x ∷ vs) r rest n m reads_it = record { timers = m.timers; readers = m.readers; late = m.late; awaited = m.awaited }
load_minds w s k (v ∷ []) r rest n m reads_it = by (is_loadable v) (is_available_at (object_at r (all s.objects))) refl
  where
    ps : List Fixed
    ps = present s.service (config_of s)

    waits_now : (t : Bool) → list_all (can_read ps) (if t then awaited (missing s.files v) r s.waits else s.waits) ≡ true
    waits_now true = awaited_reads ps (missing s.files v) r s.waits (λ some. reads_it) m.readers
    waits_now false = m.readers

    by : (t u : Bool) → is_available_at (object_at r (all s.objects)) ≡ u → Minds w (if t then loaded_with v r (record s { work = rest; taken = n }) else record s { work = rest; taken = n })
    by true u e = record { timers = m.timers; readers = waits_now (is_available_at (object_at r (all s.objects))); late = m.late; awaited = m.awaited }
    by false u e = record { timers = m.timers; readers = m.readers; late = m.late; awaited = m.awaited }

widget_minds : (w : Flow) (s : State) (n : ActionName) (vs : List Value) (r : ObjRef) (o : Option Object) → Minds w s → Minds w (widget_at n vs r o s)
widget_minds w s n vs r None m = m
widget_minds w s n vs r (Some o) m = record { timers = m.timers; readers = m.readers; late = m.late; awaited = m.awaited }

interact_minds : (w : Flow) (s : State) (n : ActionName) (vs : List Value) (rs : List ObjRef) (r : ObjRef) → Minds w s → Minds w (interact_rule n vs rs r s)
interact_minds w s action.SetInteractionStatus vs rs r m = record { timers = m.timers; readers = m.readers; late = m.late; awaited = m.awaited }
interact_minds w s action.GetInteractionStatus vs rs r m = record { timers = m.timers; readers = m.readers; late = m.late; awaited = m.awaited }
interact_minds w s _ vs rs r m = m

-- a timer that is set is one that can be

any_among : (xs : List TimerKey) (x : TimerKey) → Among xs x → list_any (same_timer x) xs ≡ true
any_among [] x h = absurd cc
any_among (y ∷ xs) x (inl same) = subst (λ (z : TimerKey). (same_timer x z || list_any (same_timer x) xs) ≡ true) (sym same) (ap (λ (t : Bool). t || list_any (same_timer x) xs) (key_itself x))
any_among (y ∷ xs) x (inr more) = second (same_timer x y) (list_any (same_timer x) xs) (any_among xs x more)
  where
    second : (a b : Bool) → b ≡ true → (a || b) ≡ true
    second true b e = refl
    second false b e = e

timer_listed : (os : List Object) (k : Known) (a : Act) (rs : List ObjRef) (r : ObjRef) (xs : List Argument) → timer_wrongs action.SetTimer xs ≡ [] → arguments_wrongs k a (need.Int ∷ need.Int ∷ need.Bool ∷ []) xs ≡ [] → Among rs r → (id : ℤ) (x : Value) (more : List Value) → values os xs ≡ value.Int id ∷ x ∷ more → Among (set_with action.SetTimer xs rs) (r.group, id)
timer_listed os k a rs r [] timer good among id x more e = absurd cc
timer_listed os k a rs r (argument.Direct (value.Int i) ∷ []) timer good among id x more e = absurd cc
timer_listed os k a rs r (argument.Direct (value.Int i) ∷ y ∷ ys) timer good among id x more e =
    let same : i ≡ id = ap (λ (zs : List Value). option_map_or (λ (z : Value). option_map_or (λ (n : ℤ). n) (as_integer (Some z)) i) (slice_get zs 0) i) e in
    subst (λ (n : ℤ). Among {X = TimerKey} (map (λ (q : ObjRef). (q.group, i)) rs) (r.group, n)) same (among_mapped (λ (q : ObjRef). (q.group, i)) rs r among)
timer_listed os k a rs r (argument.Direct (value.Bool b) ∷ ys) timer good among id x more e = absurd cc
timer_listed os k a rs r (argument.Direct (value.Octets b) ∷ ys) timer good among id x more e = absurd cc
timer_listed os k a rs r (argument.Direct (value.Object b) ∷ ys) timer good among id x more e = absurd cc
timer_listed os k a rs r (argument.Direct (value.Content b) ∷ ys) timer good among id x more e = absurd cc
timer_listed os k a rs r (argument.Through q u ∷ ys) timer good among id x more e = absurd cc
timer_listed os k a rs r (argument.Receiver q ∷ ys) timer good among id x more e = absurd cc

-- with an action that sets a timer it is one that the action can set
pub timer_set : {w : Flow} (s : State) (k : IsSafeBy w s) (a : Act) (r : ObjRef) → IsSound w s k a r → a.name ≡ action.SetTimer → (id : ℤ) (x : Value) (more : List Value) → values (all s.objects) a.arguments ≡ value.Int id ∷ x ∷ more → Among (set_by w (config_of s) a) (r.group, id)
timer_set {w} s k a r is named id x more e =
    subst (λ (n : ActionName). Among (set_with n a.arguments (targets w c a.target)) (r.group, id)) (sym named)
    (timer_listed (all s.objects) (known_now s) a (targets w c a.target) r a.arguments
    (subst (λ (n : ActionName). timer_wrongs n a.arguments ≡ []) named timer)
    (subst (λ (n : ActionName). arguments_wrongs (known_now s) a (needs_of n) a.arguments ≡ []) named is.good)
    (target_among w c (present s.service c) a.target r is.may) id x more e)
  where
    c : Config
    c = config_of s

    timer : timer_wrongs a.name a.arguments ≡ []
    timer =
        let before = target_wrongs (known_now s) a.name a.target ++ called_wrongs (known_now s) a in
        empty_right before (timer_wrongs a.name a.arguments)
        (empty_left (before ++ timer_wrongs a.name a.arguments) (arguments_wrongs (known_now s) a (needs_of a.name) a.arguments) (none_wrong s k a is.fine))

timer_settable : {w : Flow} (s : State) (k : IsSafeBy w s) (a : Act) (r : ObjRef) → IsSound w s k a r → a.name ≡ action.SetTimer → (id : ℤ) (x : Value) (more : List Value) → values (all s.objects) a.arguments ≡ value.Int id ∷ x ∷ more → 1 ≤ often s.service w (r.group, id)
timer_settable {w} s k a r is named id x more e = one (list_any (same_timer (r.group, id)) (cost.set_timers s.service w)) (any_among (cost.set_timers s.service w) (r.group, id) all_set)
  where
    c : Config
    c = config_of s

    v : Service
    v = s.service

    one : (b : Bool) → b ≡ true → 1 ≤ once b
    one true h = omega arith
    one false h = absurd cc

    all_set : Among (cost.set_timers v w) (r.group, id)
    all_set =
        among_joined (λ (d : Config). flat_map (set_by w d) (active_actions (present v d))) w.configs c (r.group, id) (config_among w.configs c k.among)
        (among_joined (set_by w c) (active_actions (present v c)) a (r.group, id) (is.fine).active (timer_set s k a r is named id x more e))

-- a late scene to which an action leads is one of those to which active actions can
late_awaited : {w : Flow} (s : State) (k : IsSafeBy w s) (a : Act) (r : ObjRef) → IsSound w s k a r → a.name ≡ action.TransitionTo → is_late_scene r.group s.service.late ≡ true → Among (cost.late_scenes s.service w (config_of s)) r.group
late_awaited {w} s k a r is named late = among_joined (cost.late_by v w c) (active_actions (present v c)) a r.group (is.fine).active own
  where
    c : Config
    c = config_of s

    v : Service
    v = s.service

    zeroth : (r.number == 0) ≡ true
    zeroth = leads_zeroth v c r (present_whole v c k.accepted.service) (subst (λ (n : ActionName). admitted_wrongs (known_before v (present v c)) n None r ≡ []) named is.fit)

    leads : cost.can_lead_to_late v a.name r ≡ true
    leads = ap (λ (n : ActionName). cost.can_lead_to_late v n r) named ∙ ap (λ (t : Bool). t && is_late_scene r.group v.late) zeroth ∙ late

    own : Among (cost.late_by v w c a) r.group
    own =
        among_mapped (λ (q : ObjRef). q.group) (filter (cost.can_lead_to_late v a.name) (targets w c a.target)) r
        (among_filtered (cost.can_lead_to_late v a.name) (targets w c a.target) r leads (target_among w c (present v c) a.target r is.may))

whole_minds : (w : Flow) (s : State) (k : IsSafeBy w s) → (a : Act) → IsFine s.service w (config_of s) a → (r : ObjRef) → IsSound w s k a r → (rest : List Item) (n : ℕ) (m : ActionName) → a.name ≡ m → Minds w s → Minds w (whole_rule m (values (all s.objects) a.arguments) r (record s { work = rest; taken = n }))
whole_minds w s k a fine r is rest n action.SetTimer same h =
    record {
      timers = within_set (often s.service w) (values (all s.objects) a.arguments) s.application r.group s.moments s.timers (timer_settable s k a r is same)
          h.timers;
      readers = h.readers;
      late = h.late;
      awaited = h.awaited;
    }
whole_minds w s k a fine r is rest n action.TransitionTo same h = by (is_begun s.transition) (is_late_scene r.group s.late) refl
  where
    by : (b late : Bool) → is_late_scene r.group s.late ≡ late → Minds w (if b then record s { work = rest; taken = n } else begins_or_waits late action.TransitionTo r (record s { work = rest; taken = n }))
    by true late e = record { timers = h.timers; readers = h.readers; late = h.late; awaited = h.awaited }
    by false true e = record { timers = h.timers; readers = h.readers; late = h.late; awaited = late_awaited s k a r is same (h.late r.group e) }
    by false false e = record { timers = h.timers; readers = h.readers; late = h.late; awaited = tt }
whole_minds w s k a fine r is rest n action.Launch same h = by (is_begun s.transition)
  where
    by : (b : Bool) → Minds w (if b then record s { work = rest; taken = n } else begins action.Launch r (record s { work = rest; taken = n }))
    by true = record { timers = h.timers; readers = h.readers; late = h.late; awaited = h.awaited }
    by false = record { timers = h.timers; readers = h.readers; late = h.late; awaited = tt }
whole_minds w s k a fine r is rest n action.Quit same h = by (is_begun s.transition)
  where
    by : (b : Bool) → Minds w (if b then record s { work = rest; taken = n } else begins action.Quit r (record s { work = rest; taken = n }))
    by true = record { timers = h.timers; readers = h.readers; late = h.late; awaited = h.awaited }
    by false = record { timers = h.timers; readers = h.readers; late = h.late; awaited = tt }
whole_minds w s k a fine r is rest n action.LockScreen same h = record { timers = h.timers; readers = h.readers; late = h.late; awaited = h.awaited }
whole_minds w s k a fine r is rest n action.UnlockScreen same h = record { timers = h.timers; readers = h.readers; late = h.late; awaited = h.awaited }
whole_minds w s k a fine r is rest n _ same h = record { timers = h.timers; readers = h.readers; late = h.late; awaited = h.awaited }

-- an action that loads is done to what has content
loading_class : {w : Flow} (s : State) (k : IsSafeBy w s) (a : Act) (r : ObjRef) → IsSound w s k a r → sort_of a.name ≡ sort.Load → is_reader (class_at r (present s.service (config_of s))) ≡ true
loading_class {w} s k a r is load =
    let hit = found_object s k a.name r (plain a.name load) is.fit in
    let ps : List Fixed = present s.service (config_of s) in
    let found : class_at r ps ≡ Some (hit.0).fixed.class = ap (option_map (λ (p : Fixed). p.class)) (ap (part_at r) (sym (parts_present s k)) ∙ part_at-parts r (all s.objects) ∙ ap (option_map (λ (x : Object). x.fixed)) hit.1) in
    ap is_reader found ∙ load_loads a.name (hit.0).fixed.class load hit.2
  where
    plain : (n : ActionName) → sort_of n ≡ sort.Load → is_transition n ≡ false
    plain action.TransitionTo h = absurd cc
    plain action.Launch h = absurd cc
    plain _ h = refl

sort_minds : (w : Flow) (s : State) (k : IsSafeBy w s) → (a : Act) → IsFine s.service w (config_of s) a → (r : ObjRef) → IsSound w s k a r → (rest : List Item) (n : ℕ) → Minds w s → (o : Sort) → sort_of a.name ≡ o → Minds w (rule_by o a.name a.arguments r (record s { work = rest; taken = n }))
sort_minds w s k a fine r is rest n h sort.Change e = record { timers = h.timers; readers = h.readers; late = h.late; awaited = h.awaited }
sort_minds w s k a fine r is rest n h sort.Ask e = record { timers = h.timers; readers = h.readers; late = h.late; awaited = h.awaited }
sort_minds w s k a fine r is rest n h sort.Put e = record { timers = h.timers; readers = h.readers; late = h.late; awaited = h.awaited }
sort_minds w s k a fine r is rest n h sort.Load e = load_minds w s k (values (all s.objects) a.arguments) r rest n h (loading_class s k a r is e)
sort_minds w s k a fine r is rest n h sort.Call e = record { timers = h.timers; readers = h.readers; late = h.late; awaited = h.awaited }
sort_minds w s k a fine r is rest n h sort.Order e = record { timers = h.timers; readers = h.readers; late = h.late; awaited = h.awaited }
sort_minds w s k a fine r is rest n h sort.Widget e = widget_minds w (record s { work = rest; taken = n }) a.name (values (all s.objects) a.arguments) r (object_at r (all s.objects)) (record { timers = h.timers; readers = h.readers; late = h.late; awaited = h.awaited })
sort_minds w s k a fine r is rest n h sort.Interact e = interact_minds w (record s { work = rest; taken = n }) a.name (values (all s.objects) a.arguments) (receivers a.arguments) r (record { timers = h.timers; readers = h.readers; late = h.late; awaited = h.awaited })
sort_minds w s k a fine r is rest n h sort.Whole e = whole_minds w s k a fine r is rest n a.name refl h

act_minds : (w : Flow) (s : State) (k : IsSafeBy w s) → (a : Act) → IsFine s.service w (config_of s) a → (rest : List Item) (n : ℕ) → Minds w s → Minds w (rule (item.Act a) (record s { work = rest; taken = n }))
act_minds w s k a fine rest n h = by (referred a.target (all s.objects)) refl
  where
    by : (m : Option ObjRef) → referred a.target (all s.objects) ≡ m → Minds w (act_on m a.name a.arguments (record s { work = rest; taken = n }))
    by None e = record { timers = h.timers; readers = h.readers; late = h.late; awaited = h.awaited }
    by (Some r) e = sort_minds w s k a fine r (sound_now s k a fine r e) rest n h (sort_of a.name) refl

emit_minds : (w : Flow) (s : State) (e : Event) → Minds w s → Minds w (emitted e s)
emit_minds w s e h = by (is_sync e.kind)
  where
    by : (t : Bool) → Minds w (if t then record s { work = heard e (all s.objects) ++ s.work } else record s { queue = s.queue ++ waiting.Event e ∷ [] })
    by true = record { timers = h.timers; readers = h.readers; late = h.late; awaited = h.awaited }
    by false = record { timers = h.timers; readers = h.readers; late = h.late; awaited = h.awaited }

-- An exchange: what stays is of the application.

-- a wait of the application stays one of what has content
reads_stay : (v : Service) (app : List ℕ) (m : Option (List ℕ)) (more : List Fixed) → is_service v ≡ true → (x : Wait) → bytes_eq x.object.group app ≡ true → can_read (group_parts v app ++ scene_parts v m) x ≡ true → can_read (group_parts v app ++ more) x ≡ true
reads_stay v app m more good x own h = by (part_at r (group_parts v app)) refl
  where
    r : ObjRef
    r = x.object

    class_of : Option Fixed → Bool
    class_of p = is_reader (option_map (λ (z : Fixed). z.class) p)

    before : class_of (option_or (part_at r (group_parts v app)) (part_at r (scene_parts v m))) ≡ true
    before = sym (ap class_of (find-append (λ (p : Fixed). same_ref r p.key) (group_parts v app) (scene_parts v m))) ∙ h

    after : class_of (part_at r (group_parts v app ++ more)) ≡ class_of (option_or (part_at r (group_parts v app)) (part_at r more))
    after = ap class_of (find-append (λ (p : Fixed). same_ref r p.key) (group_parts v app) more)

    nowhere : part_at r (group_parts v app) ≡ None → (n : Option (List ℕ)) → (p : Option Fixed) → part_at r (scene_parts v n) ≡ p → class_of p ≡ true → false ≡ true
    nowhere none None p e is = let never : class_of None ≡ true = subst (λ (z : Option Fixed). class_of z ≡ true) (sym e) is in absurd cc
    nowhere none (Some g) None e is = absurd cc
    nowhere none (Some g) (Some p) e is =
        let hit = found (λ (z : Fixed). same_ref r z.key) (is_in g) (group_parts v g) p (group_parts_in v g good) e in
        let key : r ≡ p.key = same_ref-same r p.key hit.0 in
        let named : p.key.group ≡ g = (bytes_eq-Decides p.key.group g).0 hit.1 in
        let mine : r.group ≡ app = (bytes_eq-Decides r.group app).0 own in
        let one : app ≡ g = sym mine ∙ ap (λ (q : ObjRef). q.group) key ∙ named in
        let never : None ≡ Some p = sym none ∙ ap (λ (z : List ℕ). part_at r (group_parts v z)) one ∙ e in
        absurd cc

    by : (p : Option Fixed) → part_at r (group_parts v app) ≡ p → can_read (group_parts v app ++ more) x ≡ true
    by (Some p) e =
        let was : class_of (Some p) ≡ true = ap (λ (z : Option Fixed). class_of (option_or z (part_at r (scene_parts v m)))) (sym e) ∙ before in
        after ∙ ap (λ (z : Option Fixed). class_of (option_or z (part_at r more))) e ∙ was
    by None e =
        let was : class_of (part_at r (scene_parts v m)) ≡ true = ap (λ (z : Option Fixed). class_of (option_or z (part_at r (scene_parts v m)))) (sym e) ∙ before in
        let never : false ≡ true = nowhere e m (part_at r (scene_parts v m)) refl was in
        absurd cc

exchange_minds : (w : Flow) (s : State) (k : IsSafeBy w s) (g : List ℕ) → reached w (exchanged s.service (config_of s) g) ≡ true → (rest : List Item) (n : ℕ) → Minds w s → Minds w (exchange_rule g (record s { work = rest; taken = n }))
exchange_minds w s k g safe rest n h = by (is_group_of is_application s.service g) safe
  where
    by : (t : Bool) → reached w (if t then record { app = g; scene = None } else record { app = s.application; scene = Some g }) ≡ true → Minds w (if t then application_exchanged g (record s { work = rest; taken = n }) else scene_exchanged g (record s { work = rest; taken = n }))
    by true into = record { timers = λ x. omega arith; readers = refl; late = h.late; awaited = tt }
    by false into = record {
      timers = within_filtered (often s.service w) (λ (t : Timer). bytes_eq t.group s.application) s.timers h.timers;
      readers = all_kept (λ (x : Wait). bytes_eq x.object.group s.application) (can_read (present s.service (config_of s))) (can_read (group_parts s.service s.application ++ group_parts s.service g)) (reads_stay s.service s.application s.scene (group_parts s.service g) k.accepted.service) s.waits h.readers;
      late = h.late;
      awaited = tt;
    }

rule_minds : (w : Flow) (s : State) (k : IsSafeBy w s) → (i : Item) → IsSafeItem s.service w (config_of s) i → (rest : List Item) (n : ℕ) → Minds w s → Minds w (rule i (record s { work = rest; taken = n }))
rule_minds w s k (item.Act a) safe rest n h = act_minds w s k a safe rest n h
rule_minds w s k (item.Prepare r) safe rest n h = record { timers = h.timers; readers = waits_if_reads s k s.files (is_unavailable_at (object_at r (all s.objects))) r h.readers; late = h.late; awaited = h.awaited }
rule_minds w s k (item.Run r) safe rest n h = record { timers = h.timers; readers = waits_if_reads s k s.files (is_unprepared_at (object_at r (all s.objects))) r h.readers; late = h.late; awaited = h.awaited }
rule_minds w s k (item.RunMember r) safe rest n h = record { timers = h.timers; readers = waits_if_reads s k s.files (is_unprepared_at (object_at r (all s.objects))) r h.readers; late = h.late; awaited = h.awaited }
rule_minds w s k (item.Halt r) safe rest n h = record { timers = h.timers; readers = h.readers; late = h.late; awaited = h.awaited }
rule_minds w s k (item.HaltMember r) safe rest n h = record { timers = h.timers; readers = h.readers; late = h.late; awaited = h.awaited }
rule_minds w s k (item.Drop r) safe rest n h = record { timers = h.timers; readers = all_filtered (λ (x : Wait). not (same_ref r x.object)) (can_read (present s.service (config_of s))) s.waits h.readers; late = h.late; awaited = h.awaited }
rule_minds w s k (item.Emit e) safe rest n h = emit_minds w (record s { work = rest; taken = n }) e (record { timers = h.timers; readers = h.readers; late = h.late; awaited = h.awaited })
rule_minds w s k (item.Enter g) safe rest n h = record { timers = h.timers; readers = h.readers; late = h.late; awaited = h.awaited }
rule_minds w s k (item.Exchange g) safe rest n h = exchange_minds w s k g safe.1.0 rest n h
rule_minds w s k item.End safe rest n h = record { timers = h.timers; readers = h.readers; late = h.late; awaited = h.awaited }

-- Taking

-- fewer scenes are late
late_fewer : (v : Service) (h : List ℕ) (gs : List (List ℕ)) → AreLate v gs → AreLate v (late_without h gs)
late_fewer v h gs are g e = are g (some_filtered (λ (x : List ℕ). not (bytes_eq h x)) (bytes_eq g) gs e)
  where
    some_filtered : (p q : List ℕ → Bool) (xs : List (List ℕ)) → list_any q (filter p xs) ≡ true → list_any q xs ≡ true
    some_filtered p q [] e = e
    some_filtered p q (x ∷ xs) e = by (p x) (some_filtered p q xs) e
      where
        first : (b y z : Bool) → (y ≡ true → z ≡ true) → (b || y) ≡ true → (b || z) ≡ true
        first true y z further e = refl
        first false y z further e = further e

        second : (b z : Bool) → z ≡ true → (b || z) ≡ true
        second true z e = refl
        second false z e = e

        by : (a : Bool) → (list_any q (filter p xs) ≡ true → list_any q xs ≡ true) → list_any q (cond a (x ∷ filter p xs) (filter p xs)) ≡ true → (q x || list_any q xs) ≡ true
        by true further e = first (q x) (list_any q (filter p xs)) (list_any q xs) further e
        by false further e = second (q x) (list_any q xs) (further e)

scene_minds : (w : Flow) (s : State) (g : List ℕ) → Minds w s → Minds w (scene_taken g s)
scene_minds w s g h = by (awaits g s.transition)
  where
    by : (b : Bool) → Minds w (if b then begins action.TransitionTo (group_ref g) (scene_arrived g s) else scene_arrived g s)
    by true = record { timers = h.timers; readers = h.readers; late = late_fewer s.service g s.late h.late; awaited = tt }
    by false = record { timers = h.timers; readers = h.readers; late = late_fewer s.service g s.late h.late; awaited = h.awaited }

key_minds : (w : Flow) (s : State) (x : Key) (m : Option Interaction) → Minds w s → Minds w (key_taken x m s)
key_minds w s x None h = record { timers = h.timers; readers = h.readers; late = h.late; awaited = h.awaited }
key_minds w s x (Some i) h = by (object_at i.object (all s.objects))
  where
    by : (m : Option Object) → Minds w (pressed_at x i m s)
    by None = h
    by (Some o) = record { timers = h.timers; readers = h.readers; late = h.late; awaited = h.awaited }

taking_minds : (w : Flow) (s : State) (x : Waiting) → Minds w s → Minds w (taking x s)
taking_minds w s (waiting.Event e) h = record { timers = h.timers; readers = h.readers; late = h.late; awaited = h.awaited }
taking_minds w s (waiting.Input (input.Key x)) h = key_minds w s x s.interaction h
taking_minds w s (waiting.Input (input.Tick n)) h = record { timers = within_filtered (often s.service w) (λ t. not (is_due (s.moments.present + n) t)) s.timers h.timers; readers = h.readers; late = h.late; awaited = h.awaited }
taking_minds w s (waiting.Input (input.Stream n)) h = record { timers = h.timers; readers = h.readers; late = h.late; awaited = h.awaited }
taking_minds w s (waiting.Input (input.Engine n)) h = record { timers = h.timers; readers = h.readers; late = h.late; awaited = h.awaited }
taking_minds w s (waiting.Input (input.Arrive x)) h = record { timers = h.timers; readers = all_filtered (λ (z : Wait). not (bytes_eq z.name x.name)) (can_read (present s.service (config_of s))) s.waits h.readers; late = h.late; awaited = h.awaited }
taking_minds w s (waiting.Input (input.Scene g x)) h = scene_minds w s g h

-- Steps

pub step_minds : (w : Flow) (s : State) (k : IsSafeBy w s) → Minds w s → Minds w (step s)
step_minds w s k h = unless_ended s.ended
  where
    by : (m : Option Item) (x : Option Waiting) → slice_get s.work 0 ≡ m → Minds w (step_by m x s)
    by None None e = h
    by None (Some x) e = taking_minds w (record s { queue = drop 1 s.queue; taken = s.taken + 1 }) x (record { timers = h.timers; readers = h.readers; late = h.late; awaited = h.awaited })
    by (Some i) x e = subst (λ (m : Option Fault). Minds w (did m i s)) (sym (free_first s k i e)) (rule_minds w s k i (first_item s k i e) (drop 1 s.work) (s.taken + 1) h)

    unless_ended : (t : Bool) → Minds w (if t then s else step_by (slice_get s.work 0) (slice_get s.queue 0) s)
    unless_ended true = h
    unless_ended false = by (slice_get s.work 0) (slice_get s.queue 0) refl

pub posted_minds : (w : Flow) (s : State) (i : Input) → Minds w s → Minds w (posted i s)
posted_minds w s i h = by (obstacle i s)
  where
    by : (m : Option Obstacle) → Minds w (posted_by m i s)
    by None = record { timers = h.timers; readers = h.readers; late = h.late; awaited = h.awaited }
    by (Some o) = h

-- the timers that are there are those of the configuration, each at most as often

once_each : (x : TimerKey) (ys : List TimerKey) → once (list_any (same_timer x) ys) ≤ count_timer x (each_once ys)
once_each x [] = omega arith
once_each x (y ∷ ys) = by (list_any (same_timer y) ys) refl (same_timer x y) refl (once_each x ys)
  where
    by : (a : Bool) → list_any (same_timer y) ys ≡ a → (b : Bool) → same_timer x y ≡ b → once (list_any (same_timer x) ys) ≤ count_timer x (each_once ys) → once (b || list_any (same_timer x) ys) ≤ count_timer x (if a then each_once ys else y ∷ each_once ys)
    by true e true f h =
        let again : once (list_any (same_timer x) ys) ≡ 1 = ap once (ap (λ (z : TimerKey). list_any (same_timer z) ys) (key_same x y f) ∙ e) in
        omega (arith, h, again)
    by true e false f h = h
    by false e true f h = let one : once (same_timer x y) ≡ 1 = ap once f in omega (arith, one)
    by false e false f h = omega (arith, h)

any_filtered : (p : TimerKey → Bool) (x : TimerKey) (ys : List TimerKey) → p x ≡ true → once (list_any (same_timer x) ys) ≤ once (list_any (same_timer x) (filter p ys))
any_filtered p x [] is = omega arith
any_filtered p x (y ∷ ys) is = by (p y) refl (same_timer x y) refl (any_filtered p x ys is)
  where
    most : (t : Bool) → once t ≤ 1
    most true = omega arith
    most false = omega arith

    by : (a : Bool) → p y ≡ a → (b : Bool) → same_timer x y ≡ b → once (list_any (same_timer x) ys) ≤ once (list_any (same_timer x) (filter p ys)) → once (b || list_any (same_timer x) ys) ≤ once (list_any (same_timer x) (cond a (y ∷ filter p ys) (filter p ys)))
    by true e true f h = let one : once (same_timer x y || list_any (same_timer x) (filter p ys)) ≡ 1 = ap (λ (t : Bool). once (t || list_any (same_timer x) (filter p ys))) f in omega (arith, one)
    by true e false f h = let other : once (same_timer x y || list_any (same_timer x) (filter p ys)) ≡ once (list_any (same_timer x) (filter p ys)) = ap (λ (t : Bool). once (t || list_any (same_timer x) (filter p ys))) f in omega (arith, other, h)
    by false e true f h = let never : true ≡ false = sym is ∙ ap p (key_same x y f) ∙ e in absurd cc
    by false e false f h = h

-- what is present is of a group of the configuration

or_first : (a b : Bool) → a ≡ true → (a || b) ≡ true
or_first true b e = refl
or_first false b e = absurd cc

or_second : (a b : Bool) → b ≡ true → (a || b) ≡ true
or_second true b e = refl
or_second false b e = e

parts_grouped : (v : Service) (c : Config) → is_service v ≡ true → list_all (λ (p : Fixed). is_group_in c p.key.group) (present v c) ≡ true
parts_grouped v c good =
    all_joined (λ (p : Fixed). is_group_in c p.key.group) (group_parts v c.app) (scene_parts v c.scene)
    (all_follow (is_in c.app) (λ (p : Fixed). is_group_in c p.key.group) (λ p h. or_first (bytes_eq p.key.group c.app) _ h) (group_parts v c.app) (group_parts_in v c.app good))
    (by c.scene)
  where
    by : (m : Option (List ℕ)) → list_all (λ (p : Fixed). bytes_eq p.key.group c.app || option_map_or (bytes_eq p.key.group) m false) (scene_parts v m) ≡ true
    by None = refl
    by (Some g) = all_follow (is_in g) (λ (p : Fixed). bytes_eq p.key.group c.app || bytes_eq p.key.group g) (λ p h. or_second (bytes_eq p.key.group c.app) (bytes_eq p.key.group g) h) (group_parts v g) (group_parts_in v g good)

group_grouped : (v : Service) (c : Config) (g : List ℕ) → is_service v ≡ true → is_there (group_ref g) (present v c) ≡ true → is_group_in c g ≡ true
group_grouped v c g good there = by (part_at (group_ref g) (present v c)) refl there
  where
    by : (m : Option Fixed) → part_at (group_ref g) (present v c) ≡ m → option_map_or (λ (p : Fixed). true) m false ≡ true → is_group_in c g ≡ true
    by None e is = absurd cc
    by (Some p) e is =
        let hit = found (λ (z : Fixed). same_ref (group_ref g) z.key) (λ (z : Fixed). is_group_in c z.key.group) (present v c) p (parts_grouped v c good) e in
        subst (λ (r : ObjRef). is_group_in c r.group ≡ true) (sym (same_ref-same (group_ref g) p.key hit.0)) hit.1

none_elsewhere : (v : Service) (c : Config) (x : TimerKey) (ts : List Timer) → is_service v ≡ true → is_group_in c x.0 ≡ false → list_all (has_group (present v c)) ts ≡ true → count_timer x (keys ts) ≡ 0
none_elsewhere v c x [] good other h = refl
none_elsewhere v c x (t ∷ ts) good other h = by (same_timer x (timer_key t)) refl (none_elsewhere v c x ts good other (and_right (has_group (present v c) t) (list_all (has_group (present v c)) ts) h))
  where
    here : is_group_in c t.group ≡ true
    here = group_grouped v c t.group good (and_left (has_group (present v c) t) (list_all (has_group (present v c)) ts) h)

    by : (b : Bool) → same_timer x (timer_key t) ≡ b → count_timer x (keys ts) ≡ 0 → once b + count_timer x (keys ts) ≡ 0
    by true e none = let never : false ≡ true = sym other ∙ ap (λ (y : TimerKey). is_group_in c y.0) (key_same x (timer_key t) e) ∙ here in absurd cc
    by false e none = omega (arith, none)

timers_there : (v : Service) (w : Flow) (c : Config) (ts : List Timer) → is_service v ≡ true → AreSettable v w ts → list_all (has_group (present v c)) ts ≡ true → (x : TimerKey) → count_timer x (keys ts) ≤ count_timer x (timers v w c)
timers_there v w c ts good can have x = by (is_group_in c x.0) refl
  where
    is : TimerKey → Bool
    is y = is_group_in c y.0

    by : (b : Bool) → is_group_in c x.0 ≡ b → count_timer x (keys ts) ≤ count_timer x (timers v w c)
    by true e =
        let one = can x in
        let two = any_filtered is x (cost.set_timers v w) e in
        let three = once_each x (filter is (cost.set_timers v w)) in
        omega (arith, one, two, three)
    by false e = let none = none_elsewhere v c x ts good e have in omega (arith, none)

-- what attends a step
pub attends_of : (w : Flow) (s : State) (k : IsSafeBy w s) → Minds w s → Attends w s
attends_of w s k h = record {
  groups = λ g is. group_there s k g is;
  timers = timers_there s.service w (config_of s) s.timers k.accepted.service h.timers k.timers;
  waits = λ name. each (all s.objects) name;
  awaited = h.awaited;
}
  where
    ps : List Fixed
    ps = present s.service (config_of s)

    -- who waits has content
    reader : (name : List ℕ) (ws : List Wait) (r : ObjRef) → list_all (can_read ps) ws ≡ true → waits_for name ws r ≡ true → is_reader (class_at r ps) ≡ true
    reader name [] r h e = absurd cc
    reader name (x ∷ ws) r h e = by (same_ref r x.object) (bytes_eq x.name name) refl (λ k. reader name ws r (and_right (can_read ps x) (list_all (can_read ps) ws) h) k) e
      where
        by : (a b : Bool) → same_ref r x.object ≡ a → (waits_for name ws r ≡ true → is_reader (class_at r ps) ≡ true) → (a && b || waits_for name ws r) ≡ true → is_reader (class_at r ps) ≡ true
        by true true same further e = subst (λ (q : ObjRef). is_reader (class_at q ps) ≡ true) (sym (same_ref-same r x.object same)) (and_left (can_read ps x) (list_all (can_read ps) ws) h)
        by true false same further e = further e
        by false b same further e = further e

    each : (os : List Object) (name : List ℕ) → Each (λ (o : Object). is_waiting name s.waits o ≡ true → is_reader (class_at o.fixed.key ps) ≡ true) os
    each [] name = tt
    each (o ∷ os) name = (λ e. reader name s.waits o.fixed.key h.readers e, each os name)
