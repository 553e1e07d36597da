-- What may sound is closed, and a link that waits for none of it never hears anything.
use Rattle.std.specs.Prelude.{◌≡◌, ◌≤◌, ℕ, ◌==◌, Bool, true, false, ◌&&◌, ◌||◌, not, if◌then◌else◌, List, [], ◌∷◌, map, filter, length, Option, Some, None, ℤ, pos, refl}
use Rattle.std.specs.Cmp.Derive.{both_true}
use Rattle.std.specs.List.{flat_map, list_all, list_any}
use Rattle.std.specs.Ordering.{int_eq}
use Rattle.std.proofs.Common.{arith, ap, sym, subst, inl, inr, ◌∙◌}
use Rattle.std.proofs.lemmas.Bool.Decides.{Decides-eqb, Decides-int_eq}
use Rattle.indexmap.specs.IndexSet.{insert_all}
use Rattle.mh_base.specs.declared.event.EventType.{EventType}
use Rattle.mh_base.specs.declared.event.EventType.TheVariants as event
use Rattle.mh_base.specs.declared.obj_ref.ObjRef.{ObjRef}
use Rattle.mh_base.specs.declared.value.Value.{Value}
use Rattle.mh_base.specs.declared.value.Value.TheVariants as value
use Rattle.mh_base.specs.Event.{number_of}
use Rattle.mh_group.specs.declared.action_name.ActionName.{ActionName}
use Rattle.mh_group.specs.declared.action_name.ActionName.TheVariants as action
use Rattle.mh_group.specs.Table.{is_link, is_scene}
use Rattle.mh_model.specs.declared.act.Act.{Act}
use Rattle.mh_model.specs.declared.act.Argument.{Argument}
use Rattle.mh_model.specs.declared.act.Argument.TheVariants as argument
use Rattle.mh_model.specs.declared.config.Config.{Config}
use Rattle.mh_model.specs.declared.event.Event.{Event}
use Rattle.mh_model.specs.declared.input.Waiting.TheVariants as waiting
use Rattle.mh_model.specs.declared.item.Item.TheVariants as item
use Rattle.mh_model.specs.declared.key.Key.{Key}
use Rattle.mh_model.specs.declared.key.Key.TheVariants as key
use Rattle.mh_model.specs.declared.object.Fixed.{Fixed}
use Rattle.mh_model.specs.declared.time.Timer.{Timer}
use Rattle.mh_model.specs.Configuration.{present, starting}
use Rattle.mh_model.specs.Effects.{actions}
use Rattle.mh_model.specs.Items.{hears_data, hears_source, hears_type}
use Rattle.mh_model.specs.Key.{key_number, keys, passes}
use Rattle.mh_model.specs.Reference.{group_ref, same_key}
use Rattle.mh_model.specs.Saying.{event_numbered}
use Rattle.mh_model.specs.Service.{Service}
use Rattle.mh_model.specs.Step.{engine_event, key_event}
use Rattle.mh_model.specs.Time.{timer_event}
use Rattle.mh_model.proofs.ListLemmas.{and_left, and_right}
use Rattle.mh_model.proofs.ServiceLemmas.{same_ref-same}
use Rattle.mh_laws.specs.Active.{active_actions, is_active}
use Rattle.mh_laws.specs.Budget.{IsAccepted}
use Rattle.mh_laws.specs.Costs.{Effect, TimerKey, acts_price, can_hear, data_sent, effect_at, enter, input_price, set_by, targets}
use Rattle.mh_laws.specs.Each.{Among}
use Rattle.mh_laws.specs.Flow.{Flow, reached}
use Rattle.mh_laws.specs.Layers.{costs}
use Rattle.mh_laws.specs.Price.{Price, Nothing, One, Node, Plus, Most, Nodes}
use Rattle.mh_laws.specs.Safe.{IsSafeBy, config_of}
use Rattle.mh_laws.specs.Ways.{Told, Sure, Unsure, IsKnown}
use Rattle.mh_laws.proofs.EachLemmas.{among_all, among_filtered, among_joined, among_left, among_mapped, among_right, each_among}
use Rattle.mh_laws.proofs.NodeLemmas.{config_among}
use Rattle.mh_never.specs.Never.{HoldsOfLiving, IsClosed, IsOfSets, IsWakeClosed}
use Rattle.mh_never.specs.Running.{Doings, Runners}
use Rattle.mh_never.specs.Saying.{IsSaidClosed, IsSaidIn, IsWaitIn, Sayings, first_register, is_usual}
use Rattle.mh_never.proofs.NeverLemmas.{never_others as law}
use Rattle.mh_never.proofs.RegisterLemmas.{scene_heard}
use Rattle.mh_alive.specs.declared.registers.Choice.{Choice}
use Rattle.mh_alive.specs.declared.registers.Register.{Register}
use Rattle.mh_alive.specs.declared.sendings.Sending.{Sending}
use Rattle.mh_alive.specs.declared.settings.Setting.{Setting}
use Rattle.mh_alive.specs.declared.tellings.SetTimer.{SetTimer}
use Rattle.mh_alive.specs.Alive.{Alive, InEachRun, IsAliveOf, IsDeafAt, IsUnheard, never_hears}
use Rattle.mh_alive.specs.Hearing.{Ears, by_links, ears, hearers, hearing_of, is_hearing, may_listen, may_sound, sends, setting, settings, settings_by, settings_in, settings_of}
use Rattle.mh_alive.specs.Registers.{choice_of, has_register, is_let, lets, lets_any, lets_number, lets_numbered, number_given, plain_register, register, registers, registers_by, registers_in, same_register, sets_register, written_registers}
use Rattle.mh_alive.specs.Sendings.{same_sending, sending_of, sent, sent_by, sent_in}
use Rattle.mh_alive.specs.Tellings.{same_timer, set_to}
use Rattle.mh_alive.specs.There.{comes_to}
use Rattle.mh_alive.specs.Timers.{Timers, is_timed, timers_with}
use Rattle.mh_alive.proofs.ActLemmas.{effect_among}
use Rattle.mh_alive.proofs.ComingLemmas.{data_of, group_timed, grouped, one_kind, source_of, timer_itself, type_of}
use Rattle.mh_alive.proofs.InputLemmas.{all_run, run_any, set_one}
use Rattle.mh_alive.proofs.ReachLemmas.{stays_safe}
use Rattle.mh_alive.proofs.RunLemmas.{comes_where, if_there, key_itself}
use Rattle.mh_alive.proofs.SayLemmas.{sending_itself, sent_here}
use Rattle.mh_alive.proofs.SetLemmas.{or_first, or_second, put_there}
use Rattle.mh_alive.proofs.SettleLemmas.{settle_closed, settle_groups, settle_keeps, stays}

or_more : (a b c : Bool) → (b ≡ true → c ≡ true) → (a || b) ≡ true → (a || c) ≡ true
or_more true b c more h = refl
or_more false b c more h = more h

any_more : {X : Type 0} (p q : X → Bool) → ((x : X) → p x ≡ true → q x ≡ true) → (xs : List X) → list_any p xs ≡ true → list_any q xs ≡ true
any_more p q more [] h = absurd cc
any_more {X} p q more (x ∷ xs) h = by (p x) refl h (any_more p q more xs)
  where
    by : (b : Bool) → p x ≡ b → (b || list_any p xs) ≡ true → (list_any p xs ≡ true → list_any q xs ≡ true) → (q x || list_any q xs) ≡ true
    by true is g rest = or_first (q x) (list_any q xs) (more x is)
    by false is g rest = or_second (q x) (list_any q xs) (rest g)

all_each : {X : Type 0} (p : X → Bool) (xs : List X) → ((x : X) → Among xs x → p x ≡ true) → list_all p xs ≡ true
all_each p [] one = refl
all_each {X} p (x ∷ xs) one = both_true (one x (inl refl)) (all_each p xs (λ y h. one y (inr h)))

-- WHAT SOUNDS, event by event

abbrev is_set : Timers → ObjRef → Option Value → Bool
is_set ts r (Some (value.Int n)) = list_any (same_timer (record { at = r; id = n })) ts.set
is_set ts r _ = false

abbrev is_pressed : Choice → Option Value → Bool
is_pressed c (Some (value.Int n)) = lets_number c n
is_pressed c _ = false

abbrev sounds : Ears → ObjRef → EventType → Option Value → Bool
sounds x r event.TimerFired d = sends x.sent event.TimerFired || is_set x.timers r d
sounds x r event.UserInput d = sends x.sent event.UserInput || is_pressed (choice_of x.registers r) d
sounds x r _ d = true

abbrev says_in : Ears → Sayings
says_in x e = sounds x e.source e.kind e.data

-- a link that can hear it may

timer_heard : (ts : Timers) → ts ≡ timers_with ts.set → (r : ObjRef) (d m : Option Value) → hears_data d m ≡ true → is_set ts r m ≡ true → is_timed ts r d ≡ true
timer_heard ts whole r d (Some (value.Int n)) hears set = by d hears
  where
    by : (d : Option Value) → hears_data d (Some (value.Int n)) ≡ true → is_timed ts r d ≡ true
    by None h = ap (λ (x : Timers). list_any (same_key r) x.groups) whole ∙ group_timed ts.set (record { at = r; id = n }) set
    by (Some (value.Int k)) h = subst (λ (i : ℤ). list_any (same_timer (record { at = r; id = i })) ts.set ≡ true) (sym ((Decides-int_eq k n).0 h)) set
    by (Some _) h = absurd cc
timer_heard ts whole r d None hears set = absurd cc
timer_heard ts whole r d (Some _) hears set = absurd cc

number_any : (c : Choice) (n : ℤ) → lets_number c n ≡ true → lets_any c ≡ true
unfolding lets_any lets_number
number_any c n h = any_more (lets_numbered c n) (lets c) (λ x e. and_right (int_eq (key_number x) n) (lets c x) e) keys h

key_heard : (c : Choice) (d m : Option Value) → hears_data d m ≡ true → is_pressed c m ≡ true → is_let c d ≡ true
key_heard c d (Some (value.Int n)) hears pressed = by d hears
  where
    by : (d : Option Value) → hears_data d (Some (value.Int n)) ≡ true → is_let c d ≡ true
    by None h = number_any c n pressed
    by (Some (value.Int k)) h = subst (λ (i : ℤ). lets_number c i ≡ true) (sym ((Decides-int_eq k n).0 h)) pressed
    by (Some _) h = absurd cc
key_heard c d None hears pressed = absurd cc
key_heard c d (Some _) hears pressed = absurd cc

sound_heard : (x : Ears) → x.timers ≡ timers_with x.timers.set → (r : ObjRef) (kind : EventType) (d m : Option Value) → hears_data d m ≡ true → sounds x r kind m ≡ true → may_sound x r kind d ≡ true
sound_heard x whole r event.TimerFired d m hears says = or_more (sends x.sent event.TimerFired) (is_set x.timers r m) (is_timed x.timers r d) (timer_heard x.timers whole r d m hears) says
sound_heard x whole r event.UserInput d m hears says = or_more (sends x.sent event.UserInput) (is_pressed (choice_of x.registers r) m) (is_let (choice_of x.registers r) d) (key_heard (choice_of x.registers r) d m hears) says
sound_heard x whole r _ d m hears says = refl

can_hear_hearing : (x : Ears) → x.timers ≡ timers_with x.timers.set → (p : Fixed) (e : Event) → says_in x e ≡ true → can_hear e p ≡ true → is_hearing x p ≡ true
can_hear_hearing x whole p e says h =
    let with_type = and_left (is_link p.class && hears_source (source_of p) e.source && hears_type (type_of p) e.kind) (hears_data (data_of p) e.data) h in
    let with_source = and_left (is_link p.class && hears_source (source_of p) e.source) (hears_type (type_of p) e.kind) with_type in
    both_true (and_left (is_link p.class) (hears_source (source_of p) e.source) with_source)
    (by (source_of p) (type_of p)
    (and_right (is_link p.class) (hears_source (source_of p) e.source) with_source)
    (and_right (is_link p.class && hears_source (source_of p) e.source) (hears_type (type_of p) e.kind) with_type))
  where
    sound : may_sound x e.source e.kind (data_of p) ≡ true
    sound = sound_heard x whole e.source e.kind (data_of p) e.data (and_right (is_link p.class && hears_source (source_of p) e.source && hears_type (type_of p) e.kind) (hears_data (data_of p) e.data) h) says

    by : (s : Option Value) (k : Option EventType) → hears_source s e.source ≡ true → hears_type k e.kind ≡ true → may_listen x s k (data_of p) ≡ true
    by (Some (value.Object q)) (Some k) f g =
        subst (λ (z : EventType). may_sound x q z (data_of p) ≡ true) (sym (one_kind k e.kind g))
        (subst (λ (z : ObjRef). may_sound x z e.kind (data_of p) ≡ true) (sym (same_ref-same q e.source f)) sound)
    by (Some (value.Object q)) None f g = absurd cc
    by (Some (value.Bool b)) k f g = absurd cc
    by (Some (value.Int n)) k f g = absurd cc
    by (Some (value.Octets n)) k f g = absurd cc
    by (Some (value.Content n)) k f g = absurd cc
    by None k f g = absurd cc

abbrev wakes_in : Service → Ears → Runners
wakes_in v x r = list_any (same_key r) (hearers v x)

wake_closed : (v : Service) (w : Flow) (x : Ears) → x.timers ≡ timers_with x.timers.set → IsWakeClosed v w all_run (says_in x) (wakes_in v x)
wake_closed v w x whole = record { hears = hears }
  where
    hears : (c : Config) → reached w c ≡ true → (p : Fixed) → Among (present v c) p → all_run p.key ≡ true → (e : Event) → says_in x e ≡ true → can_hear e p ≡ true → wakes_in v x p.key ≡ true
    hears c among p there runs e says can =
        let g = grouped v c p there in
        put_there same_key key_itself [] (flat_map (λ (y : List ℕ × List Fixed). hearing_of x y.1) v.groups) p.key
        (among_joined (λ (y : List ℕ × List Fixed). hearing_of x y.1) v.groups g.0 p.key g.1
        (among_mapped (λ (q : Fixed). q.key) (filter (is_hearing x) g.0.1) p (among_filtered (is_hearing x) g.0.1 p (can_hear_hearing x whole p e says can) g.2)))

-- CLOSED

abbrev timer_of : TimerKey → SetTimer
timer_of t = record { at = group_ref t.0; id = t.1 }

-- the actions that set none but timers which are there
abbrev only_set : Flow → Ears → Doings
only_set w x c a = list_all (λ (t : TimerKey). list_any (same_timer (timer_of t)) x.timers.set) (set_by w c a)

-- what is sent

sending_kind : (k : ℕ) (t : Told) → (sending_of k t).kind ≡ k
sending_kind k Unsure = refl
sending_kind k (Sure None) = refl
sending_kind k (Sure (Some (value.Bool true))) = refl
sending_kind k (Sure (Some (value.Bool false))) = refl
sending_kind k (Sure (Some (value.Int n))) = refl
sending_kind k (Sure (Some _)) = refl

sends_kind : (v : Service) (w : Flow) (c : Config) (a : Act) (y : Argument) (n : ℤ) (more : List Argument) (kind : EventType) → reached w c ≡ true → Among (active_actions (present v c)) a → a.name ≡ action.SendEvent → a.arguments ≡ y ∷ argument.Direct (value.Int n) ∷ more → event_numbered n ≡ Some kind → sends (ears v w).sent kind ≡ true
sends_kind v w c a y n more kind among there named are numbered =
    subst (λ (ss : List Sending). sends ss kind ≡ true) (sym (settle_keeps (length (by_links (settings v w))) v _ (by_links (settings v w))).0)
    (any_more (same_sending one) (λ (s : Sending). s.kind == number_of kind) same (insert_all same_sending [] (sent v w))
    (put_there same_sending sending_itself [] (sent v w) one
    (among_joined (sent_in v) w.configs c one (config_among w.configs c among)
    (among_joined sent_by (active_actions (present v c)) a one there (sent_here a y n more kind named are numbered)))))
  where
    one : Sending
    one = sending_of (number_of kind) (data_sent more)

    same : (s : Sending) → same_sending one s ≡ true → (s.kind == number_of kind) ≡ true
    same s h =
        let kinds = (Decides-eqb one.kind s.kind).0 (and_left (one.kind == s.kind) (one.sort == s.sort) (and_left (one.kind == s.kind && one.sort == s.sort) (int_eq one.number s.number) h)) in
        (Decides-eqb s.kind (number_of kind)).1 (sym kinds ∙ sending_kind (number_of kind) (data_sent more))

sent_sounds : (x : Ears) (r : ObjRef) (kind : EventType) (d : Option Value) → sends x.sent kind ≡ true → sounds x r kind d ≡ true
sent_sounds x r event.TimerFired d h = or_first (sends x.sent event.TimerFired) (is_set x.timers r d) h
sent_sounds x r event.UserInput d h = or_first (sends x.sent event.UserInput) (is_pressed (choice_of x.registers r) d) h
sent_sounds x r _ d h = refl

usual_sounds : (x : Ears) (r : ObjRef) (kind : EventType) (d : Option Value) → is_usual kind d ≡ true → sounds x r kind d ≡ true
usual_sounds x r event.TimerFired d h = absurd cc
usual_sounds x r event.UserInput d h = absurd cc
usual_sounds x r _ d h = refl

-- registers

register_itself : (g : Register) → same_register g g ≡ true
register_itself g = both_true (key_itself g.at) ((Decides-int_eq g.number g.number).1 refl)

register_there : (v : Service) (w : Flow) (c : Config) (g : Register) → reached w c ≡ true → Among (registers_in v w c) g → has_register (ears v w).registers g.at g.number ≡ true
register_there v w c g among h =
    subst (λ (gs : List Register). list_any (same_register g) gs ≡ true) (sym (settle_keeps (length (by_links (settings v w))) v _ (by_links (settings v w))).1)
    (put_there same_register register_itself [] (registers v w) g (among_joined (registers_in v w) w.configs c g (config_among w.configs c among) h))

-- one that lets the key through is among those that are told apart
plain_lets : (gs : List Register) (r : ObjRef) (n : ℤ) (k : Key) → has_register gs r (plain_register n) ≡ true → passes n k ≡ true → lets (choice_of gs r) k ≡ true
plain_lets gs r n k has passed = by (int_eq n (pos 3)) (int_eq n (pos 5)) refl refl has
  where
    all : Bool
    all = has_register gs r (pos 4)

    digitless : Bool
    digitless = has_register gs r (pos 5) && passes (pos 5) k

    coloured : Bool
    coloured = has_register gs r (pos 3) && passes (pos 3) k

    by : (b d : Bool) → int_eq n (pos 3) ≡ b → int_eq n (pos 5) ≡ d → has_register gs r (if b then pos 3 else (if d then pos 5 else pos 4)) ≡ true → (all || digitless || coloured) ≡ true
    by true d three five h =
        or_second (all || digitless) coloured (both_true h (subst (λ (i : ℤ). passes i k ≡ true) ((Decides-int_eq n (pos 3)).0 three) passed))
    by false true three five h =
        or_first (all || digitless) coloured (or_second all digitless (both_true h (subst (λ (i : ℤ). passes i k ≡ true) ((Decides-int_eq n (pos 5)).0 five) passed)))
    by false false three five h = or_first (all || digitless) coloured (or_first all digitless h)

-- every key has its number
lets_keyed : (c : Choice) (k : Key) → lets c k ≡ true → lets_number c (key_number k) ≡ true
unfolding lets_number
lets_keyed c key.Up h = or_first (lets c key.Up) false h
lets_keyed c _ h = or_first _ false h

pressed_sounds : (v : Service) (w : Flow) (c : Config) (r : ObjRef) (n : ℤ) (k : Key) → reached w c ≡ true → Among (registers_in v w c) (register r n) → passes n k ≡ true → says_in (ears v w) (key_event k r) ≡ true
pressed_sounds v w c r n k among there passed =
    or_second (sends (ears v w).sent event.UserInput) (lets_number (choice_of (ears v w).registers r) (key_number k))
    (lets_keyed (choice_of (ears v w).registers r) k (plain_lets (ears v w).registers r n k (register_there v w c (register r n) among there) passed))

abbrev number_of_value : Option Value → ℤ → ℤ
number_of_value (Some (value.Int n)) d = n
number_of_value _ d = d

given_passes : (xs : List Argument) (n : ℤ) (k : Key) → IsKnown (data_sent xs) (Some (value.Int n)) → passes n k ≡ true → passes (number_given xs) k ≡ true
given_passes [] n k known passed = absurd cc
given_passes (argument.Direct (value.Int m) ∷ xs) n k known passed = subst (λ (i : ℤ). passes i k ≡ true) (ap (λ (d : Option Value). number_of_value d n) known) passed
given_passes (argument.Direct (value.Bool b) ∷ xs) n k known passed = absurd cc
given_passes (argument.Direct (value.Octets b) ∷ xs) n k known passed = absurd cc
given_passes (argument.Direct (value.Object b) ∷ xs) n k known passed = absurd cc
given_passes (argument.Direct (value.Content b) ∷ xs) n k known passed = absurd cc
given_passes (argument.Through q u ∷ xs) n k known passed = refl
given_passes (argument.Receiver q ∷ xs) n k known passed = refl

sets_it : (n : ActionName) → n ≡ action.SetInputRegister → sets_register n ≡ true
sets_it n e = ap sets_register e

-- a timer that is set by what may be put to work is there

set_among : (v : Service) (w : Flow) (c : Config) (p : Fixed) (a : Act) (t : TimerKey) → reached w c ≡ true → Among (present v c) p → is_active (present v c) p ≡ true → Among (actions p) a → Among (set_by w c a) t → Among (settings v w) (setting p (timer_of t))
set_among v w c p a t among there active own h =
    among_joined (settings_in v w) w.configs c (setting p (timer_of t)) (config_among w.configs c among)
    (among_joined (settings_of (w.sets c)) (filter (is_active (present v c)) (present v c)) p (setting p (timer_of t)) (among_filtered (is_active (present v c)) (present v c) p active there)
    (among_joined (settings_by (w.sets c) p) (actions p) a (setting p (timer_of t)) own
    (among_mapped (setting p) (set_to a.name a.arguments (comes_to (w.sets c) a.target)) (timer_of t)
    (subst (λ (rs : List ObjRef). Among (set_to a.name a.arguments rs) (timer_of t)) (sym (comes_where w c a.target)) (set_one a.name a.arguments (targets w c a.target) t h)))))

set_there : (v : Service) (w : Flow) (c : Config) (p : Fixed) (a : Act) (t : TimerKey) → reached w c ≡ true → Among (present v c) p → is_active (present v c) p ≡ true → (not (is_link p.class) || wakes_in v (ears v w) p.key) ≡ true → Among (actions p) a → Among (set_by w c a) t
    → list_any (same_timer (timer_of t)) (ears v w).timers.set ≡ true
set_there v w c p a t among there active awake own h = by (is_link p.class) refl
  where
    all : List Setting
    all = settings v w

    set : Among all (setting p (timer_of t))
    set = set_among v w c p a t among there active own h

    same_length : (n : ℕ) → n ≤ n
    same_length n = omega arith

    -- of a link by the rounds, and else from the start
    by : (b : Bool) → is_link p.class ≡ b → list_any (same_timer (timer_of t)) (ears v w).timers.set ≡ true
    by true link =
        settle_closed (length (by_links all)) v _ (by_links all) (same_length (length (by_links all))) (setting p (timer_of t))
        (among_filtered (λ (s : Setting). s.is_link) all (setting p (timer_of t)) link set) awake
    by false other =
        stays (length (by_links all)) v _ (by_links all) (timer_of t)
        (put_there same_timer timer_itself [] (map (λ (s : Setting). s.timer) (filter (λ (s : Setting). not s.is_link) all)) (timer_of t)
        (among_mapped (λ (s : Setting). s.timer) (filter (λ (s : Setting). not s.is_link) all) (setting p (timer_of t)) (among_filtered (λ (s : Setting). not s.is_link) all (setting p (timer_of t)) (ap not other) set)))

said : (v : Service) (w : Flow) → IsSaidClosed v w (only_set w (ears v w)) (says_in (ears v w))
said v w = record {
  usual = λ r kind d h. usual_sounds (ears v w) r kind d h;
  sent = λ c among a there may named y n more are kind numbered r d known. sent_sounds (ears v w) r kind d (sends_kind v w c a y n more kind among there named are numbered);
  timers = λ c among a there may t set.
      or_second (sends (ears v w).sent event.TimerFired) (list_any (same_timer (timer_of t)) (ears v w).timers.set)
      (among_all (λ (x : TimerKey). list_any (same_timer (timer_of x)) (ears v w).timers.set) (set_by w c a) t may set);
  keys = λ c among p there scene k passed.
      pressed_sounds v w c p.key (first_register p) k among
      (among_left (flat_map written_registers (present v c)) (flat_map (registers_by (w.sets c)) (active_actions (present v c))) (register p.key (first_register p))
      (among_joined written_registers (present v c) p (register p.key (first_register p)) there (if_there (is_scene p.class) (register p.key (first_register p) ∷ []) (register p.key (first_register p)) scene (inl refl)))) passed;
  registers = λ c among a there may named n known r target k passed.
      pressed_sounds v w c r (number_given a.arguments) k among
      (among_right (flat_map written_registers (present v c)) (flat_map (registers_by (w.sets c)) (active_actions (present v c))) (register r (number_given a.arguments))
      (among_joined (registers_by (w.sets c)) (active_actions (present v c)) a (register r (number_given a.arguments)) there
      (if_there (sets_register a.name) (map (λ q. register q (number_given a.arguments)) (comes_to (w.sets c) a.target)) (register r (number_given a.arguments)) (sets_it a.name named)
      (among_mapped (λ q. register q (number_given a.arguments)) (comes_to (w.sets c) a.target) r (subst (λ (rs : List ObjRef). Among rs r) (sym (comes_where w c a.target)) target)))))
      (given_passes a.arguments n k known passed);
}

-- every effect may be put to work, as far as costs tell

abbrev any_effect : Effect → Bool
any_effect y = true

counts_any : (p : Price Effect) → Nodes (λ y. any_effect y ≡ true) p
counts_any Nothing = tt
counts_any One = tt
counts_any (Node y) = refl
counts_any (Plus p q) = (counts_any p, counts_any q)
counts_any (Most p q) = (counts_any p, counts_any q)

any_closed : (v : Service) (w : Flow) (wakes : Runners) → IsClosed v w wakes any_effect
any_closed v w wakes = record { start = counts_any (enter v w (starting v) v.start); inputs = λ c among i. counts_any (input_price v w c i); causes = λ c p n on lives. counts_any (acts_price v w c (effect_at p n)) }

all_set : (v : Service) (w : Flow) → HoldsOfLiving v w (wakes_in v (ears v w)) any_effect (only_set w (ears v w))
all_set v w c p n on lives =
    all_each (only_set w (ears v w) c) (effect_at p n)
    (λ a own. all_each (λ (t : TimerKey). list_any (same_timer (timer_of t)) (ears v w).timers.set) (set_by w c a)
    (λ t h. set_there v w c p a t on.among on.there on.active on.awake (effect_among p n a own) h))

-- THE LAW

pub deaf : (most : ℕ) (v : Service) (k : IsAccepted most v) (a : Alive) (r : ObjRef) → IsAliveOf v k.flow a → never_hears a r ≡ true → InEachRun v (IsDeafAt v r)
deaf most v k a r is never mjd fs ss ms s run p there same = record {
  work = λ e h. no e (each_among (IsSaidIn (says_in x)) s.work (item.Emit e) (so.said).work h);
  queue = λ e h. no e (each_among (IsWaitIn (says_in x)) s.queue (waiting.Event e) (so.said).queue h);
  timers = λ t h. no (timer_event t) (each_among (λ (y : Timer). says_in x (timer_event y) ≡ true) s.timers t (so.said).timers h);
  keys = λ y g scene hears. no (key_event y (group_ref g)) (scene_heard (says_in x) s (so.said).keys safe y g scene hears);
  engine = λ n. no (engine_event n s.application) refl;
}
  where
    x : Ears
    x = ears v k.flow

    whole : x.timers ≡ timers_with x.timers.set
    whole = settle_groups (length (by_links (settings v k.flow))) v _ (by_links (settings v k.flow)) refl

    woken : IsWakeClosed v k.flow all_run (says_in x) (wakes_in v x)
    woken = wake_closed v k.flow x whole

    safe : IsSafeBy k.flow s
    safe = stays_safe v k.flow k.acceptable mjd fs ss ms s run

    so : IsOfSets v k.flow (costs v k.flow k.rank) (only_set k.flow x) all_run (says_in x) any_effect s
    so = law most v k (only_set k.flow x) all_run (run_any v k.flow (only_set k.flow x)) (says_in x) (said v k.flow) (wakes_in v x) woken any_effect (any_closed v k.flow (wakes_in v x)) (all_set v k.flow) mjd fs ss ms s run

    untrue : (b : Bool) → not b ≡ true → b ≡ true → ⊥
    untrue true h e = absurd cc
    untrue false h e = absurd cc

    asleep : wakes_in v x p.key ≡ true → ⊥
    asleep h =
        untrue (list_any (same_key r) a.hearers) never
        (subst (λ (rs : List ObjRef). list_any (same_key r) rs ≡ true) (sym is.hearers) (subst (λ (q : ObjRef). wakes_in v x q ≡ true) same h))

    no : (e : Event) → says_in x e ≡ true → IsUnheard p e
    no e says = by (can_hear e p) refl
      where
        by : (b : Bool) → can_hear e p ≡ b → b ≡ false
        by true can = absurd (asleep (woken.hears (config_of s) safe.among p there refl e says can))
        by false can = refl
