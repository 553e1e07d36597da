-- The effects that may be put to work are closed: the start, each input and each active effect put no other.
use Rattle.std.specs.Prelude.{◌≡◌, ℕ, ◌==◌, Bool, true, false, ◌||◌, not, if◌then◌else◌, List, [], ◌∷◌, filter, Option, Some, None, pos, refl}
use Rattle.std.specs.List.{flat_map, list_any}
use Rattle.std.specs.Option.{option_map_or}
use Rattle.std.proofs.Common.{ap, sym, subst, inl, inr}
use Rattle.mh_base.specs.declared.event.EventType.{EventType}
use Rattle.mh_base.specs.declared.event.EventType.TheVariants as event
use Rattle.mh_base.specs.declared.obj_ref.ObjRef.{ObjRef}
use Rattle.mh_base.specs.declared.value.Value.{Value}
use Rattle.mh_base.specs.declared.value.Value.TheVariants as value
use Rattle.mh_base.specs.Event.{is_sync}
use Rattle.mh_group.specs.declared.class.Class.{Class}
use Rattle.mh_group.specs.declared.class.Class.TheVariants as class
use Rattle.mh_group.specs.Table.{has_content}
use Rattle.mh_model.specs.declared.config.Config.{Config}
use Rattle.mh_model.specs.declared.object.member.Member.{Member}
use Rattle.mh_model.specs.declared.object.Fixed.{Fixed}
use Rattle.mh_model.specs.Configuration.{present}
use Rattle.mh_model.specs.Groups.{is_initially_active}
use Rattle.mh_model.specs.Known.{class_at}
use Rattle.mh_model.specs.Reference.{group_ref, same_key}
use Rattle.mh_model.specs.Service.{Service, group_parts, is_there, part_at}
use Rattle.mh_model.specs.Tokens.{members}
use Rattle.mh_laws.specs.Active.{active_actions}
use Rattle.mh_laws.specs.Costs.{Effect, can_hear, change, effect, emit, enter, entry, event_from, exchange, fired, fired_if_there, group_effect, group_halt, group_run, halt, halt_alone, heard_by, leave_all, leave_scene, link_effect, named_data, on_close_down, on_start_up, rise, rise_of, run, run_alone, scene_closes}
use Rattle.mh_laws.specs.Each.{Among}
use Rattle.mh_laws.specs.Flow.{Flow, reached}
use Rattle.mh_never.specs.Never.{CountsLiving}
use Rattle.mh_laws.specs.Price.{Nothing, Price, if_price, sum_price}
use Rattle.mh_laws.specs.Safe.{exchanged}
use Rattle.mh_laws.specs.Ways.{IsKnown, Sure, Told, Unsure}
use Rattle.mh_laws.proofs.EachLemmas.{among_joined, among_left, among_mapped}
use Rattle.mh_laws.proofs.NodeLemmas.{part_among}
use Rattle.mh_laws.proofs.PriceLemmas.{nodes_if, nodes_most, nodes_sum}
use Rattle.mh_alive.specs.Alive.{Alive, IsAliveOf}
use Rattle.mh_alive.specs.Puts.{comes_always, web}
use Rattle.mh_alive.specs.Tellings.{telling, tellings, tells_itself, told_by, told_itself}
use Rattle.mh_alive.proofs.ComingLemmas.{Comes, always_comes, hears_put, link_lives, lives_in, told_comes}
use Rattle.mh_alive.proofs.RunLemmas.{found_key}

abbrev pub Lives : Alive → Price Effect → Type 0
Lives a p = CountsLiving (lives_in a) p

-- Events

heard_lives : (v : Service) (w : Flow) (a : Alive) → IsAliveOf v w a → (c : Config) (r : ObjRef) (kind : EventType) (t : Told) (m : Option Value)
    → Comes (web v w) r kind t → IsKnown t m → Lives a (heard_by c (event_from r kind m) (present v c))
heard_lives v w a is c r kind t m comes known =
    nodes_sum (λ y. lives_in a y ≡ true) (λ (p : Fixed). if_price (can_hear (event_from r kind m) p) (effect c link_effect p)) (present v c)
    (λ p there. nodes_if (λ y. lives_in a y ≡ true) (can_hear (event_from r kind m) p) (effect c link_effect p)
    (λ hears. link_lives v w a c p is there (hears_put (web v w) p r kind t m comes known hears)))

pub fired_lives : (v : Service) (w : Flow) (a : Alive) → IsAliveOf v w a → (c : Config) (r : ObjRef) (kind : EventType) (t : Told)
    → Comes (web v w) r kind t → Lives a (fired v c r kind t)
fired_lives v w a is c r kind (Sure m) comes = heard_lives v w a is c r kind (Sure m) m comes refl
fired_lives v w a is c r kind Unsure comes =
    nodes_most (λ y. lives_in a y ≡ true) (λ m. heard_by c (event_from r kind m) (present v c)) (named_data (present v c)) (λ m h. heard_lives v w a is c r kind Unsure m comes tt)

there_lives : (v : Service) (w : Flow) (a : Alive) → IsAliveOf v w a → (c : Config) (r : ObjRef) (kind : EventType) (t : Told)
    → Comes (web v w) r kind t → Lives a (fired_if_there v c r kind t)
there_lives v w a is c r kind t comes = nodes_if (λ y. lives_in a y ≡ true) (is_there r (present v c)) (fired v c r kind t) (λ there. fired_lives v w a is c r kind t comes)

pub entry_lives : (v : Service) (w : Flow) (a : Alive) → IsAliveOf v w a → (r : ObjRef) (kind : EventType) (t : Told)
    → Comes (web v w) r kind t → Lives a (entry v w r kind t)
entry_lives v w a is r kind t comes = (tt, nodes_most (λ y. lives_in a y ≡ true) (λ c. fired_if_there v c r kind t) w.configs (λ c h. there_lives v w a is c r kind t comes))

pub emit_lives : (v : Service) (w : Flow) (a : Alive) → IsAliveOf v w a → (c : Config) (r : ObjRef) (kind : EventType) (t : Told)
    → Comes (web v w) r kind t → Lives a (emit v w c r kind t)
emit_lives v w a is c r kind t comes = (tt, by (is_sync kind))
  where
    by : (b : Bool) → Lives a (if b then fired_if_there v c r kind t else entry v w r kind t)
    by true = there_lives v w a is c r kind t comes
    by false = entry_lives v w a is r kind t comes

-- what comes of each object that can have it
pub always_lives : (v : Service) (w : Flow) (a : Alive) → IsAliveOf v w a → (c : Config) (r : ObjRef) (kind : EventType) (t : Told)
    → comes_always r kind ≡ true → Lives a (emit v w c r kind t)
always_lives v w a is c r kind t e = emit_lives v w a is c r kind t (always_comes (web v w) r kind t e)

-- Life

pub rise_lives : (v : Service) (w : Flow) (a : Alive) → IsAliveOf v w a → (c : Config) (r : ObjRef) → Lives a (rise v w c r)
rise_lives v w a is c r = by (class_at r (present v c))
  where
    by : (m : Option Class) → Lives a (option_map_or (rise_of v w c r) m Nothing)
    by None = tt
    by (Some k) = (always_lives v w a is c r event.IsAvailable (Sure None) refl, nodes_if (λ y. lives_in a y ≡ true) (has_content k) (emit v w c r event.ContentAvailable (Sure None)) (λ e. always_lives v w a is c r event.ContentAvailable (Sure None) refl))

pub run_alone_lives : (v : Service) (w : Flow) (a : Alive) → IsAliveOf v w a → (c : Config) (r : ObjRef) → Lives a (run_alone v w c r)
run_alone_lives v w a is c r = (tt, (rise_lives v w a is c r, always_lives v w a is c r event.IsRunning (Sure None) refl))

pub halt_alone_lives : (v : Service) (w : Flow) (a : Alive) → IsAliveOf v w a → (c : Config) (r : ObjRef) → Lives a (halt_alone v w c r)
halt_alone_lives v w a is c r = (tt, always_lives v w a is c r event.IsStopped (Sure None) refl)

-- the events of these types come of the object
abbrev pub AllCome : Service → Flow → ObjRef → List EventType → Type 0
AllCome v w r es = (kind : EventType) (t : Told) → Among es kind → Comes (web v w) r kind t

abbrev pub list_events : List EventType
list_events = event.FirstItemPresented ∷ event.LastItemPresented ∷ event.HeadItems ∷ event.TailItems ∷ []

pub change_lives : (v : Service) (w : Flow) (a : Alive) → IsAliveOf v w a → (c : Config) (r : ObjRef) → AllCome v w r list_events → Lives a (change v w c r)
change_lives v w a is c r come = (
  nodes_sum (λ y. lives_in a y ≡ true) (halt_alone v w c) (w.sets c r) (λ x h. halt_alone_lives v w a is c x),
  (
    nodes_sum (λ y. lives_in a y ≡ true) (run_alone v w c) (w.sets c r) (λ x h. run_alone_lives v w a is c x),
    (
      emit_lives v w a is c r event.FirstItemPresented Unsure (come event.FirstItemPresented Unsure (inl refl)),
      (
        emit_lives v w a is c r event.LastItemPresented Unsure (come event.LastItemPresented Unsure (inr (inl refl))),
        (
          emit_lives v w a is c r event.HeadItems Unsure (come event.HeadItems Unsure (inr (inr (inl refl)))),
          emit_lives v w a is c r event.TailItems Unsure (come event.TailItems Unsure (inr (inr (inr (inl refl))))),
        ),
      ),
    ),
  ),
)

-- what an object that is present tells though no action tells it
pub itself_comes : (v : Service) (w : Flow) (c : Config) (p : Fixed) (k : Class) → reached w c ≡ true → Among (present v c) p → p.class ≡ k → AllCome v w p.key (tells_itself k)
itself_comes v w c p k among there same kind t h =
    told_comes v w c p.key kind t among
    (among_left (flat_map told_itself (present v c)) (flat_map (told_by (w.sets c)) (active_actions (present v c))) (telling p.key kind)
    (among_joined told_itself (present v c) p (telling p.key kind) there
    (subst (λ (x : Class). Among (tellings (tells_itself x) p.key) (telling p.key kind)) (sym same) (among_mapped (telling p.key) (tells_itself k) kind h))))

of_list : (es : List EventType) → es ≡ list_events → (kind : EventType) → Among list_events kind → Among es kind
of_list es e kind h = subst (λ (xs : List EventType). Among xs kind) (sym e) h

list_tells : tells_itself class.ListGroup ≡ list_events
unfolding tells_itself
list_tells = refl

token_tells : tells_itself class.TokenGroup ≡ event.TokenMovedTo ∷ []
unfolding tells_itself
token_tells = refl

pub run_lives : (v : Service) (w : Flow) (a : Alive) → IsAliveOf v w a → (c : Config) → reached w c ≡ true → (r : ObjRef) → Lives a (run v w c r)
run_lives v w a is c among r = (run_alone_lives v w a is c r, by (part_at r (present v c)) refl)
  where
    -- what tells of itself is told of this reference
    itself : (p : Fixed) (k : Class) → part_at r (present v c) ≡ Some p → p.class ≡ k → AllCome v w r (tells_itself k)
    itself p k e same = subst (λ (x : ObjRef). AllCome v w x (tells_itself k)) (sym (found_key r (present v c) p e)) (itself_comes v w c p k among (part_among r (present v c) p e) same)

    by_class : (p : Fixed) (k : Class) → part_at r (present v c) ≡ Some p → p.class ≡ k → Lives a (group_run v w c r p k)
    by_class p class.TokenGroup e same = (
      nodes_sum (λ y. lives_in a y ≡ true) (λ (m : Member). run_alone v w c m.object) (members p) (λ m h. run_alone_lives v w a is c m.object),
      emit_lives v w a is c r event.TokenMovedTo (Sure (Some (value.Int (pos 1)))) (itself p class.TokenGroup e same event.TokenMovedTo (Sure (Some (value.Int (pos 1)))) (subst (λ (es : List EventType). Among es event.TokenMovedTo) (sym token_tells) (inl refl))),
    )
    by_class p class.ListGroup e same = change_lives v w a is c r (λ kind t h. itself p class.ListGroup e same kind t (of_list (tells_itself class.ListGroup) list_tells kind h))
    by_class p _ e same = tt

    by : (m : Option Fixed) → part_at r (present v c) ≡ m → Lives a (option_map_or (λ (p : Fixed). group_run v w c r p p.class) m Nothing)
    by None e = tt
    by (Some p) e = by_class p p.class e refl

pub halt_lives : (v : Service) (w : Flow) (a : Alive) → IsAliveOf v w a → (c : Config) (r : ObjRef) → Lives a (halt v w c r)
halt_lives v w a is c r = (halt_alone_lives v w a is c r, by (part_at r (present v c)))
  where
    by_class : (p : Fixed) (k : Class) → Lives a (group_halt v w c r p k)
    by_class p class.TokenGroup = nodes_sum (λ y. lives_in a y ≡ true) (λ (m : Member). halt_alone v w c m.object) (members p) (λ m h. halt_alone_lives v w a is c m.object)
    by_class p class.ListGroup = nodes_sum (λ y. lives_in a y ≡ true) (halt_alone v w c) (w.sets c r) (λ x h. halt_alone_lives v w a is c x)
    by_class p _ = tt

    by : (m : Option Fixed) → Lives a (option_map_or (λ (p : Fixed). group_halt v w c r p p.class) m Nothing)
    by None = tt
    by (Some p) = by_class p p.class

-- Groups

-- an effect that is no link's
group_lives : (v : Service) (a : Alive) (c : Config) (g : List ℕ) (n : ℕ) → (n == link_effect) ≡ false → Lives a (group_effect v c g n)
group_lives v a c g n other = by (part_at (group_ref g) (group_parts v g))
  where
    by : (m : Option Fixed) → Lives a (option_map_or (effect c n) m Nothing)
    by None = tt
    by (Some p) = ap (λ (b : Bool). not b || list_any (same_key p.key) a.puts) other

pub enter_lives : (v : Service) (w : Flow) (a : Alive) → IsAliveOf v w a → (c : Config) → reached w c ≡ true → (g : List ℕ) → Lives a (enter v w c g)
enter_lives v w a is c among g =
    (tt, (group_lives v a c g on_start_up refl, (nodes_sum (λ y. lives_in a y ≡ true) (λ (p : Fixed). run v w c p.key) (filter is_initially_active (group_parts v g)) (λ p h. run_lives v w a is c among p.key), always_lives v w a is c (group_ref g) event.IsRunning (Sure None) refl)))

pub exchange_lives : (v : Service) (w : Flow) (a : Alive) → IsAliveOf v w a → (c : Config) (g : List ℕ) → Lives a (exchange v w c g)
exchange_lives v w a is c g =
    (tt, nodes_if (λ y. lives_in a y ≡ true) (reached w (exchanged v c g)) (enter v w (exchanged v c g) g) (λ among. enter_lives v w a is (exchanged v c g) among g))

closing_lives : (v : Service) (a : Alive) (c : Config) → Lives a (scene_closes v c)
closing_lives v a c = by c.scene
  where
    by : (m : Option (List ℕ)) → Lives a (option_map_or (λ g. group_effect v c g on_close_down) m Nothing)
    by None = tt
    by (Some g) = group_lives v a c g on_close_down refl

halts_lives : (v : Service) (w : Flow) (a : Alive) → IsAliveOf v w a → (c : Config) (ps : List Fixed) → Lives a (sum_price (λ (p : Fixed). halt v w c p.key) ps)
halts_lives v w a is c ps = nodes_sum (λ y. lives_in a y ≡ true) (λ (p : Fixed). halt v w c p.key) ps (λ p h. halt_lives v w a is c p.key)

pub leave_scene_lives : (v : Service) (w : Flow) (a : Alive) → IsAliveOf v w a → (c : Config) → Lives a (leave_scene v w c)
leave_scene_lives v w a is c = (closing_lives v a c, (halts_lives v w a is c _, halts_lives v w a is c _))

pub leave_all_lives : (v : Service) (w : Flow) (a : Alive) → IsAliveOf v w a → (c : Config) → Lives a (leave_all v w c)
leave_all_lives v w a is c =
    (closing_lives v a c, (group_lives v a c c.app on_close_down refl, (halts_lives v w a is c _, halts_lives v w a is c _)))
