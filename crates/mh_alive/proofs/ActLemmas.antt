-- What active actions and inputs put to work lives.
use Rattle.std.specs.Prelude.{◌≡◌, ◌≤◌, ℕ, zero, suc, ◌+◌, ◌==◌, Bool, true, false, ◌||◌, not, if◌then◌else◌, List, [], ◌∷◌, ◌++◌, filter, length, get_or, Option, Some, None, ℤ, refl}
use Rattle.std.specs.List.{flat_map, list_any, range_with_len}
use Rattle.std.specs.Option.{option_map_or}
use Rattle.std.proofs.Common.{arith, sym, subst, inl, inr}
use Rattle.std.proofs.lemmas.Bool.Decides.{Decides-eqb}
use Rattle.mh_base.specs.declared.event.EventType.{EventType}
use Rattle.mh_base.specs.declared.event.EventType.TheVariants as event
use Rattle.mh_base.specs.declared.obj_ref.ObjRef.{ObjRef}
use Rattle.mh_base.specs.declared.value.Value.TheVariants as value
use Rattle.mh_group.specs.declared.action_name.ActionName.{ActionName}
use Rattle.mh_group.specs.declared.action_name.ActionName.TheVariants as action
use Rattle.mh_group.specs.declared.attribute.Attribute.TheVariants as attribute
use Rattle.mh_group.specs.Table.{is_link}
use Rattle.mh_model.specs.declared.act.Act.{Act}
use Rattle.mh_model.specs.declared.act.Argument.{Argument}
use Rattle.mh_model.specs.declared.act.Argument.TheVariants as argument
use Rattle.mh_model.specs.declared.config.Config.{Config}
use Rattle.mh_model.specs.declared.object.member.Member.{Member}
use Rattle.mh_model.specs.declared.object.Fixed.{Fixed}
use Rattle.mh_model.specs.Configuration.{present}
use Rattle.mh_model.specs.Effects.{actions, is_sending}
use Rattle.mh_model.specs.Property.{as_effect, held}
use Rattle.mh_model.specs.Reference.{same_key}
use Rattle.mh_model.specs.Saying.{event_numbered}
use Rattle.mh_model.specs.Service.{Service, part_at}
use Rattle.mh_model.specs.Tokens.{member_actions, members, slot_actions}
use Rattle.mh_laws.specs.Active.{active_actions, is_active}
use Rattle.mh_laws.specs.Costs.{act, acts_price, data_sent, done_to, effect, effect_at, effects, emit, first_slot, link_effect, named, sends, share, slot_numbers, slots, targets}
use Rattle.mh_laws.specs.Each.{Among, Each}
use Rattle.mh_laws.specs.Flow.{Flow, reached}
use Rattle.mh_laws.specs.Price.{Nothing, most_price, sum_price}
use Rattle.mh_laws.specs.Ways.{Changes, Drops, Halts, Prepares, Runs, Sends, Share, Slots, Sure, Tells, Told, highlight_ways, interaction_ways, slots_of, ways}
use Rattle.mh_laws.proofs.EachLemmas.{among_filtered, among_joined, among_left, among_mapped, among_right, each_among, from_joined}
use Rattle.mh_laws.proofs.PriceLemmas.{nodes_if, nodes_most, nodes_sum}
use Rattle.mh_alive.specs.Alive.{Alive, IsAliveOf}
use Rattle.mh_alive.specs.Puts.{web}
use Rattle.mh_alive.specs.Tellings.{telling, tellings, tells, told_by, told_in, told_itself, told_with}
use Rattle.mh_alive.specs.There.{comes_to, names}
use Rattle.mh_alive.proofs.ClosedLemmas.{AllCome, Lives, change_lives, emit_lives, exchange_lives, halt_lives, leave_all_lives, leave_scene_lives, list_events, rise_lives, run_lives}
use Rattle.mh_alive.proofs.ComingLemmas.{Comes, lives_in, told_comes}
use Rattle.mh_alive.proofs.RunLemmas.{comes_where, if_there}

-- What an active action tells

acted : (v : Service) (w : Flow) (c : Config) (x : Act) (r : ObjRef) (kind : EventType) → Among (active_actions (present v c)) x → Among (told_by (w.sets c) x) (telling r kind) → Among (told_in v w c) (telling r kind)
acted v w c x r kind there h =
    among_right (flat_map told_itself (present v c)) (flat_map (told_by (w.sets c)) (active_actions (present v c))) (telling r kind)
    (among_joined (told_by (w.sets c)) (active_actions (present v c)) x (telling r kind) there h)

-- of what it is done to
pub tells_come : (v : Service) (w : Flow) (c : Config) (x : Act) (r : ObjRef) → reached w c ≡ true → Among (active_actions (present v c)) x → Among (targets w c x.target) r → AllCome v w r (tells x.name)
tells_come v w c x r among there comes kind t h =
    told_comes v w c r kind t among
    (acted v w c x r kind there
    (among_left (flat_map (tellings (tells x.name)) (comes_to (w.sets c) x.target)) (if is_sending x.name then told_with (w.sets c) x.arguments else []) (telling r kind)
    (among_joined (tellings (tells x.name)) (comes_to (w.sets c) x.target) r (telling r kind)
    (subst (λ (rs : List ObjRef). Among rs r) (sym (comes_where w c x.target)) comes)
    (among_mapped (telling r) (tells x.name) kind h))))

names_where : (w : Flow) (c : Config) (y : Argument) → names (w.sets c) y ≡ named w c y
names_where w c (argument.Direct (value.Object q)) = refl
names_where w c (argument.Through y k) = refl
names_where w c (argument.Direct (value.Bool b)) = refl
names_where w c (argument.Direct (value.Int n)) = refl
names_where w c (argument.Direct (value.Octets b)) = refl
names_where w c (argument.Direct (value.Content b)) = refl
names_where w c (argument.Receiver y) = refl

-- and what it sends
sent_comes : (v : Service) (w : Flow) (c : Config) (x : Act) (y : Argument) (n : ℤ) (more : List Argument) (kind : EventType) (q : ObjRef) (t : Told) → reached w c ≡ true
    → Among (active_actions (present v c)) x → is_sending x.name ≡ true → x.arguments ≡ y ∷ argument.Direct (value.Int n) ∷ more → event_numbered n ≡ Some kind → Among (named w c y) q → Comes (web v w) q kind t
sent_comes v w c x y n more kind q t among there sends are numbered names_it =
    told_comes v w c q kind t among
    (acted v w c x q kind there
    (among_right (flat_map (tellings (tells x.name)) (comes_to (w.sets c) x.target)) (if is_sending x.name then told_with (w.sets c) x.arguments else []) (telling q kind)
    (if_there (is_sending x.name) (told_with (w.sets c) x.arguments) (telling q kind) sends
    (subst (λ (xs : List Argument). Among (told_with (w.sets c) xs) (telling q kind)) (sym are)
    (subst (λ (m : Option EventType). Among (option_map_or (λ k. flat_map (tellings (k ∷ [])) (names (w.sets c) y)) m []) (telling q kind)) (sym numbered)
    (among_joined (tellings (kind ∷ [])) (names (w.sets c) y) q (telling q kind) (subst (λ (qs : List ObjRef). Among qs q) (sym (names_where w c y)) names_it) (inl refl)))))))

-- The ways of an action tell what the table lists

abbrev Good : ActionName → Share → Type 0
Good n Prepares = Unit {0}
Good n Runs = Unit {0}
Good n Halts = Unit {0}
Good n Drops = Among (tells n) event.IsDeleted
Good n (Tells kind d) = Among (tells n) kind
Good n Sends = is_sending n ≡ true
Good n Changes = tells n ≡ list_events
Good n Slots = Unit {0}

good_highlight : (xs : List Argument) → Each (Each (Good action.SetHighlightStatus)) (highlight_ways xs)
unfolding tells
good_highlight (argument.Direct (value.Bool true) ∷ []) = ((inl refl, tt), tt)
good_highlight (argument.Direct (value.Bool false) ∷ []) = ((inr (inl refl), tt), tt)
good_highlight _ = ((inl refl, tt), ((inr (inl refl), tt), tt))

good_interaction : (xs : List Argument) → Each (Each (Good action.SetInteractionStatus)) (interaction_ways xs)
unfolding tells
good_interaction (argument.Direct (value.Bool true) ∷ []) = tt
good_interaction _ = ((inl refl, tt), tt)

good_ways : (n : ActionName) (xs : List Argument) → Each (Each (Good n)) (ways n xs)
unfolding tells
good_ways action.Run xs = ((tt, tt), tt)
good_ways action.Stop xs = ((tt, tt), tt)
good_ways action.Preload xs = ((tt, tt), tt)
good_ways action.Unload xs = ((tt, (inl refl, tt)), tt)
good_ways action.Activate xs = ((tt, tt), tt)
good_ways action.Deactivate xs = ((tt, tt), tt)
good_ways action.SendEvent xs = ((refl, tt), tt)
good_ways action.TestVariable xs = ((inl refl, tt), tt)
good_ways action.SetData xs = ((inl refl, tt), tt)
good_ways action.Fork xs = ((inl refl, tt), tt)
good_ways action.SetInteractionStatus xs = good_interaction xs
good_ways action.SetHighlightStatus xs = good_highlight xs
good_ways action.Select xs = ((inl refl, tt), tt)
good_ways action.Deselect xs = ((inl refl, tt), tt)
good_ways action.Move xs = ((inl refl, (inr (inl refl), tt)), tt)
good_ways action.MoveTo xs = ((inl refl, (inr (inl refl), tt)), tt)
good_ways action.CallActionSlot xs = ((tt, tt), tt)
good_ways action.AddItem xs = ((refl, tt), tt)
good_ways action.DelItem xs = ((refl, tt), tt)
good_ways action.ScrollItems xs = ((refl, tt), tt)
good_ways action.SetFirstItem xs = ((refl, tt), tt)
good_ways action.SelectItem xs = ((inl refl, (inr (inl refl), tt)), tt)
good_ways action.DeselectItem xs = ((inl refl, tt), tt)
good_ways action.ToggleItem xs = ((inl refl, (inr (inl refl), tt)), tt)
good_ways _ xs = tt

-- Shares

range_from : (b n k : ℕ) → Among (range_with_len b n) k → b ≤ k
range_from b zero k h = absurd cc
range_from b (suc n) k (inl same) = omega (arith, same)
range_from b (suc n) k (inr more) = let up = range_from (b + 1) n k more in omega (arith, up)

slot_lives : (a : Alive) (c : Config) (p : Fixed) (n : ℕ) → first_slot ≤ n → lives_in a (record { config = c; object = p.key; number = n }) ≡ true
slot_lives a c p n h = by (n == link_effect) refl
  where
    by : (b : Bool) → (n == link_effect) ≡ b → (not b || list_any (same_key p.key) a.puts) ≡ true
    by false e = refl
    by true e = let same = (Decides-eqb n link_effect).0 e in absurd (omega (arith, h, same))

slots_live : (v : Service) (w : Flow) (a : Alive) (c : Config) (r : ObjRef) → Lives a (option_map_or (slots c) (part_at r (present v c)) Nothing)
slots_live v w a c r = by (part_at r (present v c))
  where
    by : (m : Option Fixed) → Lives a (option_map_or (slots c) m Nothing)
    by None = tt
    by (Some p) =
        nodes_if (λ y. lives_in a y ≡ true) (not (is_link p.class)) (most_price (λ n. effect c n p) (slot_numbers p))
        (λ none. nodes_most (λ y. lives_in a y ≡ true) (λ n. effect c n p) (slot_numbers p) (λ n h. slot_lives a c p n (range_from first_slot (length (slots_of p)) n h)))

sends_live : (v : Service) (w : Flow) (a : Alive) → IsAliveOf v w a → (c : Config) (x : Act) → reached w c ≡ true → Among (active_actions (present v c)) x → is_sending x.name ≡ true
    → (xs : List Argument) → x.arguments ≡ xs → Lives a (sends v w c xs)
sends_live v w a is c x among there sending (y ∷ argument.Direct (value.Int n) ∷ more) are = by (event_numbered n) refl
  where
    by : (m : Option EventType) → event_numbered n ≡ m → Lives a (option_map_or (λ kind. most_price (λ q. emit v w c q kind (data_sent more)) (named w c y)) m Nothing)
    by None e = tt
    by (Some kind) e =
        nodes_most (λ z. lives_in a z ≡ true) (λ q. emit v w c q kind (data_sent more)) (named w c y)
        (λ q h. emit_lives v w a is c q kind (data_sent more) (sent_comes v w c x y n more kind q (data_sent more) among there sending are e h))
sends_live v w a is c x among there sending _ are = tt

share_lives : (v : Service) (w : Flow) (a : Alive) → IsAliveOf v w a → (c : Config) (x : Act) (r : ObjRef) → reached w c ≡ true → Among (active_actions (present v c)) x → AllCome v w r (tells x.name)
    → (s : Share) → Good x.name s → Lives a (share v w c x.arguments r s)
share_lives v w a is c x r among there come Prepares good = (tt, rise_lives v w a is c r)
share_lives v w a is c x r among there come Runs good = run_lives v w a is c among r
share_lives v w a is c x r among there come Halts good = halt_lives v w a is c r
share_lives v w a is c x r among there come Drops good = (tt, emit_lives v w a is c r event.IsDeleted (Sure None) (come event.IsDeleted (Sure None) good))
share_lives v w a is c x r among there come (Tells kind d) good = emit_lives v w a is c r kind d (come kind d good)
share_lives v w a is c x r among there come Sends good = sends_live v w a is c x among there good x.arguments refl
share_lives v w a is c x r among there come Changes good = change_lives v w a is c r (λ kind t h. come kind t (subst (λ (es : List EventType). Among es kind) (sym good) h))
share_lives v w a is c x r among there come Slots good = slots_live v w a c r

put_lives : (v : Service) (w : Flow) (a : Alive) → IsAliveOf v w a → (c : Config) (x : Act) (r : ObjRef) → reached w c ≡ true → Among (active_actions (present v c)) x → AllCome v w r (tells x.name)
    → Lives a (most_price (sum_price (share v w c x.arguments r)) (ways x.name x.arguments))
put_lives v w a is c x r among there come =
    nodes_most (λ y. lives_in a y ≡ true) (λ ps. sum_price (share v w c x.arguments r) ps) (ways x.name x.arguments)
    (λ ps h. nodes_sum (λ y. lives_in a y ≡ true) (share v w c x.arguments r) ps
    (λ s k. share_lives v w a is c x r among there come s (each_among (Good x.name) ps s (each_among (Each (Good x.name)) (ways x.name x.arguments) ps (good_ways x.name x.arguments) h) k)))

done_lives : (v : Service) (w : Flow) (a : Alive) → IsAliveOf v w a → (c : Config) (r : ObjRef) (xs : List Argument) (n : ActionName)
    → Lives a (most_price (sum_price (share v w c xs r)) (ways n xs)) → Lives a (done_to v w c n xs r)
done_lives v w a is c r xs action.TransitionTo put = (leave_scene_lives v w a is c, exchange_lives v w a is c r.group)
done_lives v w a is c r xs action.Launch put = (leave_all_lives v w a is c, exchange_lives v w a is c r.group)
done_lives v w a is c r xs action.Quit put = (leave_all_lives v w a is c, tt)
done_lives v w a is c r xs n put = put

pub acts_live : (v : Service) (w : Flow) (a : Alive) → IsAliveOf v w a → (c : Config) → reached w c ≡ true → (e : List Act) → ((x : Act) → Among e x → Among (active_actions (present v c)) x) → Lives a (acts_price v w c e)
acts_live v w a is c among e active =
    nodes_sum (λ y. lives_in a y ≡ true) (act v w c) e
    (λ x h. (
      tt,
      nodes_most (λ y. lives_in a y ≡ true) (done_to v w c x.name x.arguments) (targets w c x.target)
          (λ r k. done_lives v w a is c r x.arguments x.name (put_lives v w a is c x r among (active x h) (tells_come v w c x r among (active x h) k))),
    ))

-- Effects are of active actions

got_effect : (es : List (List Act)) (n : ℕ) (x : Act) → Among (get_or es n []) x → (e : List Act) × Among es e × Among e x
got_effect [] n x h = absurd cc
got_effect (e ∷ es) zero x h = (e, inl refl, h)
got_effect (e ∷ es) (suc n) x h = let more = got_effect es n x h in (more.0, inr more.1, more.2)

slot_among : (p : Fixed) (n : ℕ) (x : Act) → Among (get_or (slots_of p) n []) x → Among (slot_actions p) x
slot_among p n x h =
    let e = got_effect (slots_of p) n x h in
    let m = from_joined (λ (y : Member). y.slots) (members p) e.0 e.1 in
    among_joined member_actions (members p) m.0 x m.1 (among_joined (λ (z : List Act). z) m.0.slots e.0 x m.2 e.2)

pub effect_among : (p : Fixed) (n : ℕ) (x : Act) → Among (effect_at p n) x → Among (actions p) x
effect_among p n x h = by n h
  where
    start_up : List Act
    start_up = as_effect (held attribute.OnStartUp p.properties)

    close_down : List Act
    close_down = as_effect (held attribute.OnCloseDown p.properties)

    link : List Act
    link = as_effect (held attribute.LinkEffect p.properties)

    by : (k : ℕ) → Among (get_or (effects p) k []) x → Among (actions p) x
    by zero h = among_left (start_up ++ close_down ++ link) (slot_actions p) x (among_left (start_up ++ close_down) link x (among_left start_up close_down x h))
    by (suc zero) h = among_left (start_up ++ close_down ++ link) (slot_actions p) x (among_left (start_up ++ close_down) link x (among_right start_up close_down x h))
    by (suc (suc zero)) h = among_left (start_up ++ close_down ++ link) (slot_actions p) x (among_right (start_up ++ close_down) link x h)
    by (suc (suc (suc k))) h = among_right (start_up ++ close_down ++ link) (slot_actions p) x (slot_among p k x h)

pub active_effect : (v : Service) (c : Config) (p : Fixed) (n : ℕ) (x : Act) → Among (present v c) p → is_active (present v c) p ≡ true → Among (effect_at p n) x → Among (active_actions (present v c)) x
active_effect v c p n x there active h =
    among_joined actions (filter (is_active (present v c)) (present v c)) p x (among_filtered (is_active (present v c)) (present v c) p active there) (effect_among p n x h)
