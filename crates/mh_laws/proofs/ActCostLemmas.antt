-- What an action puts, a transition, and an exchange, against their prices.
use Rattle.std.specs.Option.{option_map, option_map_or}
use Rattle.std.specs.Prelude.{◌&&◌, ◌++◌, ◌+◌, ◌∷◌, ◌≡◌, ◌≤◌, Bool, List, None, Option, Some, [], drop, false, filter, if◌then◌else◌, not, reverse, true, ℕ}
use Rattle.std.proofs.Common.{◌∙◌, ap, arith, inl, inr, refl, subst, sym}
use Rattle.mh_base.specs.declared.event.EventType.TheVariants as event
use Rattle.mh_base.specs.declared.obj_ref.ObjRef.{ObjRef}
use Rattle.mh_base.specs.declared.value.Value.{Value}
use Rattle.mh_group.specs.Table.{is_application, is_runnable}
use Rattle.mh_group.specs.declared.action_name.ActionName.{ActionName}
use Rattle.mh_group.specs.declared.action_name.ActionName.TheVariants as action
use Rattle.mh_group.specs.declared.attribute.Attribute.TheVariants as attribute
use Rattle.mh_model.specs.declared.act.Act.{Act}
use Rattle.mh_model.specs.declared.act.Argument.{Argument}
use Rattle.mh_model.specs.declared.config.Config.{Config}
use Rattle.mh_model.specs.declared.file.File.{File}
use Rattle.mh_model.specs.declared.item.Item.{Item}
use Rattle.mh_model.specs.declared.item.Item.TheVariants as item
use Rattle.mh_model.specs.declared.object.Fixed.{Fixed}
use Rattle.mh_model.specs.declared.object.Object.{Object}
use Rattle.mh_model.specs.declared.sort.Sort.{Sort}
use Rattle.mh_model.specs.declared.sort.Sort.TheVariants as sort
use Rattle.mh_model.specs.Arguments.{receivers, referred, values}
use Rattle.mh_model.specs.Configuration.{is_group_of, present, scene_parts}
use Rattle.mh_model.specs.Files.{is_loadable}
use Rattle.mh_model.specs.Groups.{entering, is_shared, leaving, scene_closing, scene_halts}
use Rattle.mh_model.specs.Groups as put
use Rattle.mh_model.specs.Lifecycle.{drop_items, halt_items, is_available_at, prepare_items, run_items}
use Rattle.mh_model.specs.Rules.{act_on, application_exchanged, begins_or_waits, exchange_rule, is_begun, interact_rule, is_input, leads_to_late, load_rule, loaded_with, quit_before, rule, rule_by, scene_exchanged, stays, transition_rule, way_out, whole_rule, widget_at}
use Rattle.mh_model.specs.Saying.{call_items, interaction_items, load_items, put_items_at}
use Rattle.mh_model.specs.Service.{Service, group_parts, object_at, part_at, with_parts}
use Rattle.mh_model.specs.Sort.{sort_of}
use Rattle.mh_model.specs.State.{State, all}
use Rattle.mh_model.specs.Step.{done}
use Rattle.mh_model.specs.Worked.{is_interacting, worked}
use Rattle.mh_laws.specs.Budget.{Bounds, queue_cost}
use Rattle.mh_laws.specs.Costs.{Effect, act, all_halt, done_to, enter, exchange, group_effect, leave_all, leave_scene, on_close_down, plain_emit, share, targets}
use Rattle.mh_laws.specs.Describing.{interact_items, is_transition, items_by, items_put}
use Rattle.mh_laws.specs.Each.{Among}
use Rattle.mh_laws.specs.Flow.{Flow, reached}
use Rattle.mh_laws.specs.Price.{Nothing, Price, if_price, most_price, sum_price}
use Rattle.mh_laws.specs.Safe.{behind, config_of, exchanged}
use Rattle.mh_laws.specs.Ways.{ways}
use Rattle.mh_laws.proofs.FiredLemmas.{if_worth}
use Rattle.mh_laws.proofs.FitLemmas.{Fits, fits_as, fits_both, fits_none}
use Rattle.mh_laws.proofs.ItemCostLemmas.{Falls, IsReadyAct, IsReadyItem, MayPut, Ready, close_down_fits, emit_falls, entering_fits, found_part, halt_alone_fits, halt_fits, halts_fit, own_covered, part_covered, prepare_fits, put_falls, queue_filter, run_alone_fits, run_fits, scene_covered}
use Rattle.mh_laws.proofs.LifeCostLemmas.{emit_if_fits}
use Rattle.mh_laws.proofs.PriceLemmas.{le_same}
use Rattle.mh_laws.proofs.ShareLemmas.{way_fits}
use Rattle.mh_laws.proofs.WayLemmas.{way_of}
use Rattle.mh_laws.specs.Weighing.{left, item_cost, AreCovered, Weights, work_cost, worth}
use Rattle.mh_laws.proofs.WeighLemmas.{among_most}

-- Transitions

abbrev closes_of : Service → Config → Option (List ℕ) → Price Effect
closes_of v c m = option_map_or (λ (g : List ℕ). group_effect v c g on_close_down) m Nothing

closing_fits : (w : Flow) (f : Weights) (s : State) → Ready w f s → Fits s.service w f (config_of s) (scene_closing (with_parts s.service s.scene)) (worth f (closes_of s.service (config_of s) s.scene))
closing_fits w f s k = by s.scene (scene_covered w f s k)
  where
    by : (m : Option (List ℕ)) → AreCovered s.service w f (config_of s) (present s.service (config_of s)) (scene_parts s.service m) → Fits s.service w f (config_of s) (scene_closing (with_parts s.service m)) (worth f (closes_of s.service (config_of s) m))
    by None h = fits_none s.service w f (config_of s) 0
    by (Some g) h = close_down_fits s.service w f (config_of s) g k.service h

scene_halts_fit : (v : Service) (w : Flow) (f : Weights) (c : Config) (m : Option (List ℕ)) → Fits v w f c (scene_halts (with_parts v m)) (worth f (all_halt v w c (scene_parts v m)))
scene_halts_fit v w f c None = fits_none v w f c 0
scene_halts_fit v w f c (Some g) = halts_fit v w f c (filter (λ p. is_runnable p.class) (reverse (group_parts v g)))

leaving_sum : (a x y z e : ℕ) → a ≤ x + y + z + (e + 0) → a ≤ x + (y + z) + e
leaving_sum a x y z e h = omega (arith, h)

pub leaving_cost : (w : Flow) (f : Weights) (s : State) → Ready w f s → (g : List ℕ) → work_cost s.service w f (config_of s) (leaving (group_parts s.service s.application) (with_parts s.service s.scene) g) ≤ worth f (leave_scene s.service w (config_of s)) + worth f (exchange s.service w (config_of s) g)
leaving_cost w f s k g =
    let v : Service = s.service in
    let c : Config = config_of s in
    let stopped : List Fixed = filter (λ p. is_runnable p.class && not (is_shared p)) (reverse (group_parts v s.application)) in
    let two = fits_both v w f c (scene_closing (with_parts v s.scene)) (scene_halts (with_parts v s.scene)) _ _ (closing_fits w f s k) (scene_halts_fit v w f c s.scene) in
    let three = fits_both v w f c (scene_closing (with_parts v s.scene) ++ scene_halts (with_parts v s.scene)) (put.halts stopped) _ _ two (halts_fit v w f c stopped) in
    leaving_sum _ _ _ _ _ (three (item.Exchange g ∷ []))

quitting_sum : (a x y z u e : ℕ) → a ≤ x + y + z + u + e → a ≤ x + (y + (z + u)) + e
quitting_sum a x y z u e h = omega (arith, h)

quitting_cost : (w : Flow) (f : Weights) (s : State) → Ready w f s → (last : Item) → work_cost s.service w f (config_of s) (quit_before last s) ≤ worth f (leave_all s.service w (config_of s)) + work_cost s.service w f (config_of s) (last ∷ [])
quitting_cost w f s k last =
    let v : Service = s.service in
    let c : Config = config_of s in
    let stopped : List Fixed = filter (λ p. is_runnable p.class) (reverse (group_parts v s.application)) in
    let down : List Item = put.group_effect s.application (group_parts v s.application) attribute.OnCloseDown in
    let close : List Item = scene_closing (with_parts v s.scene) in
    let two = fits_both v w f c close down _ _ (closing_fits w f s k) (close_down_fits v w f c s.application k.service (own_covered w f s k)) in
    let three = fits_both v w f c (close ++ down) (scene_halts (with_parts v s.scene)) _ _ two (scene_halts_fit v w f c s.scene) in
    let four = fits_both v w f c (close ++ down ++ scene_halts (with_parts v s.scene)) (put.halts stopped) _ _ three (halts_fit v w f c stopped) in
    quitting_sum _ _ _ _ _ _ (four (last ∷ []))

-- Actions

-- the price of an action by one of its targets
target_price : (v : Service) (w : Flow) (f : Weights) (c : Config) (a : Act) (r : ObjRef) → Among (targets w c a.target) r → 1 + worth f (done_to v w c a.name a.arguments r) ≤ worth f (act v w c a)
target_price v w f c a r among = more _ _ (among_most f (done_to v w c a.name a.arguments) (targets w c a.target) r among)
  where
    more : (x y : ℕ) → x ≤ y → 1 + x ≤ 1 + y
    more x y h = omega (arith, h)

abbrev put_price : Service → Flow → Config → ActionName → List Argument → ObjRef → Price Effect
put_price v w c n xs r = most_price (sum_price (share v w c xs r)) (ways n xs)

done_put : (v : Service) (w : Flow) (c : Config) (n : ActionName) (xs : List Argument) (r : ObjRef) → is_transition n ≡ false → done_to v w c n xs r ≡ put_price v w c n xs r
done_put v w c action.TransitionTo xs r h = absurd cc
done_put v w c action.Launch xs r h = absurd cc
done_put v w c action.Quit xs r h = absurd cc
done_put v w c _ xs r h = refl

abbrev is_whole_sort : Sort → Bool
is_whole_sort sort.Whole = true
is_whole_sort _ = false

not_leading : (n : ActionName) → is_whole_sort (sort_of n) ≡ false → is_transition n ≡ false
not_leading action.TransitionTo h = absurd cc
not_leading action.Launch h = absurd cc
not_leading action.Quit h = absurd cc
not_leading _ h = refl

-- what an action puts fits its price
record Puts (w : Flow) (f : Weights) (s : State) (a : Act) (r : ObjRef) : Type 0 where
  object : Object
  found : object_at r (all s.objects) ≡ Some object
  fits : (fs : List File) (t : Bool) → Fits s.service w f (config_of s) (items_put fs t a.name (values (all s.objects) a.arguments) r object) (worth f (put_price s.service w (config_of s) a.name a.arguments r))
  less : 1 + worth f (put_price s.service w (config_of s) a.name a.arguments r) ≤ worth f (act s.service w (config_of s) a)

may_fit : (w : Flow) (f : Weights) (s : State) (a : Act) (r : ObjRef) (o : Object) → part_at r (present s.service (config_of s)) ≡ Some o.fixed → is_transition a.name ≡ false → (fs : List File) (t : Bool) → MayPut w f s a r o → Fits s.service w f (config_of s) (items_put fs t a.name (values (all s.objects) a.arguments) r o) (worth f (put_price s.service w (config_of s) a.name a.arguments r))
may_fit w f s a r o part plain fs t (inl needs) = way_fits s.service w f (config_of s) (all s.objects) a.arguments r o (ways a.name a.arguments) (items_put fs t a.name (values (all s.objects) a.arguments) r o) part needs (way_of fs t a.name (all s.objects) a.arguments r o plain)
may_fit w f s a r o part plain fs t (inr none) = fits_as s.service w f (config_of s) (items_put fs t a.name (values (all s.objects) a.arguments) r o) [] _ (none fs t) (fits_none s.service w f (config_of s) _)

act_puts : (w : Flow) (f : Weights) (s : State) → Ready w f s → (a : Act) → IsReadyAct w f s a → (r : ObjRef) → referred a.target (all s.objects) ≡ Some r → is_transition a.name ≡ false → Puts w f s a r
act_puts w f s k a ready r e plain =
    let known = ready r e in
    let at = known.1 plain in
    let part : part_at r (present s.service (config_of s)) ≡ Some (at.0).fixed = found_part w f s k r ∙ ap (option_map (λ (x : Object). x.fixed)) at.1 in
    record {
      object = at.0;
      found = at.1;
      fits = λ fs t. may_fit w f s a r at.0 part plain fs t at.2;
      less = subst (λ (p : Price Effect). 1 + worth f p ≤ worth f (act s.service w (config_of s) a)) (done_put s.service w (config_of s) a.name a.arguments r plain) (target_price s.service w f (config_of s) a r known.0);
    }

-- nothing is put
rest_falls : (w : Flow) (f : Weights) (b : Bounds) (s : State) (a : Act) (rest : List Item) → 1 + (work_cost s.service w f (config_of s) rest + queue_cost s.service w f.cost b s.queue) ≤ worth f (act s.service w (config_of s) a) + work_cost s.service w f (config_of s) rest + queue_cost s.service w f.cost b s.queue
rest_falls w f b s a rest = less _ _ _
  where
    less : (p r q : ℕ) → 1 + (r + q) ≤ 1 + p + r + q
    less p r q = omega arith

abbrev ActFalls : Flow → Weights → Bounds → State → Act → List Item → State → Type 0
ActFalls w f b s a rest t = Falls w f b (worth f (act s.service w (config_of s) a)) (work_cost s.service w f (config_of s) rest) s t

put_by : (w : Flow) (f : Weights) (b : Bounds) (s : State) (a : Act) (r : ObjRef) (rest : List Item) (p : Puts w f s a r) (fs : List File) (t : Bool) (is : List Item) → items_put fs t a.name (values (all s.objects) a.arguments) r p.object ≡ is → 1 + (work_cost s.service w f (config_of s) (is ++ rest) + queue_cost s.service w f.cost b s.queue) ≤ worth f (act s.service w (config_of s) a) + work_cost s.service w f (config_of s) rest + queue_cost s.service w f.cost b s.queue
put_by w f b s a r rest p fs t is same =
    let price : ℕ = worth f (put_price s.service w (config_of s) a.name a.arguments r) in
    put_falls w f b s is rest price (worth f (act s.service w (config_of s) a)) (fits_as s.service w f (config_of s) is (items_put fs t a.name (values (all s.objects) a.arguments) r p.object) price (sym same) (p.fits fs t)) p.less

load_falls : (w : Flow) (f : Weights) (b : Bounds) (s : State) (a : Act) (r : ObjRef) (rest : List Item) (n : ℕ) (p : Puts w f s a r) (vs : List Value) → items_put s.files false a.name (values (all s.objects) a.arguments) r p.object ≡ load_items s.files vs r (Some p.object) → ActFalls w f b s a rest (load_rule vs r (record s { work = rest; taken = n }))
load_falls w f b s a r rest n p [] same = rest_falls w f b s a rest
load_falls w f b s a r rest n p (v ∷ x ∷ vs) same = rest_falls w f b s a rest
load_falls w f b s a r rest n p (v ∷ []) same = by (is_loadable v)
  where
    put_now : items_put s.files false a.name (values (all s.objects) a.arguments) r p.object ≡ load_items s.files (v ∷ []) r (object_at r (all s.objects))
    put_now = same ∙ ap (load_items s.files (v ∷ []) r) (sym p.found)

    by : (t : Bool) → ActFalls w f b s a rest (if t then loaded_with v r (record s { work = rest; taken = n }) else record s { work = rest; taken = n })
    by true = put_by w f b s a r rest p s.files false (load_items s.files (v ∷ []) r (object_at r (all s.objects))) put_now
    by false = rest_falls w f b s a rest

-- the actions of interaction

interact_falls : (w : Flow) (f : Weights) (b : Bounds) (s : State) (a : Act) (m : ActionName) (r : ObjRef) (rest : List Item) (n : ℕ) (p : Puts w f s a r) (vs : List Value) (rs : List ObjRef) → items_put s.files (is_interacting r s.interaction) a.name (values (all s.objects) a.arguments) r p.object ≡ interact_items m vs (is_interacting r s.interaction) r → ActFalls w f b s a rest (interact_rule m vs rs r (record s { work = rest; taken = n }))
interact_falls w f b s a action.SetInteractionStatus r rest n p vs rs same = put_by w f b s a r rest p s.files (is_interacting r s.interaction) (interaction_items vs (is_interacting r s.interaction) r) same
interact_falls w f b s a action.GetInteractionStatus r rest n p vs rs same = rest_falls w f b s a rest
interact_falls w f b s a _ r rest n p vs rs same = rest_falls w f b s a rest

-- what is a matter of the whole machine

-- another work list, in the place of all that is to be done
instead_falls : (w : Flow) (f : Weights) (b : Bounds) (s : State) (a : Act) (rest out : List Item) → 1 + work_cost s.service w f (config_of s) out ≤ worth f (act s.service w (config_of s) a) → 1 + (work_cost s.service w f (config_of s) out + queue_cost s.service w f.cost b s.queue) ≤ worth f (act s.service w (config_of s) a) + work_cost s.service w f (config_of s) rest + queue_cost s.service w f.cost b s.queue
instead_falls w f b s a rest out h = more _ _ _ _ h
  where
    more : (x p r q : ℕ) → 1 + x ≤ p → 1 + (x + q) ≤ p + r + q
    more x p r q h = omega (arith, h)

-- a transition behind another that has begun changes nothing, and one that waits leaves the work
transition_falls : (w : Flow) (f : Weights) (b : Bounds) (s : State) (a : Act) (m : ActionName) (r : ObjRef) (rest : List Item) (n : ℕ) → 1 + work_cost s.service w f (config_of s) (way_out m r (record s { work = rest; taken = n })) ≤ worth f (act s.service w (config_of s) a) → ActFalls w f b s a rest (transition_rule m r (record s { work = rest; taken = n }))
transition_falls w f b s a m r rest n h = by (is_begun s.transition) (leads_to_late m r (record s { work = rest; taken = n }))
  where
    by : (begun late : Bool) → ActFalls w f b s a rest (if begun then record s { work = rest; taken = n } else begins_or_waits late m r (record s { work = rest; taken = n }))
    by true late = rest_falls w f b s a rest
    by false true = rest_falls w f b s a rest
    by false false = instead_falls w f b s a rest (way_out m r (record s { work = rest; taken = n })) h

led_less : (x y p : ℕ) → x ≤ y → 1 + y ≤ p → 1 + x ≤ p
led_less x y p h k = omega (arith, h, k)

-- here the price of the action is that of the name `m`
whole_falls : (w : Flow) (f : Weights) (b : Bounds) (s : State) → Ready w f s → (a : Act) (m : ActionName) (r : ObjRef) (rest : List Item) (n : ℕ) (vs : List Value) → 1 + worth f (done_to s.service w (config_of s) m a.arguments r) ≤ worth f (act s.service w (config_of s) a) → ActFalls w f b s a rest (whole_rule m vs r (record s { work = rest; taken = n }))
whole_falls w f b s k a action.TransitionTo r rest n vs h = transition_falls w f b s a action.TransitionTo r rest n (led_less _ _ _ (leaving_cost w f s k r.group) h)
whole_falls w f b s k a action.Launch r rest n vs h = transition_falls w f b s a action.Launch r rest n (led_less _ _ _ (no_rest _ _ _ (quitting_cost w f s k (item.Exchange r.group))) h)
  where
    no_rest : (x y z : ℕ) → x ≤ y + (z + 0) → x ≤ y + z
    no_rest x y z h = omega (arith, h)
whole_falls w f b s k a action.Quit r rest n vs h = transition_falls w f b s a action.Quit r rest n (led_less _ _ _ (quitting_cost w f s k item.End) h)
whole_falls w f b s k a action.LockScreen r rest n vs h = rest_falls w f b s a rest
whole_falls w f b s k a action.UnlockScreen r rest n vs h = rest_falls w f b s a rest
whole_falls w f b s k a action.SetTimer r rest n vs h = rest_falls w f b s a rest
whole_falls w f b s k a _ r rest n vs h = rest_falls w f b s a rest

-- an action, by what kind of thing it does
sort_falls : (w : Flow) (f : Weights) (b : Bounds) (s : State) → Ready w f s → (a : Act) → IsReadyAct w f s a → (r : ObjRef) → referred a.target (all s.objects) ≡ Some r → (rest : List Item) (n : ℕ) (o : Sort) → sort_of a.name ≡ o → ActFalls w f b s a rest (rule_by o a.name a.arguments r (record s { work = rest; taken = n }))
sort_falls w f b s k a ready r e rest n sort.Change is = rest_falls w f b s a rest
sort_falls w f b s k a ready r e rest n sort.Ask is = rest_falls w f b s a rest
sort_falls w f b s k a ready r e rest n sort.Order is = rest_falls w f b s a rest
sort_falls w f b s k a ready r e rest n sort.Put is =
    let p = act_puts w f s k a ready r e (not_leading a.name (ap is_whole_sort is)) in
    put_by w f b s a r rest p s.files false (put_items_at a.name (values (all s.objects) a.arguments) r (object_at r (all s.objects)))
    (ap (λ (o : Sort). items_by o s.files false a.name (values (all s.objects) a.arguments) r p.object) is ∙ ap (put_items_at a.name (values (all s.objects) a.arguments) r) (sym p.found))
sort_falls w f b s k a ready r e rest n sort.Load is =
    let p = act_puts w f s k a ready r e (not_leading a.name (ap is_whole_sort is)) in
    load_falls w f b s a r rest n p (values (all s.objects) a.arguments) (ap (λ (o : Sort). items_by o s.files false a.name (values (all s.objects) a.arguments) r p.object) is)
sort_falls w f b s k a ready r e rest n sort.Call is =
    let p = act_puts w f s k a ready r e (not_leading a.name (ap is_whole_sort is)) in
    put_by w f b s a r rest p s.files false (call_items a.name r) (ap (λ (o : Sort). items_by o s.files false a.name (values (all s.objects) a.arguments) r p.object) is)
sort_falls w f b s k a ready r e rest n sort.Widget is =
    let p = act_puts w f s k a ready r e (not_leading a.name (ap is_whole_sort is)) in
    let vs : List Value = values (all s.objects) a.arguments in
    let put_it = put_by w f b s a r rest p s.files false (worked a.name vs r (p.object).fixed (p.object).body).items (ap (λ (o : Sort). items_by o s.files false a.name vs r p.object) is) in
    subst (λ (m : Option Object). ActFalls w f b s a rest (widget_at a.name vs r m (record s { work = rest; taken = n }))) (sym p.found) put_it
sort_falls w f b s k a ready r e rest n sort.Interact is =
    let p = act_puts w f s k a ready r e (not_leading a.name (ap is_whole_sort is)) in
    interact_falls w f b s a a.name r rest n p (values (all s.objects) a.arguments) (receivers a.arguments) (ap (λ (o : Sort). items_by o s.files (is_interacting r s.interaction) a.name (values (all s.objects) a.arguments) r p.object) is)
sort_falls w f b s k a ready r e rest n sort.Whole is =
    whole_falls w f b s k a a.name r rest n (values (all s.objects) a.arguments) (target_price s.service w f (config_of s) a r (ready r e).0)

act_falls : (w : Flow) (f : Weights) (b : Bounds) (s : State) → Ready w f s → (a : Act) → IsReadyAct w f s a → (rest : List Item) (n : ℕ) → ActFalls w f b s a rest (rule (item.Act a) (record s { work = rest; taken = n }))
act_falls w f b s k a ready rest n = by (referred a.target (all s.objects)) refl
  where
    by : (m : Option ObjRef) → referred a.target (all s.objects) ≡ m → ActFalls w f b s a rest (act_on m a.name a.arguments (record s { work = rest; taken = n }))
    by None e = rest_falls w f b s a rest
    by (Some r) e = sort_falls w f b s k a ready r e rest n (sort_of a.name) refl

-- Exchanges

exchange_sum : (e r p q : ℕ) → p ≤ q → 1 + (e + r + p) ≤ 1 + e + r + q
exchange_sum e r p q h = omega (arith, h)

exchange_falls : (w : Flow) (f : Weights) (b : Bounds) (s : State) (g : List ℕ) (rest : List Item) (n : ℕ) → reached w (exchanged s.service (config_of s) g) ≡ true → Falls w f b (worth f (exchange s.service w (config_of s) g)) (work_cost s.service w f (exchanged s.service (config_of s) g) rest) s (exchange_rule g (record s { work = rest; taken = n }))
exchange_falls w f b s g rest n among =
    let v : Service = s.service in
    let c : Config = exchanged v (config_of s) g in
    let guarded : worth f (if_price (reached w c) (enter v w c g)) ≡ worth f (enter v w c g) = if_worth f (reached w c) (enter v w c g) among in
    ends _ _ _ _ _ (by (is_group_of is_application v g)) guarded
  where
    ends : (a x y r q : ℕ) → a ≤ 1 + x + r + q → y ≡ x → a ≤ 1 + y + r + q
    ends a x y r q h same = omega (arith, h, same)

    to : Bool → Config
    to t = if t then record { app = g; scene = None } else record { app = s.application; scene = Some g }

    by : (t : Bool) → Falls w f b (1 + worth f (enter s.service w (to t) g)) (work_cost s.service w f (to t) rest) s (if t then application_exchanged g (record s { work = rest; taken = n }) else scene_exchanged g (record s { work = rest; taken = n }))
    by true = exchange_sum _ _ _ _ (queue_filter s.service w f b is_input s.queue)
    by false = exchange_sum _ _ _ _ (queue_filter s.service w f b (stays s.application) s.queue)

-- Every item

drop_fits : (w : Flow) (f : Weights) (s : State) (r : ObjRef) → Fits s.service w f (config_of s) (drop_items r (object_at r (all s.objects))) (worth f (plain_emit s.service w (config_of s) r event.IsDeleted))
drop_fits w f s r = emit_if_fits s.service w f (config_of s) (is_available_at (object_at r (all s.objects))) r event.IsDeleted

-- an item that is done takes what it costs off what is left
item_falls : (w : Flow) (f : Weights) (b : Bounds) (s : State) → Ready w f s → (i : Item) → IsReadyItem w f s i → (rest : List Item) (n : ℕ) → Falls w f b (item_cost s.service w f (config_of s) i) (work_cost s.service w f (behind s.service (config_of s) i) rest) s (rule i (record s { work = rest; taken = n }))
item_falls w f b s k (item.Act a) ready rest n = marked _ _ _ _ _ (act_falls w f b s k a ready rest n)
  where
    marked : (l p m r q : ℕ) → l ≤ p + r + q → l ≤ p + m + r + q
    marked l p m r q h = omega (arith, h)
item_falls w f b s k (item.Prepare r) ready rest n = put_falls w f b s (prepare_items s.files r (object_at r (all s.objects))) rest _ _ (prepare_fits w f s k r) (le_same _)
item_falls w f b s k (item.Run r) ready rest n = let h = run_fits w f s k r in put_falls w f b s (run_items s.files r (object_at r (all s.objects))) rest h.0 _ h.1 h.2
item_falls w f b s k (item.Halt r) ready rest n = let h = halt_fits w f s k r in put_falls w f b s (halt_items r (object_at r (all s.objects))) rest h.0 _ h.1 h.2
item_falls w f b s k (item.RunMember r) ready rest n = let h = run_alone_fits w f s k r ready in put_falls w f b s (run_items s.files r (object_at r (all s.objects))) rest h.0 _ h.1 h.2
item_falls w f b s k (item.HaltMember r) ready rest n = put_falls w f b s (halt_items r (object_at r (all s.objects))) rest _ _ (halt_alone_fits w f s r ready) (le_same _)
item_falls w f b s k (item.Drop r) ready rest n = put_falls w f b s (drop_items r (object_at r (all s.objects))) rest _ _ (drop_fits w f s r) (le_same _)
item_falls w f b s k (item.Emit e) ready rest n = emit_falls w f b s k e rest n ready.0 ready.1
item_falls w f b s k (item.Enter g) ready rest n = let h = entering_fits s.service w f (config_of s) g k.service (part_covered w f s k g ready) in put_falls w f b s (entering g (group_parts s.service g)) rest h.0 _ h.1 h.2
item_falls w f b s k (item.Exchange g) ready rest n = exchange_falls w f b s g rest n ready
item_falls w f b s k item.End ready rest n = ended _ _
  where
    ended : (r q : ℕ) → 1 + (r + 0) ≤ 1 + r + q
    ended r q = omega arith

-- the first item of a work list
pub done_falls : (w : Flow) (f : Weights) (b : Bounds) (s : State) → Ready w f s → (i : Item) (rest : List Item) → s.work ≡ i ∷ rest → IsReadyItem w f s i → 1 + left w f b (done i s) ≤ left w f b s
done_falls w f b s k i rest e ready =
    let now : work_cost s.service w f (config_of s) s.work ≡ item_cost s.service w f (config_of s) i + work_cost s.service w f (behind s.service (config_of s) i) rest = ap (work_cost s.service w f (config_of s)) e in
    let behind_it : drop 1 s.work ≡ rest = ap (drop 1) e in
    let falls : 1 + left w f b (done i s) ≤ item_cost s.service w f (config_of s) i + work_cost s.service w f (behind s.service (config_of s) i) rest + queue_cost s.service w f.cost b s.queue = subst (λ (x : List Item). 1 + left w f b (rule i (record s { work = x; taken = s.taken + 1 })) ≤ item_cost s.service w f (config_of s) i + work_cost s.service w f (behind s.service (config_of s) i) rest + queue_cost s.service w f.cost b s.queue) (sym behind_it) (item_falls w f b s k i ready rest (s.taken + 1)) in
    ends _ _ _ _ falls now
  where
    ends : (a x y q : ℕ) → a ≤ x + q → y ≡ x → a ≤ y + q
    ends a x y q h same = omega (arith, h, same)
