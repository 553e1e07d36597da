-- A rule keeps a state safe. Here `rest` is the work behind the item, and `n` the number of steps.
use Rattle.std.specs.Prelude.{◌≡◌, ℕ, Bool, true, false, ◌&&◌, if◌then◌else◌, List, [], ◌∷◌, ◌++◌, Option, Some, None, refl}
use Rattle.std.specs.Cmp.Derive.{both_true}
use Rattle.std.specs.Option.{is_some}
use Rattle.std.proofs.Common.{sym, subst, append_assoc, ◌∙◌}
use Rattle.mh_base.specs.declared.event.EventType.TheVariants as event
use Rattle.mh_base.specs.declared.obj_ref.ObjRef.{ObjRef}
use Rattle.mh_base.specs.declared.value.Value.TheVariants as value
use Rattle.mh_base.specs.declared.value.Value.{Value}
use Rattle.mh_base.specs.Event.{is_sync}
use Rattle.mh_group.specs.declared.action_name.ActionName.TheVariants as action
use Rattle.mh_group.specs.declared.action_name.ActionName.{ActionName}
use Rattle.mh_group.specs.Table.{admits}
use Rattle.mh_model.specs.declared.act.Act.{Act}
use Rattle.mh_model.specs.declared.config.Config.{Config}
use Rattle.mh_model.specs.declared.event.Event.{Event}
use Rattle.mh_model.specs.declared.input.Waiting.TheVariants as waiting
use Rattle.mh_model.specs.declared.item.Item.TheVariants as item
use Rattle.mh_model.specs.declared.item.Item.{Item}
use Rattle.mh_model.specs.declared.object.Body.{Body}
use Rattle.mh_model.specs.declared.object.Fixed.{Fixed}
use Rattle.mh_model.specs.declared.object.Object.{Object}
use Rattle.mh_model.specs.declared.sort.Sort.TheVariants as sort
use Rattle.mh_model.specs.declared.sort.Sort.{Sort}
use Rattle.mh_model.specs.Arguments.{values, receivers, referred}
use Rattle.mh_model.specs.Bodies.{prepared, started, halted, dropped, replaced, changed_by}
use Rattle.mh_model.specs.Configuration.{present}
use Rattle.mh_model.specs.Faults.{admitted_wrongs}
use Rattle.mh_model.specs.Files.{comes_to, is_loadable}
use Rattle.mh_model.specs.Groups.{entering}
use Rattle.mh_model.specs.Items.{heard}
use Rattle.mh_model.specs.Known.{known_before}
use Rattle.mh_model.specs.Lifecycle.{loaded_at, rise_items, started_items, halt_items, run_places, is_available_at, is_unavailable_at, is_unprepared_at}
use Rattle.mh_model.specs.Rules.{changed, all_placed, loaded_with, load_rule, widget_at, interaction_set, interact_rule, rule_by, emitted, rule, noted, act_on}
use Rattle.mh_model.specs.Saying.{answers_at, put_items, put_items_at, interaction_items}
use Rattle.mh_model.specs.Service.{Service, object_at, group_parts, is_there}
use Rattle.mh_model.specs.Sort.{sort_of}
use Rattle.mh_model.specs.State.{State, Objects, all}
use Rattle.mh_model.specs.Widget.{Worked}
use Rattle.mh_model.specs.Worked.{worked, is_interacting, ended_of}
use Rattle.mh_laws.specs.Describing.{can_put}
use Rattle.mh_laws.specs.Flow.{Flow, Sets}
use Rattle.mh_laws.specs.Safe.{config_of, behind, has_origin, IsSafeItem, IsSafeWork, IsSafeBy}
use Rattle.mh_model.proofs.ListLemmas.{some_same, all_joined}
use Rattle.mh_model.proofs.PartLemmas.{placed-own, placed-others, changed-own, changed-others}
use Rattle.mh_laws.proofs.ActLemmas.{sets_of, parts_of, IsSound, sound}
use Rattle.mh_laws.proofs.CallLemmas.{safe_call}
use Rattle.mh_laws.proofs.DescribingLemmas.{plain_puts}
use Rattle.mh_laws.proofs.EventLemmas.{safe_emit, safe_rise}
use Rattle.mh_laws.proofs.ExchangeLemmas.{safe_exchange}
use Rattle.mh_laws.proofs.GivenLemmas.{held_by_change, held_by_widget, answers_held}
use Rattle.mh_laws.proofs.HeldLemmas.{Fillable, KeepsHeld, leaves_changed, prepared_leaves, started_leaves, dropped_leaves, held_placed, held_changed, held_filled}
use Rattle.mh_laws.proofs.MemberLemmas.{safe_started, safe_halted}
use Rattle.mh_laws.proofs.PutLemmas.{filled-own, filled-others, fit_there, safe_all}
use Rattle.mh_laws.proofs.StateLemmas.{held_now, parts_present, fine_objects, group_there, fine_group, kept, kept_work, kept_bodies, kept_loads, unseen, unasked}
use Rattle.mh_laws.proofs.WholeLemmas.{safe_whole}
use Rattle.mh_laws.proofs.WidgetLemmas.{no_way, grounds_now, no_put_list, safe_widget}
use Rattle.mh_laws.proofs.WorkLemmas.{safe_heard, safe_entering}

-- content that is replaced

never_both : (b c : Bool) → (b && false && c) ≡ false
never_both true c = refl
never_both false c = refl

safe_load : {fw : Flow} (s : State) (k : IsSafeBy fw s) (vs : List Value) (r : ObjRef) (rest : List Item) (n : ℕ) → IsSafeWork s.service fw (config_of s) rest → IsSafeBy fw (load_rule vs r (record s { work = rest; taken = n }))
safe_load {fw} s k [] r rest n behind_it = kept_work s k rest n behind_it
safe_load {fw} s k (v ∷ []) r rest n behind_it = by (is_loadable v)
  where
    brings : Option Object → Bool
    brings o = is_loadable v && is_available_at o && is_some (comes_to s.files v)

    by : (b : Bool) → IsSafeBy fw (if b then loaded_with v r (record s { work = rest; taken = n }) else record s { work = rest; taken = n })
    by true =
        kept_loads s k _ s.stack _ _ n (changed-own (λ p b. replaced v (comes_to s.files v) b) r s.objects)
        (changed-others (λ p b. replaced v (comes_to s.files v) b) r s.objects)
        (leaves_changed (sets_of s k) (λ p b. replaced v (comes_to s.files v) b) r s.objects (λ p b. (refl, refl)) (held_now s k))
        (safe_emit s k r event.ContentAvailable rest brings (never_both (is_loadable v) (is_some (comes_to s.files v))) behind_it)
    by false = kept_work s k rest n behind_it
safe_load {fw} s k (v ∷ w ∷ vs) r rest n behind_it = kept_work s k rest n behind_it

-- an object that interacts, or no longer does

safe_interaction_items : (v : Service) (fw : Flow) (c : Config) (vs : List Value) (b : Bool) (r : ObjRef) (rest : List Item) → is_there r (present v c) ≡ true → IsSafeWork v fw c rest → IsSafeWork v fw c (interaction_items vs b r ++ rest)
safe_interaction_items v fw c (value.Bool false ∷ []) true r rest here_it k = (here_it, k)
safe_interaction_items v fw c _ b r rest here_it k = k

truth_fillable : (h : Sets) (ps : List Fixed) (rs : List ObjRef) (b : Bool) → Fillable h ps rs (value.Bool b ∷ [])
truth_fillable h ps [] b = tt
truth_fillable h ps (r ∷ []) b = (λ q is e. absurd cc, tt)
truth_fillable h ps (r ∷ x ∷ rs) b = (λ q is e. absurd cc, tt)

safe_interact : {fw : Flow} (s : State) (k : IsSafeBy fw s) (name : ActionName) (vs : List Value) (rs : List ObjRef) (r : ObjRef) (rest : List Item) (n : ℕ) → admitted_wrongs (known_before s.service (present s.service (config_of s))) name None r ≡ [] → IsSafeWork s.service fw (config_of s) rest → IsSafeBy fw (interact_rule name vs rs r (record s { work = rest; taken = n }))
safe_interact {fw} s k action.SetInteractionStatus vs rs r rest n fit behind_it =
    let here_it = fit_there (λ x. admits x action.SetInteractionStatus) None r (present s.service (config_of s)) fit in
    let work : List Item = interaction_items vs (is_interacting r s.interaction) r ++ rest in
    unasked (record s { work = work; taken = n })
    (kept_work s k work n (safe_interaction_items s.service fw (config_of s) vs (is_interacting r s.interaction) r rest here_it behind_it))
    (interaction_set vs r (object_at r (all s.objects)) s.interaction)
safe_interact {fw} s k action.GetInteractionStatus vs rs r rest n fit behind_it =
    let told : List Value = value.Bool (is_interacting r s.interaction) ∷ [] in
    kept_bodies s k _ s.stack rest n (filled-own rs told s.objects) (filled-others rs told s.objects)
    (held_filled (sets_of s k) (parts_of s) rs told s.objects (parts_present s k) (truth_fillable (sets_of s k) (parts_of s) rs (is_interacting r s.interaction)) (held_now s k)) behind_it
safe_interact {fw} s k _ vs rs r rest n fit behind_it = kept_work s k rest n behind_it

-- an action with which nothing is wrong, by what kind of thing it does
safe_by_sort : {fw : Flow} (s : State) (k : IsSafeBy fw s) (o : Sort) (a : Act) (r : ObjRef) (rest : List Item) (n : ℕ) → sort_of a.name ≡ o → IsSound fw s k a r → IsSafeWork s.service fw (config_of s) rest → IsSafeBy fw (rule_by o a.name a.arguments r (record s { work = rest; taken = n }))
safe_by_sort {fw} s k sort.Change a r rest n same so behind_it =
    let by : Fixed → Body → Body = changed_by a.name (values (all s.objects) a.arguments) in
    kept_bodies s k _ s.stack rest n (changed-own by r s.objects) (changed-others by r s.objects)
    (held_changed (sets_of s k) by r s.objects (λ o found. held_by_change s k a r o so same found) (held_now s k)) behind_it
safe_by_sort {fw} s k sort.Ask a r rest n same so behind_it =
    let told : List Value = answers_at a.name (values (all s.objects) a.arguments) (object_at r (all s.objects)) in
    kept_bodies s k _ s.stack rest n (filled-own (receivers a.arguments) told s.objects) (filled-others (receivers a.arguments) told s.objects)
    (held_filled (sets_of s k) (parts_of s) (receivers a.arguments) told s.objects (parts_present s k) (answers_held s k a r so same) (held_now s k)) behind_it
safe_by_sort {fw} s k sort.Put a r rest n same so behind_it =
    kept_work s k _ n (by (object_at r (all s.objects)) refl)
  where
    by : (m : Option Object) → object_at r (all s.objects) ≡ m → IsSafeWork s.service fw (config_of s) (put_items_at a.name (values (all s.objects) a.arguments) r m ++ rest)
    by None e = behind_it
    by (Some o) e =
        let vs : List Value = values (all s.objects) a.arguments in
        safe_all s.service fw (config_of s) r vs o (can_put a.name) (put_items a.name vs r o) rest (plain_puts a.name vs r o)
        (grounds_now s k a r o so e (λ some. let never = no_put_list a.name same some in absurd cc) (no_way a.name sort.Put same refl)) behind_it
safe_by_sort {fw} s k sort.Load a r rest n same so behind_it = safe_load s k (values (all s.objects) a.arguments) r rest n behind_it
safe_by_sort {fw} s k sort.Call a r rest n same so behind_it = safe_call s k _ a r rest n so same behind_it
safe_by_sort {fw} s k sort.Order a r rest n same so behind_it = kept_bodies s k s.objects _ rest n refl refl (held_now s k) behind_it
safe_by_sort {fw} s k sort.Widget a r rest n same so behind_it = by (object_at r (all s.objects)) refl
  where
    vs : List Value
    vs = values (all s.objects) a.arguments

    by : (m : Option Object) → object_at r (all s.objects) ≡ m → IsSafeBy fw (widget_at a.name vs r m (record s { work = rest; taken = n }))
    by None e = kept_work s k rest n behind_it
    by (Some o) e =
        let w : Worked = worked a.name vs r o.fixed o.body in
        let os : Objects = changed (λ p b. w.body) r s.objects in
        kept_bodies s k (all_placed w.placed os) s.stack (w.items ++ rest) n
        (placed-own w.placed os ∙ changed-own (λ p b. w.body) r s.objects) (placed-others w.placed os ∙ changed-others (λ p b. w.body) r s.objects)
        (held_placed (sets_of s k) w.placed os (held_changed (sets_of s k) (λ p b. w.body) r s.objects (the_one_worked o e) (held_now s k)))
        (safe_widget s k a r o rest so same e behind_it)
      where
        the_one_worked : (o : Object) → object_at r (all s.objects) ≡ Some o → (x : Object) → object_at r (all s.objects) ≡ Some x → KeepsHeld (sets_of s k) (λ p b. (worked a.name vs r o.fixed o.body).body) x
        the_one_worked o e x found =
            subst (λ (y : Object). KeepsHeld (sets_of s k) (λ p b. (worked a.name vs r o.fixed o.body).body) y) (some_same (sym e ∙ found)) (held_by_widget s k a r o so same e)
safe_by_sort {fw} s k sort.Interact a r rest n same so behind_it = safe_interact s k a.name (values (all s.objects) a.arguments) (receivers a.arguments) r rest n so.fit behind_it
safe_by_sort {fw} s k sort.Whole a r rest n same so behind_it =
    safe_whole s k a.name (values (all s.objects) a.arguments) r rest n so.fit (so.fine.led r so.may) behind_it

safe_action : {fw : Flow} (s : State) (k : IsSafeBy fw s) (a : Act) (rest : List Item) (n : ℕ) → IsSafeItem s.service fw (config_of s) (item.Act a) → IsSafeWork s.service fw (config_of s) rest → IsSafeBy fw (rule (item.Act a) (record s { work = rest; taken = n }))
safe_action {fw} s k a rest n fine behind_it = by (referred a.target (all s.objects)) refl
  where
    by : (m : Option ObjRef) → referred a.target (all s.objects) ≡ m → IsSafeBy fw (act_on m a.name a.arguments (record s { work = rest; taken = n }))
    by None e = kept_work s k rest n behind_it
    by (Some r) e = safe_by_sort s k (sort_of a.name) a r rest n refl (sound s k a r fine e) behind_it

-- an object that becomes available or runs, that stops, and that is dropped

safe_prepare_item : {fw : Flow} (s : State) (k : IsSafeBy fw s) (r : ObjRef) (rest : List Item) (n : ℕ) → IsSafeWork s.service fw (config_of s) rest → IsSafeBy fw (rule (item.Prepare r) (record s { work = rest; taken = n }))
safe_prepare_item {fw} s k r rest n behind_it =
    let text : Option (List ℕ) = loaded_at s.files (object_at r (all s.objects)) in
    kept_loads s k _ _ _ _ n (changed-own (λ p b. prepared text b) r s.objects) (changed-others (λ p b. prepared text b) r s.objects)
    (leaves_changed (sets_of s k) (λ p b. prepared text b) r s.objects (prepared_leaves text) (held_now s k))
    (safe_rise s k s.files is_unavailable_at r rest refl behind_it)

safe_run_item : {fw : Flow} (s : State) (k : IsSafeBy fw s) (r : ObjRef) (rest : List Item) (n : ℕ) → IsSafeWork s.service fw (config_of s) rest → IsSafeBy fw (rule (item.Run r) (record s { work = rest; taken = n }))
safe_run_item {fw} s k r rest n behind_it =
    let o : Option Object = object_at r (all s.objects) in
    let text : Option (List ℕ) = loaded_at s.files o in
    let os : Objects = changed (started text) r s.objects in
    kept_loads s k (all_placed (run_places o) os) _ _ _ n
    (placed-own (run_places o) os ∙ changed-own (started text) r s.objects) (placed-others (run_places o) os ∙ changed-others (started text) r s.objects)
    (held_placed (sets_of s k) (run_places o) os (leaves_changed (sets_of s k) (started text) r s.objects (started_leaves text) (held_now s k)))
    (subst (IsSafeWork s.service fw (config_of s)) (sym (append_assoc (rise_items s.files is_unprepared_at r o) (started_items r o) rest))
    (safe_rise s k s.files is_unprepared_at r _ refl (safe_started s k r rest behind_it)))

safe_halt_item : {fw : Flow} (s : State) (k : IsSafeBy fw s) (r : ObjRef) (rest : List Item) (n : ℕ) → IsSafeWork s.service fw (config_of s) rest → IsSafeBy fw (rule (item.Halt r) (record s { work = rest; taken = n }))
safe_halt_item {fw} s k r rest n behind_it =
    let os : Objects = changed (λ p b. halted b) r s.objects in
    let work : List Item = halt_items r (object_at r (all s.objects)) ++ rest in
    unasked (record s { objects = os; work = work; taken = n })
    (kept_bodies s k os s.stack work n (changed-own (λ p b. halted b) r s.objects) (changed-others (λ p b. halted b) r s.objects) (leaves_changed (sets_of s k) (λ p b. halted b) r s.objects (λ p b. (refl, refl)) (held_now s k)) (safe_halted s k r rest behind_it))
    (ended_of r s.interaction)

safe_drop_item : {fw : Flow} (s : State) (k : IsSafeBy fw s) (r : ObjRef) (rest : List Item) (n : ℕ) → IsSafeWork s.service fw (config_of s) rest → IsSafeBy fw (rule (item.Drop r) (record s { work = rest; taken = n }))
safe_drop_item {fw} s k r rest n behind_it =
    kept_loads s k _ _ _ _ n (changed-own (λ p b. dropped b) r s.objects) (changed-others (λ p b. dropped b) r s.objects) (leaves_changed (sets_of s k) (λ p b. dropped b) r s.objects dropped_leaves (held_now s k)) (safe_emit s k r event.IsDeleted rest is_available_at refl behind_it)

-- an event that is dealt with at once, or that waits
safe_emitted : {fw : Flow} (s : State) (k : IsSafeBy fw s) (e : Event) (rest : List Item) (n : ℕ) → is_there e.source (present s.service (config_of s)) ≡ true → IsSafeWork s.service fw (config_of s) rest → IsSafeBy fw (emitted e (record s { work = rest; taken = n }))
safe_emitted {fw} s k e rest n here_it behind_it = by (is_sync e.kind)
  where
    by : (b : Bool) → IsSafeBy fw (if b then record s { work = heard e (all s.objects) ++ rest; taken = n } else record s { queue = s.queue ++ waiting.Event e ∷ []; work = rest; taken = n })
    by true = kept_work s k _ n (safe_heard s.service fw (config_of s) e (present s.service (config_of s)) (all s.objects) rest here_it (fine_objects s k) behind_it)
    by false = kept s k s.objects s.stack s.timers _ rest n refl refl (held_now s k) behind_it k.timers (all_joined (has_origin (present s.service (config_of s))) s.queue (waiting.Event e ∷ []) k.queue (both_true here_it refl))

-- doing an item, where the work behind it is safe
pub safe_rule : {fw : Flow} (s : State) (k : IsSafeBy fw s) (i : Item) (rest : List Item) (n : ℕ) → IsSafeItem s.service fw (config_of s) i → IsSafeWork s.service fw (behind s.service (config_of s) i) rest → IsSafeBy fw (rule i (record s { work = rest; taken = n }))
safe_rule {fw} s k (item.Act a) rest n here_it behind_it = safe_action s k a rest n here_it behind_it
safe_rule {fw} s k (item.Prepare r) rest n here_it behind_it = safe_prepare_item s k r rest n behind_it
safe_rule {fw} s k (item.Run r) rest n here_it behind_it = safe_run_item s k r rest n behind_it
safe_rule {fw} s k (item.Halt r) rest n here_it behind_it = safe_halt_item s k r rest n behind_it
safe_rule {fw} s k (item.RunMember r) rest n here_it behind_it = safe_run_item s k r rest n behind_it
safe_rule {fw} s k (item.HaltMember r) rest n here_it behind_it = safe_halt_item s k r rest n behind_it
safe_rule {fw} s k (item.Drop r) rest n here_it behind_it = safe_drop_item s k r rest n behind_it
safe_rule {fw} s k (item.Emit e) rest n here_it behind_it = safe_emitted s k e rest n here_it behind_it
safe_rule {fw} s k (item.Enter g) rest n here_it behind_it =
    let put = safe_entering s.service fw (config_of s) g rest (fine_group s k g here_it) (group_there s k g here_it) behind_it in
    unseen (record s { work = entering g (group_parts s.service g) ++ rest; taken = n }) (kept_work s k (entering g (group_parts s.service g) ++ rest) n put) (noted g s) s.ended s.locks s.frozen
safe_rule {fw} s k (item.Exchange g) rest n here_it behind_it = safe_exchange s k g rest n here_it behind_it
safe_rule {fw} s k item.End rest n here_it behind_it =
    unseen (record s { queue = []; work = rest; taken = n }) (kept s k s.objects s.stack s.timers [] rest n refl refl (held_now s k) behind_it k.timers refl) s.moments true s.locks s.frozen
