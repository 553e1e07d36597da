-- What comes of a step brings no scene that is late.
use Rattle.std.specs.List.{list_all}
use Rattle.std.specs.Option.{option_map, option_map_or}
use Rattle.std.specs.Prelude.{◌≡◌, ◌++◌, ◌+◌, ◌∷◌, ◌==◌, Bool, List, None, Option, Some, [], false, if◌then◌else◌, not, true, ℕ}
use Rattle.std.proofs.Common.{ap, refl, subst, sym, ◌∙◌}
use Rattle.std.proofs.lemmas.Bool.Decides.{Decides-eqb}
use Rattle.mh_base.specs.Event.{is_sync}
use Rattle.mh_base.specs.declared.event.EventType.TheVariants as event
use Rattle.mh_base.specs.declared.obj_ref.ObjRef.{ObjRef}
use Rattle.mh_base.specs.declared.value.Value.{Value}
use Rattle.mh_base.specs.declared.value.Value.TheVariants as value
use Rattle.mh_group.specs.Table.{admits, is_application, is_group_class, is_scene}
use Rattle.mh_group.specs.declared.action_name.ActionName.{ActionName}
use Rattle.mh_group.specs.declared.action_name.ActionName.TheVariants as action
use Rattle.mh_group.specs.declared.class.Class.{Class}
use Rattle.mh_group.specs.declared.class.Class.TheVariants as class
use Rattle.mh_model.specs.declared.act.Act.{Act}
use Rattle.mh_model.specs.declared.act.Argument.{Argument}
use Rattle.mh_model.specs.declared.config.Config.{Config}
use Rattle.mh_model.specs.declared.event.Event.{Event}
use Rattle.mh_model.specs.declared.input.Waiting.TheVariants as waiting
use Rattle.mh_model.specs.declared.item.Item.{Item}
use Rattle.mh_model.specs.declared.item.Item.TheVariants as item
use Rattle.mh_model.specs.declared.object.Fixed.{Fixed}
use Rattle.mh_model.specs.declared.object.Object.{Object}
use Rattle.mh_model.specs.declared.sort.Sort.{Sort}
use Rattle.mh_model.specs.declared.sort.Sort.TheVariants as sort
use Rattle.mh_model.specs.Arguments.{receivers, referred, values}
use Rattle.mh_model.specs.Configuration.{is_group_of, present}
use Rattle.mh_model.specs.Faults.{admitted_wrongs, object_wrongs}
use Rattle.mh_model.specs.Files.{is_loadable}
use Rattle.mh_model.specs.Groups.{entering}
use Rattle.mh_model.specs.Items.{heard}
use Rattle.mh_model.specs.Known.{class_at, known_before}
use Rattle.mh_model.specs.Late.{is_late_scene}
use Rattle.mh_model.specs.Lifecycle.{drop_items, halt_items, is_available_at, is_unavailable_at, prepare_items, run_items}
use Rattle.mh_model.specs.Reference.{group_ref}
use Rattle.mh_model.specs.Rules.{act_on, application_exchanged, begins_or_waits, emitted, exchange_rule, interact_rule, is_begun, load_rule, loaded_with, rule, rule_by, scene_exchanged, whole_rule, widget_at}
use Rattle.mh_model.specs.Saying.{call_items, interaction_items, load_items, put_items, put_items_at}
use Rattle.mh_model.specs.Service.{Service, group_parts, object_at, part_at, with_parts}
use Rattle.mh_model.specs.Sort.{sort_of}
use Rattle.mh_model.specs.State.{State, all}
use Rattle.mh_model.specs.Worked.{is_interacting, worked}
use Rattle.mh_model.proofs.ServiceLemmas.{found_numbered, is_whole}
use Rattle.mh_laws.specs.Describing.{can_put}
use Rattle.mh_laws.proofs.DescribingLemmas.{plain_puts, widget_puts}
use Rattle.mh_laws.proofs.FaultLemmas.{fit_object}
use Rattle.mh_laws.proofs.WidgetLemmas.{no_way}
use Rattle.mh_seal_laws.proofs.Whole.{AreHere, is_here}
use Rattle.mh_seal_laws.specs.Bringing.{AreScenes}
use Rattle.mh_seal_laws.proofs.ItemLemmas.{and_both, both_here, emits_here, entering_here, halt_here, heard_here, leaving_here, put_here, quitting_here, rise_here, run_here}

-- Rules

-- no group is an application and a scene
pub apart_classes : (k : Class) → is_application k ≡ true → is_scene k ≡ true → false ≡ true
apart_classes class.Application a b = b
apart_classes _ a b = absurd cc

pub launched_class : (k : Class) → admits k action.Launch ≡ true → is_scene k ≡ true → false ≡ true
launched_class class.Application a b = b
launched_class _ a b = absurd cc

pub never_both : (v : Service) (g : List ℕ) (is : Class → Bool) → ((k : Class) → is k ≡ true → is_scene k ≡ true → false ≡ true) → is_group_of is v g ≡ true → is_group_of is_scene v g ≡ true → false ≡ true
never_both v g is apart a b = by (part_at (group_ref g) (group_parts v g)) a b
  where
    by : (m : Option Fixed) → option_map_or (λ (p : Fixed). is p.class) m false ≡ true → option_map_or (λ (p : Fixed). is_scene p.class) m false ≡ true → false ≡ true
    by None a b = a
    by (Some p) a b = apart p.class a b

pub not_late : (v : Service) (gs : List (List ℕ)) (g : List ℕ) → AreScenes v gs → (is_group_of is_scene v g ≡ true → false ≡ true) → is_late_scene g gs ≡ false
not_late v gs g scenes never = by (is_late_scene g gs) refl
  where
    by : (b : Bool) → is_late_scene g gs ≡ b → b ≡ false
    by true e = let wrong : false ≡ true = never (scenes g e) in absurd cc
    by false e = refl

-- what is launched is an application

pub launch_fit : (v : Service) (c : Config) (r : ObjRef) → list_all is_whole (present v c) ≡ true → admitted_wrongs (known_before v (present v c)) action.Launch None r ≡ [] → is_group_of (λ k. admits k action.Launch) v r.group ≡ true
launch_fit v c r whole h = by_number (r.number == 0) refl
  where
    found : (ps : List Fixed) → object_wrongs (λ k. admits k action.Launch) None r (class_at r ps) ≡ [] → (p : Fixed) × (part_at r ps ≡ Some p) × (admits p.class action.Launch ≡ true)
    found ps e = by (part_at r ps) refl e
      where
        by : (m : Option Fixed) → part_at r ps ≡ m → object_wrongs (λ k. admits k action.Launch) None r (option_map (λ (p : Fixed). p.class) m) ≡ [] → (p : Fixed) × (part_at r ps ≡ Some p) × (admits p.class action.Launch ≡ true)
        by None same e = absurd cc
        by (Some p) same e =
            let fit = fit_object (λ k. admits k action.Launch) None r (Some p.class) e in
            let class_is : p.class ≡ fit.0 = ap (λ (m : Option Class). option_map_or (λ (k : Class). k) m p.class) fit.1 in
            (p, same, subst (λ (k : Class). admits k action.Launch ≡ true) (sym class_is) fit.2)

    group_of : (k : Class) → admits k action.Launch ≡ true → is_group_class k ≡ true
    group_of class.Application e = refl
    group_of _ e = absurd cc

    looked : (b : Bool) → (r.number == 0) ≡ b → object_wrongs (λ k. admits k action.Launch) None r (if b then class_at r (group_parts v r.group) else class_at r (present v c)) ≡ []
    looked b e = subst (λ (t : Bool). object_wrongs (λ k. admits k action.Launch) None r (if t then class_at r (group_parts v r.group) else class_at r (present v c)) ≡ []) e h

    by_number : (b : Bool) → (r.number == 0) ≡ b → is_group_of (λ k. admits k action.Launch) v r.group ≡ true
    by_number true e =
        let hit = found (group_parts v r.group) (looked true e) in
        let zeroth : r.number ≡ 0 = (Decides-eqb r.number 0).0 e in
        let itself : r ≡ group_ref r.group = λ i. record { group = r.group; number = zeroth i } in
        let at : part_at (group_ref r.group) (group_parts v r.group) ≡ Some hit.0 = ap (λ (q : ObjRef). part_at q (group_parts v r.group)) (sym itself) ∙ hit.1 in
        ap (λ (m : Option Fixed). option_map_or (λ (p : Fixed). admits p.class action.Launch) m false) at ∙ hit.2
    by_number false e =
        let hit = found (present v c) (looked false e) in
        let numbered : (r.number == 0) ≡ true = found_numbered r (present v c) hit.0 whole hit.1 (group_of (hit.0).class hit.2) in
        let wrong : true ≡ false = sym numbered ∙ e in
        absurd cc

interaction_here : (gs : List (List ℕ)) (vs : List Value) (b : Bool) (r : ObjRef) → AreHere gs (interaction_items vs b r)
interaction_here gs (value.Bool false ∷ []) true r = refl
interaction_here gs _ b r = refl

load_here : (gs : List (List ℕ)) (vs : List Value) (r : ObjRef) (s : State) → AreHere gs s.work → AreHere gs (load_rule vs r s).work
load_here gs [] r s h = h
load_here gs (v ∷ x ∷ vs) r s h = h
load_here gs (v ∷ []) r s h = by (is_loadable v)
  where
    by : (t : Bool) → AreHere gs (if t then loaded_with v r s else s).work
    by true = both_here gs (load_items s.files (v ∷ []) r (object_at r (all s.objects))) s.work (emits_here gs _ r event.ContentAvailable) h
    by false = h

call_here : (gs : List (List ℕ)) (n : ActionName) (r : ObjRef) → AreHere gs (call_items n r)
call_here gs action.Fork r = refl
call_here gs _ r = refl

-- a transition leads to what is not late
whole_here : (n : ActionName) (vs : List Value) (r : ObjRef) (s : State) → (n ≡ action.Launch → is_late_scene r.group s.late ≡ false) → AreHere s.late s.work → AreHere s.late (whole_rule n vs r s).work
whole_here action.TransitionTo vs r s launch h = by (is_begun s.transition) (is_late_scene r.group s.late) refl
  where
    by : (b late : Bool) → is_late_scene r.group s.late ≡ late → AreHere s.late (if b then s else begins_or_waits late action.TransitionTo r s).work
    by true late e = h
    by false true e = h
    by false false e = leaving_here s.late (group_parts s.service s.application) (with_parts s.service s.scene) r.group e
whole_here action.Launch vs r s launch h = by (is_begun s.transition)
  where
    by : (b : Bool) → AreHere s.late (if b then s else begins_or_waits false action.Launch r s).work
    by true = h
    by false = quitting_here s.late s.application (group_parts s.service s.application) (with_parts s.service s.scene) (item.Exchange r.group) (ap not (launch refl))
whole_here action.Quit vs r s launch h = by (is_begun s.transition)
  where
    by : (b : Bool) → AreHere s.late (if b then s else begins_or_waits false action.Quit r s).work
    by true = h
    by false = quitting_here s.late s.application (group_parts s.service s.application) (with_parts s.service s.scene) item.End refl
whole_here action.LockScreen vs r s launch h = h
whole_here action.UnlockScreen vs r s launch h = h
whole_here action.SetTimer vs r s launch h = h
whole_here _ vs r s launch h = h

interact_here : (gs : List (List ℕ)) (n : ActionName) (vs : List Value) (rs : List ObjRef) (r : ObjRef) (s : State) → AreHere gs s.work → AreHere gs (interact_rule n vs rs r s).work
interact_here gs action.SetInteractionStatus vs rs r s h = both_here gs (interaction_items vs (is_interacting r s.interaction) r) s.work (interaction_here gs vs (is_interacting r s.interaction) r) h
interact_here gs action.GetInteractionStatus vs rs r s h = h
interact_here gs _ vs rs r s h = h

sort_here : (o : Sort) (n : ActionName) (xs : List Argument) (r : ObjRef) (s : State) → sort_of n ≡ o → (n ≡ action.Launch → is_late_scene r.group s.late ≡ false) → AreHere s.late s.work → AreHere s.late (rule_by o n xs r s).work
sort_here sort.Change n xs r s same launch h = h
sort_here sort.Ask n xs r s same launch h = h
sort_here sort.Put n xs r s same launch h = by (object_at r (all s.objects))
  where
    by : (m : Option Object) → AreHere s.late (put_items_at n (values (all s.objects) xs) r m ++ s.work)
    by None = h
    by (Some o) = both_here s.late (put_items n (values (all s.objects) xs) r o) s.work (put_here s.late r (values (all s.objects) xs) o (can_put n) (put_items n (values (all s.objects) xs) r o) (no_way n sort.Put same refl) (plain_puts n (values (all s.objects) xs) r o)) h
sort_here sort.Load n xs r s same launch h = load_here s.late (values (all s.objects) xs) r s h
sort_here sort.Call n xs r s same launch h = both_here s.late (call_items n r) s.work (call_here s.late n r) h
sort_here sort.Order n xs r s same launch h = h
sort_here sort.Widget n xs r s same launch h = by (object_at r (all s.objects))
  where
    by : (m : Option Object) → AreHere s.late (widget_at n (values (all s.objects) xs) r m s).work
    by None = h
    by (Some o) = both_here s.late (worked n (values (all s.objects) xs) r o.fixed o.body).items s.work (put_here s.late r (values (all s.objects) xs) o (can_put n) (worked n (values (all s.objects) xs) r o.fixed o.body).items (no_way n sort.Widget same refl) (widget_puts n (values (all s.objects) xs) r o)) h
sort_here sort.Interact n xs r s same launch h = interact_here s.late n (values (all s.objects) xs) (receivers xs) r s h
sort_here sort.Whole n xs r s same launch h = whole_here n (values (all s.objects) xs) r s launch h

act_here : (m : Option ObjRef) (n : ActionName) (xs : List Argument) (s : State) → ((r : ObjRef) → m ≡ Some r → n ≡ action.Launch → is_late_scene r.group s.late ≡ false) → AreHere s.late s.work → AreHere s.late (act_on m n xs s).work
act_here None n xs s launch h = h
act_here (Some r) n xs s launch h = sort_here (sort_of n) n xs r s refl (launch r refl) h

emit_here : (e : Event) (s : State) → AreHere s.late s.work → AreHere s.late (emitted e s).work
emit_here e s h = by (is_sync e.kind)
  where
    by : (t : Bool) → AreHere s.late (if t then record s { work = heard e (all s.objects) ++ s.work } else record s { queue = s.queue ++ waiting.Event e ∷ [] }).work
    by true = both_here s.late (heard e (all s.objects)) s.work (heard_here s.late e (all s.objects)) h
    by false = h

exchange_here : (g : List ℕ) (s : State) → is_late_scene g s.late ≡ false → AreHere s.late s.work → AreHere s.late (exchange_rule g s).work
exchange_here g s e h = by (is_group_of is_application s.service g)
  where
    by : (t : Bool) → AreHere s.late (if t then application_exchanged g s else scene_exchanged g s).work
    by true = and_both (not (is_late_scene g s.late)) (list_all (is_here s.late) s.work) (ap not e) h
    by false = and_both (not (is_late_scene g s.late)) (list_all (is_here s.late) s.work) (ap not e) h

pub not_true : (b : Bool) → not b ≡ true → b ≡ false
not_true true e = absurd cc
not_true false e = refl

-- an action of the first item launches nothing that is late
abbrev pub LaunchesHere : State → Item → Type 0
LaunchesHere s (item.Act a) = (r : ObjRef) → referred a.target (all s.objects) ≡ Some r → a.name ≡ action.Launch → is_late_scene r.group s.late ≡ false
LaunchesHere s _ = Unit {0}

pub rule_here : (i : Item) (s : State) → LaunchesHere s i → is_here s.late i ≡ true → AreHere s.late s.work → AreHere s.late (rule i s).work
rule_here (item.Act a) s launch here h = act_here (referred a.target (all s.objects)) a.name a.arguments s launch h
rule_here (item.Prepare r) s launch here h = both_here s.late (prepare_items s.files r (object_at r (all s.objects))) s.work (rise_here s.late s.files is_unavailable_at r (object_at r (all s.objects))) h
rule_here (item.Run r) s launch here h = both_here s.late (run_items s.files r (object_at r (all s.objects))) s.work (run_here s.late s.files r (object_at r (all s.objects))) h
rule_here (item.Halt r) s launch here h = both_here s.late (halt_items r (object_at r (all s.objects))) s.work (halt_here s.late r (object_at r (all s.objects))) h
rule_here (item.RunMember r) s launch here h = both_here s.late (run_items s.files r (object_at r (all s.objects))) s.work (run_here s.late s.files r (object_at r (all s.objects))) h
rule_here (item.HaltMember r) s launch here h = both_here s.late (halt_items r (object_at r (all s.objects))) s.work (halt_here s.late r (object_at r (all s.objects))) h
rule_here (item.Drop r) s launch here h = both_here s.late (drop_items r (object_at r (all s.objects))) s.work (emits_here s.late (is_available_at (object_at r (all s.objects))) r event.IsDeleted) h
rule_here (item.Emit e) s launch here h = emit_here e s h
rule_here (item.Enter g) s launch here h = both_here s.late (entering g (group_parts s.service g)) s.work (entering_here s.late g (group_parts s.service g)) h
rule_here (item.Exchange g) s launch here h = exchange_here g s (not_true (is_late_scene g s.late) here) h
rule_here item.End s launch here h = h
