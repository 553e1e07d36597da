-- What a safe state gives: all that a step needs to be counted.
use Rattle.std.specs.List.{list_all, list_any}
use Rattle.std.specs.Option.{option_map, option_map_or}
use Rattle.std.specs.Prelude.{◌∷◌, ◌≡◌, ◌≤◌, ◌⊎◌, Bool, List, None, Option, Some, [], false, filter, if◌then◌else◌, not, ◌||◌, slice_get, true}
use Rattle.std.proofs.Common.{◌∙◌, ap, inl, inr, refl, subst, sym}
use Rattle.mh_base.specs.declared.obj_ref.ObjRef.{ObjRef}
use Rattle.mh_base.specs.declared.value.Kind.TheVariants as kind
use Rattle.mh_base.specs.declared.value.Value.{Value}
use Rattle.mh_base.specs.declared.value.Value.TheVariants as value
use Rattle.mh_group.specs.Table.{admits, is_link, is_list_group, is_visible, needs_of}
use Rattle.mh_group.specs.declared.action_name.ActionName.{ActionName}
use Rattle.mh_group.specs.declared.action_name.ActionName.TheVariants as action
use Rattle.mh_group.specs.declared.attribute.Attribute.TheVariants as attribute
use Rattle.mh_group.specs.declared.class.Class.{Class}
use Rattle.mh_group.specs.declared.class.Class.TheVariants as class
use Rattle.mh_group.specs.declared.shape.Need.TheVariants as need
use Rattle.mh_model.specs.declared.act.Act.{Act}
use Rattle.mh_model.specs.declared.act.Argument.{Argument}
use Rattle.mh_model.specs.declared.act.Argument.TheVariants as argument
use Rattle.mh_model.specs.declared.act.Target.{Target}
use Rattle.mh_model.specs.declared.act.Target.TheVariants as target
use Rattle.mh_model.specs.declared.config.Config.{Config}
use Rattle.mh_model.specs.declared.file.File.{File}
use Rattle.mh_model.specs.declared.item.Item.{Item}
use Rattle.mh_model.specs.declared.item.Item.TheVariants as item
use Rattle.mh_model.specs.declared.object.Fixed.{Fixed}
use Rattle.mh_model.specs.declared.object.Object.{Object}
use Rattle.mh_model.specs.Arguments.{referred, value_in, values}
use Rattle.mh_model.specs.Configuration.{present}
use Rattle.mh_model.specs.Effects.{actions, has_direct_event, is_sending, sends_direct, sends_written}
use Rattle.mh_model.specs.Faults.{admitted_wrongs, argument_wrongs, arguments_wrongs, is_transition, object_wrongs, variable_wrongs}
use Rattle.mh_model.specs.Known.{Known, class_at, known_before}
use Rattle.mh_model.specs.Lists.{objects_of, relisted}
use Rattle.mh_model.specs.Property.{as_reference, as_value, held}
use Rattle.mh_model.specs.Reference.{same_ref}
use Rattle.mh_model.specs.Service.{Service, object_at, part_at}
use Rattle.mh_model.specs.State.{State, all}
use Rattle.mh_model.specs.Stuck.{fault_at, stuck}
use Rattle.mh_model.specs.Variables.{same_kind}
use Rattle.mh_model.specs.Worked.{worked}
use Rattle.mh_model.proofs.ListLemmas.{empty_left, empty_right}
use Rattle.mh_model.proofs.PartLemmas.{part_at-parts}
use Rattle.mh_model.proofs.ServiceLemmas.{present_sent}
use Rattle.mh_laws.specs.Active.{has_source, is_active}
use Rattle.mh_laws.specs.Costs.{named, targets}
use Rattle.mh_laws.specs.Describing.{can_put, is_list_piece, is_sent, is_slot_piece, items_put}
use Rattle.mh_laws.specs.Describing as saying
use Rattle.mh_laws.specs.Each.{Among, Each}
use Rattle.mh_laws.specs.Flow.{Flow, MayBe, has, is_reference_in}
use Rattle.mh_laws.specs.Safe.{IsFine, IsSafeBy, IsSafeItem, config_of}
use Rattle.mh_laws.specs.Ways.{count_of, highlight_ways, interaction_ways, ways}
use Rattle.mh_laws.proofs.ActLemmas.{IsSound, fit_here, held_at, known_now, parts_of, possible_now, sound}
use Rattle.mh_laws.proofs.EachLemmas.{among_all, each_found, from_joined}
use Rattle.mh_laws.proofs.FaultLemmas.{fit_object, fit_variable}
use Rattle.mh_laws.proofs.GivenLemmas.{holder_of_list}
use Rattle.mh_laws.proofs.HandLemmas.{given_held, sent_placed}
use Rattle.mh_laws.proofs.HeldLemmas.{found_key}
use Rattle.mh_laws.proofs.ItemCostLemmas.{IsReadyAct, IsReadyItem, MayPut, Ready, covered_now, found_part}
use Rattle.mh_laws.proofs.LifeCostLemmas.{IsListedIn}
use Rattle.mh_laws.proofs.OnceLemmas.{holds_among, holds_count, within_set}
use Rattle.mh_laws.proofs.PutLemmas.{sent_right}
use Rattle.mh_laws.proofs.ShareLemmas.{IsWord, Needs, first_named}
use Rattle.mh_laws.proofs.StateLemmas.{parts_present}
use Rattle.mh_laws.proofs.StepLemmas.{first_safe, safe_by_front}
use Rattle.mh_laws.proofs.TimeLemmas.{all_filtered}
use Rattle.mh_laws.proofs.WidgetLemmas.{IsTight, none_listed, tight_or_none}
use Rattle.mh_laws.specs.Weighing.{IsAwake, CoversAll, IsActiveCovered, IsPartCovered, Weights}

-- What an action needs, by its shares

light_needs : (v : Service) (w : Flow) (f : Weights) (c : Config) (xs ys : List Argument) (vs : List Value) (r : ObjRef) (o : Object) → Each (Each (Needs v w f c xs vs r o)) (highlight_ways ys)
light_needs v w f c xs (argument.Direct (value.Bool true) ∷ []) vs r o = ((tt, tt), tt)
light_needs v w f c xs (argument.Direct (value.Bool false) ∷ []) vs r o = ((tt, tt), tt)
light_needs v w f c xs _ vs r o = ((tt, tt), ((tt, tt), tt))

interaction_needs : (v : Service) (w : Flow) (f : Weights) (c : Config) (xs ys : List Argument) (vs : List Value) (r : ObjRef) (o : Object) → Each (Each (Needs v w f c xs vs r o)) (interaction_ways ys)
interaction_needs v w f c xs (argument.Direct (value.Bool true) ∷ []) vs r o = tt
interaction_needs v w f c xs _ vs r o = ((tt, tt), tt)

needs_by : (v : Service) (w : Flow) (f : Weights) (c : Config) (n : ActionName) (xs : List Argument) (vs : List Value) (r : ObjRef) (o : Object) → (list_any is_sent (can_put n) ≡ true → IsWord xs × ((q : ObjRef) → slice_get vs 0 ≡ Some (value.Object q) → Among (first_named w c xs) q)) → (list_any is_list_piece (can_put n) ≡ true → IsListedIn w c vs r o) → (list_any is_slot_piece (can_put n) ≡ true → (is_link o.fixed.class ≡ false) × IsPartCovered v w f c o.fixed) → Each (Each (Needs v w f c xs vs r o)) (ways n xs)
needs_by v w f c action.Run xs vs r o s l t = ((tt, tt), tt)
needs_by v w f c action.Stop xs vs r o s l t = ((tt, tt), tt)
needs_by v w f c action.Preload xs vs r o s l t = ((tt, tt), tt)
needs_by v w f c action.Unload xs vs r o s l t = ((tt, (tt, tt)), tt)
needs_by v w f c action.Activate xs vs r o s l t = ((tt, tt), tt)
needs_by v w f c action.Deactivate xs vs r o s l t = ((tt, tt), tt)
needs_by v w f c action.SendEvent xs vs r o s l t = ((s refl, tt), tt)
needs_by v w f c action.TestVariable xs vs r o s l t = ((tt, tt), tt)
needs_by v w f c action.SetData xs vs r o s l t = ((tt, tt), tt)
needs_by v w f c action.Fork xs vs r o s l t = ((tt, tt), tt)
needs_by v w f c action.SetInteractionStatus xs vs r o s l t = interaction_needs v w f c xs xs vs r o
needs_by v w f c action.SetHighlightStatus xs vs r o s l t = light_needs v w f c xs xs vs r o
needs_by v w f c action.Select xs vs r o s l t = ((tt, tt), tt)
needs_by v w f c action.Deselect xs vs r o s l t = ((tt, tt), tt)
needs_by v w f c action.Move xs vs r o s l t = ((tt, (tt, tt)), tt)
needs_by v w f c action.MoveTo xs vs r o s l t = ((tt, (tt, tt)), tt)
needs_by v w f c action.CallActionSlot xs vs r o s l t = ((t refl, tt), tt)
needs_by v w f c action.AddItem xs vs r o s l t = ((l refl, tt), tt)
needs_by v w f c action.DelItem xs vs r o s l t = ((l refl, tt), tt)
needs_by v w f c action.ScrollItems xs vs r o s l t = ((l refl, tt), tt)
needs_by v w f c action.SetFirstItem xs vs r o s l t = ((l refl, tt), tt)
needs_by v w f c action.SelectItem xs vs r o s l t = ((tt, (tt, tt)), tt)
needs_by v w f c action.DeselectItem xs vs r o s l t = ((tt, tt), tt)
needs_by v w f c action.ToggleItem xs vs r o s l t = ((tt, (tt, tt)), tt)
needs_by v w f c _ xs vs r o s l t = tt

-- What a safe state gives

-- a list has its items once, and they stand in its set
lists_within : {fw : Flow} (s : State) (k : IsSafeBy fw s) (r : ObjRef) (o : Object) → object_at r (all s.objects) ≡ Some o → is_list_group o.fixed.class ≡ true → (q : ObjRef) → count_of q (objects_of o.body.list.entries) ≤ count_of q (fw.sets (config_of s) r)
lists_within {fw} s k r o e is q =
    let h = held_at s k r o e in
    within_set (fw.sets (config_of s) r) o.body.list.entries q (h.once q) (λ is_one. subst (λ (x : ObjRef). has (fw.sets (config_of s)) x q ≡ true) (sym (found_key r (all s.objects) o e)) (h.items is q is_one))

pub ready_state : {fw : Flow} (f : Weights) (s : State) (k : IsSafeBy fw s) → CoversAll s.service fw f → IsAwake f s → Ready fw f s
ready_state {fw} f s k covers woken = record {
  woken = woken;
  service = k.accepted.service;
  covers = covers;
  objects = parts_present s k;
  among = k.among;
  lists = λ r o e is q. lists_within s k r o e is q;
}

-- a target comes to what is written out
pub target_among : (w : Flow) (c : Config) (ps : List Fixed) (t : Target) (r : ObjRef) → MayBe (w.sets c) ps t r → Among (targets w c t) r
target_among w c ps (target.Direct x) r may = inl may
target_among w c ps (target.Through x) r may = holds_among (w.sets c x) r may.1

pub sound_now : {fw : Flow} (s : State) (k : IsSafeBy fw s) (a : Act) → IsFine s.service fw (config_of s) a → (r : ObjRef) → referred a.target (all s.objects) ≡ Some r → IsSound fw s k a r
sound_now {fw} s k a fine r e = sound s k a r fine e

-- what it is done to is found, where it leads nowhere

no_transition : (n : ActionName) → saying.is_transition n ≡ false → is_transition n ≡ false
no_transition action.TransitionTo h = absurd cc
no_transition action.Launch h = absurd cc
no_transition _ h = refl

found_by : (m : Option Object) (c : Class) → option_map (λ (p : Fixed). p.class) (option_map (λ (o : Object). o.fixed) m) ≡ Some c → (o : Object) × (m ≡ Some o) × (o.fixed.class ≡ c)
found_by None c e = absurd cc
found_by (Some o) c e = (o, refl, ap (λ (m : Option Class). option_map_or (λ (k : Class). k) m c) e)

pub found_object : {fw : Flow} (s : State) (k : IsSafeBy fw s) (n : ActionName) (r : ObjRef) → is_transition n ≡ false → admitted_wrongs (known_before s.service (parts_of s)) n None r ≡ [] → (o : Object) × (object_at r (all s.objects) ≡ Some o) × (admits o.fixed.class n ≡ true)
found_object {fw} s k n r plain fit =
    let hit = fit_object (λ c. admits c n) None r (class_at r (parts_of s)) (fit_here s n r plain fit) in
    let now : option_map (λ (p : Fixed). p.class) (option_map (λ (o : Object). o.fixed) (object_at r (all s.objects))) ≡ Some hit.0 = sym (ap (option_map (λ (p : Fixed). p.class)) (ap (part_at r) (sym (parts_present s k)) ∙ part_at-parts r (all s.objects))) ∙ hit.1 in
    let found = found_by (object_at r (all s.objects)) hit.0 now in
    (found.0, found.1, subst (λ (c : Class). admits c n ≡ true) (sym found.2) hit.2)

sends_only : (n : ActionName) → list_any is_sent (can_put n) ≡ true → n ≡ action.SendEvent
sends_only action.SendEvent h = refl
sends_only _ h = absurd cc

slots_only : (n : ActionName) (c : Class) → list_any is_slot_piece (can_put n) ≡ true → admits c n ≡ true → is_link c ≡ false
slots_only action.CallActionSlot class.TokenGroup some h = refl
slots_only action.CallActionSlot _ some h = absurd cc
slots_only _ c some h = absurd cc

-- the slots of an object that is no link are covered
slots_covered : (w : Flow) (f : Weights) (s : State) → Ready w f s → (r : ObjRef) (o : Object) → object_at r (all s.objects) ≡ Some o → is_link o.fixed.class ≡ false → IsPartCovered s.service w f (config_of s) o.fixed
slots_covered w f s k r o e no_link =
    let ps : List Fixed = present s.service (config_of s) in
    let part : part_at r ps ≡ Some o.fixed = found_part w f s k r ∙ ap (option_map (λ (x : Object). x.fixed)) e in
    let active : is_active ps o.fixed ≡ true = ap (λ (t : Bool). if t then has_source ps (as_value (held attribute.EventSource o.fixed.properties)) else true) no_link in
    each_found (IsActiveCovered s.service w f (config_of s) ps) (λ (x : Fixed). same_ref r x.key) ps o.fixed (covered_now w f s k) part active (ap (λ (t : Bool). not t || f.wakes o.fixed.key) no_link)

-- what is named first is what can be

-- an event that is sent is written itself
pub direct_now : {fw : Flow} (s : State) (k : IsSafeBy fw s) (a : Act) → IsFine s.service fw (config_of s) a → sends_direct a ≡ true
direct_now {fw} s k a fine =
    let ps : List Fixed = parts_of s in
    let part = from_joined actions (filter (is_active ps) ps) a fine.active in
    let written : list_all sends_written (filter (is_active ps) ps) ≡ true = all_filtered (is_active ps) sends_written ps (present_sent s.service (config_of s) k.accepted.service) in
    among_all sends_direct (actions part.0) a (among_all sends_written (filter (is_active ps) ps) part.0 written part.1) part.2

-- and a number
numbered_word : (k : Known) (a : Act) (v : Value) → argument_wrongs k a need.Event (argument.Direct v) ≡ [] → (x : Argument) (more : List Argument) → IsWord (x ∷ argument.Direct v ∷ more)
numbered_word k a (value.Int n) e x more = tt
numbered_word k a (value.Bool b) e x more = absurd cc
numbered_word k a (value.Octets b) e x more = absurd cc
numbered_word k a (value.Object b) e x more = absurd cc
numbered_word k a (value.Content b) e x more = absurd cc

pub word_of : (k : Known) (a : Act) (xs : List Argument) → has_direct_event (need.Ref ∷ need.Event ∷ need.Data ∷ []) xs ≡ true → arguments_wrongs k a (need.Ref ∷ need.Event ∷ need.Data ∷ []) xs ≡ [] → IsWord xs
word_of k a [] direct good = tt
word_of k a (x ∷ []) direct good = tt
word_of k a (x ∷ argument.Direct v ∷ more) direct good =
    numbered_word k a v (empty_left (argument_wrongs k a need.Event (argument.Direct v)) _ (empty_right (argument_wrongs k a need.Ref x) (arguments_wrongs k a (need.Event ∷ need.Data ∷ []) (argument.Direct v ∷ more)) good)) x more
word_of k a (x ∷ argument.Through v u ∷ more) direct good = absurd cc
word_of k a (x ∷ argument.Receiver v ∷ more) direct good = absurd cc

first_named_now : {fw : Flow} (s : State) (k : IsSafeBy fw s) (n : ActionName) (t : Target) (xs : List Argument) (q : ObjRef) → list_any is_sent (can_put n) ≡ true → n ≡ action.SendEvent → arguments_wrongs (known_now s) (record { name = n; target = t; arguments = xs }) (needs_of n) xs ≡ [] → slice_get (values (all s.objects) xs) 0 ≡ Some (value.Object q) → Among (first_named fw (config_of s) xs) q
first_named_now {fw} s k n t xs q sends named good first = by xs at.0 at.1 at.2 (λ y stands. sent_right (known_now s) n t xs y sends good stands)
  where
    at : (y : Argument) × (slice_get xs 0 ≡ Some y) × (value_in (all s.objects) y ≡ Some (value.Object q))
    at = sent_placed s k t xs (value.Object q) (subst (λ (m : ActionName). arguments_wrongs (known_now s) (record { name = m; target = t; arguments = xs }) (needs_of m) xs ≡ []) named good) first

    a : Act
    a = record { name = n; target = t; arguments = xs }

    by : (ys : List Argument) (y : Argument) → slice_get ys 0 ≡ Some y → value_in (all s.objects) y ≡ Some (value.Object q) → ((z : Argument) → slice_get ys 0 ≡ Some z → argument_wrongs (known_now s) a need.Ref z ≡ []) → Among (first_named fw (config_of s) ys) q
    by [] y stands is free = absurd cc
    by (z ∷ ys) y stands is free =
        subst (λ (x : Argument). Among (first_named fw (config_of s) (x ∷ ys)) q) (sym same) (lone y is (free y stands))
      where
        same : z ≡ y
        same = ap (λ (m : Option Argument). option_map_or (λ (x : Argument). x) m z) stands

        lone : (y : Argument) → value_in (all s.objects) y ≡ Some (value.Object q) → argument_wrongs (known_now s) a need.Ref y ≡ [] → Among (first_named fw (config_of s) (y ∷ ys)) q
        lone (argument.Direct (value.Object x)) is free = inl (ap (λ (m : Option Value). option_map_or (λ (p : ObjRef). p) (as_reference m) x) is)
        lone (argument.Direct (value.Bool b)) is free = absurd cc
        lone (argument.Direct (value.Int b)) is free = absurd cc
        lone (argument.Direct (value.Octets b)) is free = absurd cc
        lone (argument.Direct (value.Content b)) is free = absurd cc
        lone (argument.Through x u) is free =
            let refers_it : is_reference_in (present s.service (config_of s)) x ≡ true = fit_variable (same_kind kind.Object) x (class_at x (present s.service (config_of s))) (empty_left (variable_wrongs (same_kind kind.Object) x (class_at x (present s.service (config_of s)))) _ free) in
            holds_among (fw.sets (config_of s) x) q (possible_now s k x q refers_it (ap as_reference is))
        lone (argument.Receiver x) is free = absurd cc

-- an action that changes a list does so to one
list_class : (n : ActionName) (c : Class) → list_any is_list_piece (can_put n) ≡ true → admits c n ≡ true → is_list_group c ≡ true
list_class action.AddItem class.ListGroup some h = refl
list_class action.DelItem class.ListGroup some h = refl
list_class action.ScrollItems class.ListGroup some h = refl
list_class action.SetFirstItem class.ListGroup some h = refl
list_class action.AddItem _ some h = absurd cc
list_class action.DelItem _ some h = absurd cc
list_class action.ScrollItems _ some h = absurd cc
list_class action.SetFirstItem _ some h = absurd cc
list_class _ c some h = absurd cc

nothing_put : (n : ActionName) (vs : List Value) (r : ObjRef) (o : Object) → list_any is_list_piece (can_put n) ≡ true → (worked n vs r o.fixed o.body).items ≡ [] → (fs : List File) (t : Bool) → items_put fs t n vs r o ≡ []
nothing_put action.AddItem vs r o some h fs t = h
nothing_put action.DelItem vs r o some h fs t = h
nothing_put action.ScrollItems vs r o some h fs t = h
nothing_put action.SetFirstItem vs r o some h fs t = h
nothing_put _ vs r o some h fs t = absurd cc

ready_act : {fw : Flow} (f : Weights) (s : State) (k : IsSafeBy fw s) → CoversAll s.service fw f → IsAwake f s → (a : Act) → IsFine s.service fw (config_of s) a → IsReadyAct fw f s a
ready_act {fw} f s k covers woken a fine r e = (target_among fw (config_of s) (present s.service (config_of s)) a.target r is.may, λ plain. given (found_object s k a.name r (no_transition a.name plain) is.fit))
  where
    is : IsSound fw s k a r
    is = sound_now s k a fine r e

    vs : List Value
    vs = values (all s.objects) a.arguments

    ready : Ready fw f s
    ready = ready_state f s k covers woken

    sent : list_any is_sent (can_put a.name) ≡ true → IsWord a.arguments × ((q : ObjRef) → slice_get vs 0 ≡ Some (value.Object q) → Among (first_named fw (config_of s) a.arguments) q)
    sent sends =
        let named = sends_only a.name sends in
        let direct : has_direct_event (needs_of action.SendEvent) a.arguments ≡ true = subst (λ (n : ActionName). (if is_sending n then has_direct_event (needs_of n) a.arguments else true) ≡ true) named (direct_now s k a fine) in
        let good : arguments_wrongs (known_now s) (record a { name = action.SendEvent }) (needs_of action.SendEvent) a.arguments ≡ [] = subst (λ (n : ActionName). arguments_wrongs (known_now s) (record a { name = n }) (needs_of n) a.arguments ≡ []) named is.good in
        (word_of (known_now s) (record a { name = action.SendEvent }) a.arguments direct good, λ q first. first_named_now s k a.name a.target a.arguments q sends named is.good first)

    needs : (o : Object) → object_at r (all s.objects) ≡ Some o → admits o.fixed.class a.name ≡ true → (list_any is_list_piece (can_put a.name) ≡ true → IsListedIn fw (config_of s) vs r o) → MayPut fw f s a r o
    needs o at ad listed =
        inl (needs_by s.service fw f (config_of s) a.name a.arguments vs r o sent listed
        (λ slots. (slots_only a.name o.fixed.class slots ad, slots_covered fw f s ready r o at (slots_only a.name o.fixed.class slots ad))))

    by_list : (o : Object) → object_at r (all s.objects) ≡ Some o → admits o.fixed.class a.name ≡ true → list_any is_list_piece (can_put a.name) ≡ true → IsTight a.name vs ⊎ (relisted a.name vs o.fixed o.body.list ≡ None) → MayPut fw f s a r o
    by_list o at ad some (inl tight) =
        let of_list = list_class a.name o.fixed.class some ad in
        needs o at ad (λ again. record {
          own = λ q. lists_within s k r o at of_list q;
          added = λ q second. holds_count (fw.sets (config_of s) r) q (subst (λ (x : ObjRef). has (fw.sets (config_of s)) x q ≡ true) (sym (found_key r (all s.objects) o at)) (given_held s k a r o q is at (holder_of_list o.fixed.class of_list) (tight q second)));
        })
    by_list o at ad some (inr none) = inr (nothing_put a.name vs r o some (none_listed a.name vs r o.fixed o.body some none))

    given : (o : Object) × (object_at r (all s.objects) ≡ Some o) × (admits o.fixed.class a.name ≡ true) → (o : Object) × (object_at r (all s.objects) ≡ Some o) × MayPut fw f s a r o
    given hit = (hit.0, hit.1, by (list_any is_list_piece (can_put a.name)) refl)
      where
        by : (b : Bool) → list_any is_list_piece (can_put a.name) ≡ b → MayPut fw f s a r hit.0
        by true some = by_list hit.0 hit.1 hit.2 some (tight_or_none a.name vs (hit.0).fixed (hit.0).body.list some)
        by false none = needs hit.0 hit.1 hit.2 (λ some. let never : false ≡ true = sym none ∙ some in absurd cc)

-- a member that is safe is a visible
visible_member : {fw : Flow} (s : State) (k : IsSafeBy fw s) (r : ObjRef) → object_wrongs is_visible None r (class_at r (present s.service (config_of s))) ≡ [] → (o : Object) → object_at r (all s.objects) ≡ Some o → is_visible o.fixed.class ≡ true
visible_member {fw} s k r fit o e =
    let ps : List Fixed = present s.service (config_of s) in
    let hit = fit_object is_visible None r (class_at r ps) fit in
    let now : class_at r ps ≡ Some o.fixed.class = ap (option_map (λ (p : Fixed). p.class)) (ap (part_at r) (sym (parts_present s k)) ∙ part_at-parts r (all s.objects) ∙ ap (option_map (λ (x : Object). x.fixed)) e) in
    let same : hit.0 ≡ o.fixed.class = ap (λ (t : Option Class). option_map_or (λ (x : Class). x) t hit.0) (sym hit.1 ∙ now) in
    subst (λ (c : Class). is_visible c ≡ true) same hit.2

-- an event that is told may come
abbrev pub IsMayItem : Weights → Item → Type 0
IsMayItem f (item.Emit e) = f.may e ≡ true
IsMayItem f i = Unit {0}

pub ready_item : {fw : Flow} (f : Weights) (s : State) (k : IsSafeBy fw s) → CoversAll s.service fw f → IsAwake f s → (i : Item) → IsMayItem f i → IsSafeItem s.service fw (config_of s) i → IsReadyItem fw f s i
ready_item {fw} f s k covers woken (item.Act a) m h = ready_act f s k covers woken a h
ready_item {fw} f s k covers woken (item.RunMember r) m h = visible_member s k r h
ready_item {fw} f s k covers woken (item.HaltMember r) m h = visible_member s k r h
ready_item {fw} f s k covers woken (item.Emit e) m h = (h, m)
ready_item {fw} f s k covers woken (item.Enter g) m h = h
ready_item {fw} f s k covers woken (item.Prepare r) m h = tt
ready_item {fw} f s k covers woken (item.Run r) m h = tt
ready_item {fw} f s k covers woken (item.Halt r) m h = tt
ready_item {fw} f s k covers woken (item.Drop r) m h = tt
ready_item {fw} f s k covers woken (item.Exchange g) m h = h.1.0
ready_item {fw} f s k covers woken item.End m h = tt

-- the first item of a safe state is safe, and not stuck

pub first_item : {fw : Flow} (s : State) (k : IsSafeBy fw s) (i : Item) → slice_get s.work 0 ≡ Some i → IsSafeItem s.service fw (config_of s) i
first_item {fw} s k i e = (first_safe s.service fw (config_of s) s.work i e k.work).0

pub free_first : {fw : Flow} (s : State) → IsSafeBy fw s → (i : Item) → slice_get s.work 0 ≡ Some i → stuck i s ≡ None
free_first {fw} s k i e = sym (ap (λ (m : Option Item). fault_at m s) e) ∙ safe_by_front s k
