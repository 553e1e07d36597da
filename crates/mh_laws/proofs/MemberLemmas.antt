-- What a safe state knows of an object that is found: what its groups, slots and class can come to.
use Rattle.std.specs.Prelude.{None, ◌≡◌, ◌||◌, slice_get, Bool, true, false, if◌then◌else◌, List, [], ◌∷◌, Option, Some, refl}
use Rattle.std.specs.List.{list_all, list_any}
use Rattle.std.specs.Option.{option_map}
use Rattle.std.proofs.Common.{inl, inr, ap, ◌∙◌, sym, subst}
use Rattle.mh_base.specs.declared.event.EventType.TheVariants as event
use Rattle.mh_base.specs.declared.obj_ref.ObjRef.{ObjRef}
use Rattle.mh_base.specs.declared.value.Value.TheVariants as value
use Rattle.mh_group.specs.declared.action_name.ActionName.TheVariants as action
use Rattle.mh_group.specs.declared.action_name.ActionName.{ActionName}
use Rattle.mh_group.specs.declared.class.Class.TheVariants as class
use Rattle.mh_group.specs.declared.class.Class.{Class}
use Rattle.mh_group.specs.Table.{is_visible, admits, is_link, is_list_group}
use Rattle.mh_model.specs.declared.act.Act.{Act}
use Rattle.mh_model.specs.declared.item.Item.{Item}
use Rattle.mh_model.specs.declared.object.member.Member.{Member}
use Rattle.mh_model.specs.declared.object.Fixed.{Fixed}
use Rattle.mh_model.specs.declared.object.Object.{Object}
use Rattle.mh_model.specs.Arguments.{values}
use Rattle.mh_model.specs.Configuration.{present}
use Rattle.mh_model.specs.Faults.{is_transition, admitted_wrongs}
use Rattle.mh_model.specs.Items.{plain_event}
use Rattle.mh_model.specs.Known.{class_at, known_before}
use Rattle.mh_model.specs.Lifecycle.{group_runs, group_halts, token_told, running_items, stopping_items, started_items, halt_items}
use Rattle.mh_model.specs.ListItems.{has_item}
use Rattle.mh_model.specs.Reference.{same_ref}
use Rattle.mh_model.specs.Service.{part_at, object_at}
use Rattle.mh_model.specs.State.{State, all}
use Rattle.mh_model.specs.Step.{is_empty}
use Rattle.mh_model.specs.Tokens.{members, slot_actions}
use Rattle.mh_laws.specs.Acceptable.{has_good_members}
use Rattle.mh_laws.specs.Active.{item_wrongs, is_active, member_wrongs}
use Rattle.mh_laws.specs.Describing.{IsListed, says, IsSaid, can_put, is_list_piece, is_slot_piece}
use Rattle.mh_laws.specs.Each.{Each}
use Rattle.mh_laws.specs.Flow.{has, Flow, refers}
use Rattle.mh_laws.specs.Safe.{config_of, IsFine, IsSafeBy}
use Rattle.mh_model.proofs.ListLemmas.{empty_is, found}
use Rattle.mh_model.proofs.PartLemmas.{part_at-parts, found_there}
use Rattle.mh_laws.proofs.ActLemmas.{admitted_now, sets_of, parts_of, IsSound, held_at}
use Rattle.mh_laws.proofs.FaultLemmas.{alike_wrongs}
use Rattle.mh_laws.proofs.GivenLemmas.{or_true}
use Rattle.mh_laws.proofs.HandLemmas.{given_held}
use Rattle.mh_laws.proofs.PutLemmas.{IsGoodItem, safe_group_runs, safe_group_halts, safe_token_told}
use Rattle.mh_laws.proofs.SetLemmas.{passed_in}
use Rattle.mh_laws.proofs.StateLemmas.{parts_present, fine_now, there}
use Rattle.mh_laws.proofs.WorkLemmas.{IsSafeFront, both_safe, found_fine, slots_fine}

-- its part is one of those that are present
found_part : {fw : Flow} (s : State) → IsSafeBy fw s → (r : ObjRef) (o : Object) → object_at r (all s.objects) ≡ Some o → part_at r (present s.service (config_of s)) ≡ Some o.fixed
found_part {fw} s k r o e =
    ap (part_at r) (sym (parts_present s k)) ∙ part_at-parts r (all s.objects) ∙ ap (option_map (λ (x : Object). x.fixed)) e

well_manned : {fw : Flow} (s : State) (k : IsSafeBy fw s) (r : ObjRef) (o : Object) → object_at r (all s.objects) ≡ Some o → has_good_members (sets_of s k) (parts_of s) o.fixed ≡ true
well_manned {fw} s k r o e =
    (found (λ (p : Fixed). same_ref r p.key) (has_good_members (sets_of s k) (parts_of s)) (parts_of s) o.fixed (k.accepted.manned (config_of s) k.among) (found_part s k r o e)).1

-- its members are there and visibles, and so are its items

abbrev AreManned : {fw : Flow} (s : State) → IsSafeBy fw s → Fixed → Bool → Type 0
AreManned {fw} s k p list =
    (if list then list_all (λ q. is_empty (item_wrongs (parts_of s) p.key q)) (sets_of s k p.key) else list_all (λ m. is_empty (member_wrongs (parts_of s) m)) (members p)) ≡ true

good_members : {fw : Flow} (s : State) (k : IsSafeBy fw s) (r : ObjRef) (o : Object) → object_at r (all s.objects) ≡ Some o → is_list_group o.fixed.class ≡ false → list_all (λ (m : Member). is_empty (member_wrongs (present s.service (config_of s)) m)) (members o.fixed) ≡ true
good_members {fw} s k r o e none = subst (AreManned s k o.fixed) none (well_manned s k r o e)

-- an item that a list may have is there, and a visible
good_in_set : {fw : Flow} (s : State) (k : IsSafeBy fw s) (r : ObjRef) (o : Object) → object_at r (all s.objects) ≡ Some o → is_list_group o.fixed.class ≡ true → (x : ObjRef) → has (sets_of s k) o.fixed.key x ≡ true → IsGoodItem (parts_of s) x
good_in_set {fw} s k r o e list x h =
    let all = subst (AreManned s k o.fixed) list (well_manned s k r o e) in
    let good = passed_in (λ q. is_empty (item_wrongs (parts_of s) o.fixed.key q)) (sets_of s k o.fixed.key) x all h in
    alike_wrongs is_visible (Some o.fixed.key) None x (class_at x (parts_of s)) (empty_is (item_wrongs (parts_of s) o.fixed.key x) good)

good_items : {fw : Flow} (s : State) (k : IsSafeBy fw s) (r : ObjRef) (o : Object) → object_at r (all s.objects) ≡ Some o → is_list_group o.fixed.class ≡ true → (x : ObjRef) → has_item x o.body.list.entries ≡ true → IsGoodItem (parts_of s) x
good_items {fw} s k r o e list x h = good_in_set s k r o e list x ((held_at s k r o e).items list x h)

-- the classes of what changes lists, and of what has slots

pub listing_class : (n : ActionName) (c : Class) → list_any is_list_piece (can_put n) ≡ true → admits c n ≡ true → is_list_group c ≡ true
listing_class action.AddItem class.ListGroup some h = refl
listing_class action.AddItem _ some h = absurd cc
listing_class action.DelItem class.ListGroup some h = refl
listing_class action.DelItem _ some h = absurd cc
listing_class action.ScrollItems class.ListGroup some h = refl
listing_class action.ScrollItems _ some h = absurd cc
listing_class action.SetFirstItem class.ListGroup some h = refl
listing_class action.SetFirstItem _ some h = absurd cc
listing_class _ c some h = absurd cc

slot_class : (n : ActionName) (c : Class) → list_any is_slot_piece (can_put n) ≡ true → admits c n ≡ true → is_link c ≡ false
slot_class action.CallActionSlot class.TokenGroup some h = refl
slot_class action.CallActionSlot _ some h = absurd cc
slot_class _ c some h = absurd cc

-- neither leads elsewhere

pub plain_listing : (n : ActionName) → list_any is_list_piece (can_put n) ≡ true → is_transition n ≡ false
plain_listing action.TransitionTo some = absurd cc
plain_listing action.Launch some = absurd cc
plain_listing _ some = refl

plain_slot : (n : ActionName) → list_any is_slot_piece (can_put n) ≡ true → is_transition n ≡ false
plain_slot action.TransitionTo some = absurd cc
plain_slot action.Launch some = absurd cc
plain_slot _ some = refl

-- what an action that changes a list runs and halts is good
pub listed_good : {fw : Flow} (s : State) (k : IsSafeBy fw s) (a : Act) (r : ObjRef) (o : Object) → IsSound fw s k a r → object_at r (all s.objects) ≡ Some o → ((x : ObjRef) → slice_get (values (all s.objects) a.arguments) 1 ≡ Some (value.Object x) → IsSaid (values (all s.objects) a.arguments) (says a.name) x) → list_any is_list_piece (can_put a.name) ≡ true → (x : ObjRef) → IsListed (values (all s.objects) a.arguments) o x → IsGoodItem (parts_of s) x
listed_good {fw} s k a r o so e tight some x h =
    let list : is_list_group o.fixed.class ≡ true = listing_class a.name o.fixed.class some (admitted_now s k a.name r o e (plain_listing a.name some) so.fit) in
    by list h
  where
    by : is_list_group o.fixed.class ≡ true → IsListed (values (all s.objects) a.arguments) o x → IsGoodItem (parts_of s) x
    by list (inl has) = good_items s k r o e list x has
    by list (inr given) = good_in_set s k r o e list x (given_held s k a r o x so e (ap (λ (b : Bool). refers o.fixed.class || b) list ∙ or_true (refers o.fixed.class)) (tight x given))

-- where a slot of it is called, nothing that its slots do can be stuck
pub slots_safe : {fw : Flow} (s : State) (k : IsSafeBy fw s) (n : ActionName) (r : ObjRef) (o : Object) → object_at r (all s.objects) ≡ Some o → admitted_wrongs (known_before s.service (present s.service (config_of s))) n None r ≡ [] → list_any is_slot_piece (can_put n) ≡ true → Each (IsFine s.service fw (config_of s)) (slot_actions o.fixed)
slots_safe {fw} s k n r o e fit some =
    let ps = present s.service (config_of s) in
    let no_link = slot_class n o.fixed.class some (admitted_now s k n r o e (plain_slot n some) fit) in
    let active : is_active ps o.fixed ≡ true = rw no_link refl in
    slots_fine (IsFine s.service fw (config_of s)) o.fixed
    (found_fine (IsFine s.service fw (config_of s)) ps ps r o.fixed active (found_part s k r o e) (fine_now s k))

-- what an object puts that begins to run, or that stops

abbrev Front : {fw : Flow} (s : State) (k : IsSafeBy fw s) → List Item → Type 0
Front {fw} s k is = IsSafeFront s.service fw (config_of s) is

running_front : {fw : Flow} (s : State) (k : IsSafeBy fw s) (r : ObjRef) (o : Object) → object_at r (all s.objects) ≡ Some o → Front s k (running_items r o)
running_front {fw} s k r o e =
    let here_it = there s k r (found_there r (all s.objects) o e) in
    let c = config_of s in
    both_safe s.service fw c (group_runs o.fixed.class r o) (plain_event r event.IsRunning ∷ token_told o.fixed.class r)
    (safe_group_runs s.service fw c o.fixed.class r o here_it (good_members s k r o e) (good_items s k r o e))
    (λ rest safe. (here_it, safe_token_told s.service fw c o.fixed.class r here_it rest safe))

stopping_front : {fw : Flow} (s : State) (k : IsSafeBy fw s) (r : ObjRef) (o : Object) → object_at r (all s.objects) ≡ Some o → Front s k (stopping_items r o)
stopping_front {fw} s k r o e =
    let here_it = there s k r (found_there r (all s.objects) o e) in
    let c = config_of s in
    both_safe s.service fw c (group_halts o.fixed.class o) (plain_event r event.IsStopped ∷ [])
    (safe_group_halts s.service fw c o.fixed.class o (good_members s k r o e) (good_items s k r o e))
    (λ rest safe. (here_it, safe))

pub safe_started : {fw : Flow} (s : State) (k : IsSafeBy fw s) (r : ObjRef) → Front s k (started_items r (object_at r (all s.objects)))
safe_started {fw} s k r = by (object_at r (all s.objects)) refl
  where
    by : (m : Option Object) → object_at r (all s.objects) ≡ m → Front s k (started_items r m)
    by None e = λ rest safe. safe
    by (Some o) e = if_stopped o.body.running
      where
        if_stopped : (b : Bool) → Front s k (if b then [] else running_items r o)
        if_stopped true = λ rest safe. safe
        if_stopped false = running_front s k r o e

pub safe_halted : {fw : Flow} (s : State) (k : IsSafeBy fw s) (r : ObjRef) → Front s k (halt_items r (object_at r (all s.objects)))
safe_halted {fw} s k r = by (object_at r (all s.objects)) refl
  where
    by : (m : Option Object) → object_at r (all s.objects) ≡ m → Front s k (halt_items r m)
    by None e = λ rest safe. safe
    by (Some o) e = if_running o.body.running
      where
        if_running : (b : Bool) → Front s k (if b then stopping_items r o else [])
        if_running true = stopping_front s k r o e
        if_running false = λ rest safe. safe
