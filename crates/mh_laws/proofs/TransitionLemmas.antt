-- The groups that an action names: what a timer is set for, and where a transition leads.
use Rattle.std.specs.Prelude.{◌≡◌, ℕ, ◌==◌, Bool, true, false, ◌&&◌, if◌then◌else◌, List, [], Option, Some, None, refl}
use Rattle.std.specs.List.{list_all}
use Rattle.std.specs.Option.{option_map, option_map_or}
use Rattle.std.proofs.Common.{ap, ◌∙◌, sym, subst}
use Rattle.std.proofs.lemmas.Bool.Decides.{Decides-eqb}
use Rattle.mh_base.specs.declared.obj_ref.ObjRef.{ObjRef}
use Rattle.mh_group.specs.declared.action_name.ActionName.TheVariants as action
use Rattle.mh_group.specs.declared.action_name.ActionName.{ActionName}
use Rattle.mh_group.specs.declared.class.Class.TheVariants as class
use Rattle.mh_group.specs.declared.class.Class.{Class}
use Rattle.mh_group.specs.Table.{is_scene, is_application, is_group_class, admits}
use Rattle.mh_model.specs.declared.config.Config.{Config}
use Rattle.mh_model.specs.declared.item.Item.TheVariants as item
use Rattle.mh_model.specs.declared.object.Fixed.{Fixed}
use Rattle.mh_model.specs.Configuration.{is_group_of, present}
use Rattle.mh_model.specs.Faults.{is_transition, object_wrongs, admitted_wrongs}
use Rattle.mh_model.specs.Known.{known_before, class_at}
use Rattle.mh_model.specs.Reference.{group_ref}
use Rattle.mh_model.specs.Service.{Service, part_at, group_parts, is_there}
use Rattle.mh_laws.specs.Active.{leads_to}
use Rattle.mh_laws.specs.Flow.{Flow, IsOpen, IsOpenIf}
use Rattle.mh_laws.specs.Safe.{IsSafeItem}
use Rattle.mh_model.proofs.ServiceLemmas.{is_whole, found_numbered}
use Rattle.mh_laws.proofs.FaultLemmas.{fit_object}

-- what is found where nothing is wrong with an object
fit_found : (is : Class → Bool) (r : ObjRef) (ps : List Fixed) → object_wrongs is None r (class_at r ps) ≡ [] → (p : Fixed) × (part_at r ps ≡ Some p) × (is p.class ≡ true)
fit_found is r ps e = by (part_at r ps) refl e
  where
    by : (m : Option Fixed) → part_at r ps ≡ m → object_wrongs is None r (option_map (λ (p : Fixed). p.class) m) ≡ [] → (p : Fixed) × (part_at r ps ≡ Some p) × (is p.class ≡ true)
    by None same e = absurd cc
    by (Some p) same e =
        let fit = fit_object is None r (Some p.class) e in
        let class_is : p.class ≡ fit.0 = ap (λ (m : Option Class). option_map_or (λ (k : Class). k) m p.class) fit.1 in
        (p, same, subst (λ (k : Class). is k ≡ true) (sym class_is) fit.2)

-- what a timer is set for is a group that is present
pub timer_there : (ps : List Fixed) (r : ObjRef) → list_all is_whole ps ≡ true → object_wrongs (λ k. admits k action.SetTimer) None r (class_at r ps) ≡ [] → is_there (group_ref r.group) ps ≡ true
timer_there ps r whole free =
    let hit = fit_found (λ k. admits k action.SetTimer) r ps free in
    let zeroth : r.number ≡ 0 = (Decides-eqb r.number 0).0 (found_numbered r ps hit.0 whole hit.1 hit.2) in
    let itself : r ≡ group_ref r.group = λ i. record { group = r.group; number = zeroth i } in
    ap (λ (m : Option Fixed). option_map_or (λ (p : Fixed). true) m false) (ap (λ (q : ObjRef). part_at q ps) (sym itself) ∙ hit.1)

-- what a transition leads to is a group
leads_to_group : (n : ActionName) (k : Class) → is_transition n ≡ true → admits k n ≡ true → is_group_class k ≡ true
leads_to_group action.TransitionTo class.Scene is e = refl
leads_to_group action.TransitionTo _ is e = absurd cc
leads_to_group action.Launch class.Application is e = refl
leads_to_group action.Launch _ is e = absurd cc
leads_to_group _ k is e = absurd cc

-- a transition with whose target nothing is wrong leads to a group of the service, of the class that it takes
transition_target : (v : Service) (c : Config) (n : ActionName) (r : ObjRef) → list_all is_whole (present v c) ≡ true → is_transition n ≡ true → admitted_wrongs (known_before v (present v c)) n None r ≡ [] → ((r.number == 0) ≡ true) × (is_group_of (λ k. admits k n) v r.group ≡ true)
transition_target v c n r whole is h = by_number (r.number == 0) refl
  where
    looked : (b : Bool) → (r.number == 0) ≡ b → object_wrongs (λ k. admits k n) None r (if true && b then class_at r (group_parts v r.group) else class_at r (present v c)) ≡ []
    looked b e = subst (λ (t : Bool). object_wrongs (λ k. admits k n) None r (if true && t then class_at r (group_parts v r.group) else class_at r (present v c)) ≡ []) e (subst (λ (t : Bool). object_wrongs (λ k. admits k n) None r (if t && r.number == 0 then class_at r (group_parts v r.group) else class_at r (present v c)) ≡ []) is h)

    by_number : (b : Bool) → (r.number == 0) ≡ b → ((r.number == 0) ≡ true) × (is_group_of (λ k. admits k n) v r.group ≡ true)
    by_number true e =
        let hit = fit_found (λ k. admits k n) r (group_parts v r.group) (looked true e) in
        let zeroth : r.number ≡ 0 = (Decides-eqb r.number 0).0 e in
        let itself : r ≡ group_ref r.group = λ i. record { group = r.group; number = zeroth i } in
        let at : part_at (group_ref r.group) (group_parts v r.group) ≡ Some hit.0 = ap (λ (q : ObjRef). part_at q (group_parts v r.group)) (sym itself) ∙ hit.1 in
        (e, ap (λ (m : Option Fixed). option_map_or (λ (p : Fixed). admits p.class n) m false) at ∙ hit.2)
    by_number false e =
        let hit = fit_found (λ k. admits k n) r (present v c) (looked false e) in
        let numbered : (r.number == 0) ≡ true = found_numbered r (present v c) hit.0 whole hit.1 (leads_to_group n (hit.0).class is hit.2) in
        let wrong : true ≡ false = sym numbered ∙ e in
        absurd cc

-- and to its number 0
pub leads_zeroth : (v : Service) (c : Config) (r : ObjRef) → list_all is_whole (present v c) ≡ true → admitted_wrongs (known_before v (present v c)) action.TransitionTo None r ≡ [] → (r.number == 0) ≡ true
leads_zeroth v c r whole free = (transition_target v c action.TransitionTo r whole refl free).0

-- a scene is no application
no_application : (v : Service) (g : List ℕ) → is_group_of is_scene v g ≡ true → is_group_of is_application v g ≡ false
no_application v g h = by (part_at (group_ref g) (group_parts v g)) h
  where
    by_class : (k : Class) → is_scene k ≡ true → is_application k ≡ false
    by_class class.Scene e = refl
    by_class _ e = absurd cc

    by : (m : Option Fixed) → option_map_or (λ (p : Fixed). is_scene p.class) m false ≡ true → option_map_or (λ (p : Fixed). is_application p.class) m false ≡ false
    by None e = absurd cc
    by (Some p) e = by_class p.class e

-- the exchange to which a transition comes
pub safe_transition : (v : Service) (fw : Flow) (c : Config) (n : ActionName) (r : ObjRef) → list_all is_whole (present v c) ≡ true → is_transition n ≡ true → admitted_wrongs (known_before v (present v c)) n None r ≡ [] → IsOpenIf v fw c (leads_to v c n r) → IsSafeItem v fw c (item.Exchange r.group)
safe_transition v fw c action.TransitionTo r whole is free leads_into_them =
    let to = transition_target v c action.TransitionTo r whole is free in
    let scene : is_group_of is_scene v r.group ≡ true = to.1 in
    let other : is_group_of is_application v r.group ≡ false = no_application v r.group scene in
    let led : leads_to v c action.TransitionTo r ≡ Some (record c { scene = Some r.group }) = rw (to.0, scene) refl in
    let there : IsOpen v fw c (record c { scene = Some r.group }) = subst (IsOpenIf v fw c) led leads_into_them in
    (rw (other, scene) refl, rw other there)
safe_transition v fw c action.Launch r whole is free leads_into_them =
    let to = transition_target v c action.Launch r whole is free in
    let app : is_group_of is_application v r.group ≡ true = to.1 in
    let led : leads_to v c action.Launch r ≡ Some (record { app = r.group; scene = None }) = rw (to.0, app) refl in
    let there : IsOpen v fw c (record { app = r.group; scene = None }) = subst (IsOpenIf v fw c) led leads_into_them in
    (rw app refl, rw app there)
safe_transition v fw c _ r whole is free leads_into_them = absurd cc
