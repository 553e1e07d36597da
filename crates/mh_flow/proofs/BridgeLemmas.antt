-- The laws between numbers and names.
use Rattle.std.specs.Prelude.{◌≡◌, ◌&&◌, ◌||◌, ◌++◌, ℕ, Bool, true, false, if◌then◌else◌, List, [], ◌∷◌, map, slice_get, Option, Some, None, option_and_then, refl}
use Rattle.std.specs.List.{Contains, flat_map, list_any}
use Rattle.std.specs.Map.{lookup}
use Rattle.std.specs.Option.{option_map_or, option_to_list}
use Rattle.std.proofs.Common.{ap, ◌∙◌, sym, subst}
use Rattle.mh_base.specs.declared.obj_ref.ObjRef.{ObjRef}
use Rattle.mh_base.specs.declared.value.Value.{Value}
use Rattle.mh_base.specs.declared.value.Value.TheVariants as value
use Rattle.mh_group.specs.declared.action_name.ActionName.{ActionName}
use Rattle.mh_group.specs.declared.action_name.ActionName.TheVariants as action
use Rattle.mh_model.specs.declared.act.Act.{Act}
use Rattle.mh_model.specs.declared.act.Argument.{Argument}
use Rattle.mh_model.specs.declared.act.Target.{Target}
use Rattle.mh_model.specs.declared.act.Target.TheVariants as target
use Rattle.mh_model.specs.declared.config.Config.{Config}
use Rattle.mh_model.specs.declared.object.Fixed.{Fixed}
use Rattle.mh_model.specs.Arguments.{receivers}
use Rattle.mh_model.specs.Configuration.{present, same_config, starting}
use Rattle.mh_model.specs.Reference.{same_ref}
use Rattle.mh_model.specs.Service.{Service, fresh}
use Rattle.mh_model.proofs.ListLemmas.{both_empty, some_same}
use Rattle.mh_model.proofs.ServiceLemmas.{same_ref-same}
use Rattle.mh_laws.specs.Active.{active_actions, leads_to}
use Rattle.mh_laws.specs.Each.{Each}
use Rattle.mh_laws.specs.Flow.{Flow, IsHeld, IsLed, IsOpenIf, IsSolution, Keeps, MayBe, MayHand, Passes, fills, is_given, is_list_in, is_reference_in, reached}
use Rattle.mh_laws.specs.Flow.{has as is_held}
use Rattle.mh_laws.specs.Least.{Derived, are_ascending, Reached, Held, Comes, Hands, start, named, referred, written, read, original_value, original_item, given, filled, led, passed}
use Rattle.mh_model.specs.declared.act.Argument.TheVariants as argument
use Rattle.mh_flow.specs.declared.fixpoint.constraints.Item.{Item}
use Rattle.mh_flow.specs.Rows.{has}
use Rattle.mh_flow.specs.Sets as sets
use Rattle.mh_flow.specs.Sets.{members_of}
use Rattle.mh_flow.specs.declared.chart.Bases.{Bases}
use Rattle.mh_flow.specs.declared.chart.Set.{Set}
use Rattle.mh_flow.specs.declared.chart.Set.TheVariants as set
use Rattle.mh_flow.specs.Bridge.{DerivedIsHeld, DerivedIsInFlow, DerivedIsReached, HeldExactly, HeldIsDerived, HoldersHold, IsHeldAt, is_held_at, NumbersFit, RowsAreLeast, UntargetedOpensNothing}
use Rattle.mh_flow.specs.Chart.{Chart, IsChart, config_number, goes_on, hands_on, leads_on, member_of, node_from, node_of, handed_argument}
use Rattle.mh_flow.specs.Opening as opening
use Rattle.mh_flow.specs.Opening.{member, system_of}
use Rattle.mh_flow.specs.Solved.{flow_of, is_holder_in, is_reached, reached_configs, set_of}
use Rattle.mh_flow.specs.Solved as solved
use Rattle.mh_flow.proofs.ConfigLemmas as configs
use Rattle.mh_flow.proofs.ContainsLemmas.{here, behind, no_member, no_members, joined_from}
use Rattle.mh_flow.proofs.HoldingLemmas.{held_is_known, holder_of_held, reached_is_known}
use Rattle.mh_flow.proofs.ListedLemmas.{mapped}
use Rattle.mh_flow.proofs.MeaningLemmas.{Means, derived_means, means_held, numbers_fit, reached_of_held}
use Rattle.mh_flow.proofs.MentionLemmas.{targeted}
use Rattle.mh_flow.proofs.NumberLemmas.{bases_at, is_numbered, member_at_number, reached_set}
use Rattle.mh_flow.proofs.PlaceLemmas.{any_member, get_member, member_any}
use Rattle.mh_flow.proofs.PresentLemmas.{passing, passing_from, same_itself}
use Rattle.mh_flow.proofs.SolvedLemmas.{has_named, named_ascend, named_has}

pub fit : NumbersFit
fit v ch is = numbers_fit v ch is

-- What is held by numbers

pub derived_is_held : DerivedIsHeld
derived_is_held v ch rows c r q is s d =
    let at = reached_is_known v ch rows c is s (reached_of_held v c r q d) in
    let held = held_is_known v ch rows c r q is s d at.number at.bases at.is in
    let number = is_numbered ch c at.number at.is.number in
    let same : number.bases ≡ at.bases = ap (λ (x : Config × Bases). x.1) (some_same (sym number.at ∙ at.is.at)) in
    record {
      node = held.node;
      is_node = ap (option_and_then (node_from v c r)) (number.under ∙ ap Some same) ∙ held.is_node;
      member = held.member;
      is_member = held.is_member;
      has = held.has;
    }

pub holders_hold : HoldersHold
holders_hold v c r q is keys d = holder_of_held v c r q is keys d

-- what stands at the number is held
named_is_derived : (v : Service) (ch : Chart) (rows : List (List Bool)) (c : Config) (r q : ObjRef) (u m : ℕ) → IsChart v ch → sets.IsLeast (system_of v ch) rows → node_of v ch c r ≡ Some u → slice_get ch.members m ≡ Some q → has rows u m ≡ true → Derived v (Held c r q)
named_is_derived v ch rows c r q u m is s e names h = by (lookup (same_config c) ch.configs) refl e
  where
    by : (o : Option Bases) → lookup (same_config c) ch.configs ≡ o → option_and_then (node_from v c r) o ≡ Some u → Derived v (Held c r q)
    by None under f = absurd cc
    by (Some b) under f =
        let at = bases_at ch c b under in
        means_held v ch at.0 c b r u m q is at.1 f names (derived_means v ch is (member u m) (s.derived (member u m) h))

pub held_is_derived : HeldIsDerived
held_is_derived v ch rows c r q u m is s e f h = named_is_derived v ch rows c r q u m is s e (member_at_number ch q m f) h

held_by_number : (v : Service) (ch : Chart) (rows : List (List Bool)) (c : Config) (r q : ObjRef) → IsChart v ch → sets.IsLeast (system_of v ch) rows → is_held_at v ch rows c r q ≡ true → Derived v (Held c r q)
held_by_number v ch rows c r q is s h = by (node_of v ch c r) refl (member_of ch q) refl h
  where
    by : (o : Option ℕ) → node_of v ch c r ≡ o → (m : Option ℕ) → member_of ch q ≡ m → option_map_or (λ (u : ℕ). option_map_or (has rows u) m false) o false ≡ true → Derived v (Held c r q)
    by (Some u) e (Some m) f k = held_is_derived v ch rows c r q u m is s e f k
    by (Some u) e None f k = absurd cc
    by None e m f k = absurd cc

number_holds : (v : Service) (ch : Chart) (rows : List (List Bool)) (c : Config) (r q : ObjRef) → IsHeldAt v ch rows c r q → is_held_at v ch rows c r q ≡ true
number_holds v ch rows c r q held =
    ap (λ (o : Option ℕ). option_map_or (λ (u : ℕ). option_map_or (has rows u) (member_of ch q) false) o false) held.is_node
    ∙ ap (λ (o : Option ℕ). option_map_or (has rows held.node) o false) held.is_member ∙ held.has

pub held_exactly : HeldExactly
held_exactly v ch rows c r q is s = (λ h. held_by_number v ch rows c r q is s h, λ d. number_holds v ch rows c r q (derived_is_held v ch rows c r q is s d))

-- The flow

pub derived_is_reached : DerivedIsReached
derived_is_reached v ch rows c is s d =
    let at = reached_is_known v ch rows c is s d in
    let reached : is_reached ch rows c ≡ true = ap (λ (o : Option ℕ). option_map_or (has rows 0) o false) at.is.number ∙ at.has in
    let among : Contains (map (λ (e : Config × Bases). e.0) ch.configs) c = mapped (λ (e : Config × Bases). e.0) ch.configs (c, at.bases) (get_member ch.configs at.number (c, at.bases) at.is.at) in
    configs.among_of (reached_configs ch rows) c (passing (is_reached ch rows) (map (λ (e : Config × Bases). e.0) ch.configs) c reached among)

reached_is_derived : (v : Service) (ch : Chart) (rows : List (List Bool)) (c : Config) → IsChart v ch → sets.IsLeast (system_of v ch) rows → reached (flow_of v ch rows) c ≡ true → Derived v (Reached c)
reached_is_derived v ch rows c is s h =
    by (config_number ch c) refl (passing_from (is_reached ch rows) (map (λ (e : Config × Bases). e.0) ch.configs) c (configs.member_of (reached_configs ch rows) c h)).0
  where
    by : (o : Option ℕ) → config_number ch c ≡ o → option_map_or (has rows 0) o false ≡ true → Derived v (Reached c)
    by None e f = absurd cc
    by (Some k) e f =
        let number = is_numbered ch c k e in
        let meant : Means v ch (Some set.Reached) k = subst (λ (o : Option Set). Means v ch o k) (reached_set v ch is) (derived_means v ch is (member 0 k) (s.derived (member 0 k) f)) in
        meant c number.bases number.at

pub derived_is_in_flow : DerivedIsInFlow
derived_is_in_flow v ch rows c r q is s d =
    let held = derived_is_held v ch rows c r q is s d in
    let holder = holders_hold v c r q is.service is.keys d in
    let names : Contains (solved.named ch.members (members_of rows held.node)) q = has_named ch.members rows held.node held.member q (member_at_number ch q held.member held.is_member) held.has in
    any_member (same_ref q) (set_of v ch rows c r) q (same_itself q)
    (subst (λ (z : Bool). Contains (if z then option_map_or (λ (u : ℕ). solved.named ch.members (members_of rows u)) (node_of v ch c r) [] else []) q) (sym holder)
    (subst (λ (o : Option ℕ). Contains (option_map_or (λ (u : ℕ). solved.named ch.members (members_of rows u)) o []) q) (sym held.is_node) names))

in_flow_is_derived : (v : Service) (ch : Chart) (rows : List (List Bool)) (c : Config) (r q : ObjRef) → IsChart v ch → sets.IsLeast (system_of v ch) rows → is_held ((flow_of v ch rows).sets c) r q ≡ true → Derived v (Held c r q)
in_flow_is_derived v ch rows c r q is s h =
    let some = member_any (same_ref q) (set_of v ch rows c r) h in
    let among : Contains (set_of v ch rows c r) q = subst (λ (x : ObjRef). Contains (set_of v ch rows c r) x) (sym (same_ref-same q some.0 some.1)) some.2 in
    by (is_holder_in (present v c) r) among
  where
    of_node : (o : Option ℕ) → node_of v ch c r ≡ o → Contains (option_map_or (λ (u : ℕ). solved.named ch.members (members_of rows u)) o []) q → Derived v (Held c r q)
    of_node None e m = absurd (no_member q m)
    of_node (Some u) e m = let found = named_has ch.members rows u q m in named_is_derived v ch rows c r q u found.0 is s e found.1 found.2

    by : (z : Bool) → Contains (if z then option_map_or (λ (u : ℕ). solved.named ch.members (members_of rows u)) (node_of v ch c r) [] else []) q → Derived v (Held c r q)
    by true m = of_node (node_of v ch c r) refl m
    by false m = absurd (no_member q m)

-- a flow that has what is derived and nothing else
record IsExact (v : Service) (w : Flow) : Type 0 where
  arrived : (c : Config) → reached w c ≡ true → Derived v (Reached c)
  kept : (c : Config) (r q : ObjRef) → is_held (w.sets c) r q ≡ true → Derived v (Held c r q)
  arrives : (c : Config) → Derived v (Reached c) → reached w c ≡ true
  keeps : (c : Config) (r q : ObjRef) → Derived v (Held c r q) → is_held (w.sets c) r q ≡ true

each_of : {X : Type 0} (P : X → Type 0) (xs : List X) → ((x : X) → Contains xs x → P x) → Each P xs
each_of P [] all = tt
each_of P (x ∷ xs) all = (all x (here x xs), each_of P xs (λ y m. all y (behind x xs y m)))

comes_of : (v : Service) (w : Flow) (c : Config) (t : Target) (r : ObjRef) → IsExact v w → MayBe (w.sets c) (present v c) t r → Derived v (Comes c t r)
comes_of v w c (target.Direct x) r k may = subst (λ (y : ObjRef). Derived v (Comes c (target.Direct x) y)) may (named c x)
comes_of v w c (target.Through x) r k may = referred c x r may.0 (k.kept c x r may.1)

hands_of : (v : Service) (w : Flow) (c : Config) (x : Argument) (q : ObjRef) → IsExact v w → MayHand (w.sets c) (present v c) x q → Derived v (Hands c x q)
hands_of v w c (argument.Direct y) q k may = subst (λ (z : Value). Derived v (Hands c (argument.Direct z) q)) (sym may) (written c q)
hands_of v w c (argument.Through y t) q k may = read c y q t may.0 (k.kept c y q may.1)
hands_of v w c (argument.Receiver y) q k may = absurd cc

keeps_of : (v : Service) (w : Flow) (c : Config) (a : Act) → IsExact v w → Derived v (Reached c) → Contains (active_actions (present v c)) a → Keeps (w.sets c) (present v c) a
keeps_of v w c a k d active = record {
  given = λ n x r q says_it stands may takes reads hands. k.keeps c r q (given c a n x r q d active says_it stands (comes_of v w c a.target r k may) takes reads (hands_of v w c x q k hands));
  filled = λ r x q fill may list receives refers held. k.keeps c x q (filled c a r x q d active fill (comes_of v w c a.target r k may) list receives refers (k.kept c r q held));
}

led_of : (v : Service) (w : Flow) (c : Config) (a : Act) → IsExact v w → Derived v (Reached c) → Contains (active_actions (present v c)) a → IsLed v w c a
led_of v w c a k d active r may = by (leads_to v c a.name r) refl
  where
    comes : Derived v (Comes c a.target r)
    comes = comes_of v w c a.target r k may

    passes : (e : Config) (scene : Option (List ℕ)) → leads_to v c a.name r ≡ Some e → e.scene ≡ scene → Passes v w c e scene
    passes e None leads is = tt
    passes e (Some g) leads is = λ p among q held. k.keeps e p.key q (passed c a r e g p q d active comes leads is among (k.kept c p.key q held))

    by : (o : Option Config) → leads_to v c a.name r ≡ o → IsOpenIf v w c o
    by None leads = tt
    by (Some e) leads = (k.arrives e (led c a r e d active comes leads), passes e e.scene leads refl)

-- is a solution
exact_solves : (v : Service) (w : Flow) → IsExact v w → IsSolution v w
exact_solves v w k = record {
  start = k.arrives (starting v) start;
  original = λ c at. each_of (λ (p : Fixed). IsHeld (w.sets c) (fresh p)) (present v c) (λ p among. record {
    value = λ is q e. k.keeps c p.key q (original_value c p q (k.arrived c at) among is e);
    items = λ is q e. k.keeps c p.key q (original_item c p q (k.arrived c at) among is e);
  });
  keeps = λ c at. each_of (Keeps (w.sets c) (present v c)) (active_actions (present v c)) (λ a active. keeps_of v w c a k (k.arrived c at) active);
  leads = λ c at. each_of (IsLed v w c) (active_actions (present v c)) (λ a active. led_of v w c a k (k.arrived c at) active);
}

flow_exact : (v : Service) (ch : Chart) (rows : List (List Bool)) → IsChart v ch → sets.IsLeast (system_of v ch) rows → IsExact v (flow_of v ch rows)
flow_exact v ch rows is s = record {
  arrived = λ c h. reached_is_derived v ch rows c is s h;
  kept = λ c r q h. in_flow_is_derived v ch rows c r q is s h;
  arrives = λ c d. derived_is_reached v ch rows c is s d;
  keeps = λ c r q d. derived_is_in_flow v ch rows c r q is s d;
}

set_ascends : (v : Service) (ch : Chart) (rows : List (List Bool)) (c : Config) (r : ObjRef) → IsChart v ch → are_ascending (set_of v ch rows c r) ≡ true
set_ascends v ch rows c r is = by (is_holder_in (present v c) r) (node_of v ch c r)
  where
    by : (z : Bool) (o : Option ℕ) → are_ascending (if z then option_map_or (λ (u : ℕ). solved.named ch.members (members_of rows u)) o [] else []) ≡ true
    by true None = refl
    by true (Some u) = named_ascend ch.members rows u is.ascending
    by false o = refl

pub rows_are_least : RowsAreLeast
rows_are_least v ch rows is s =
    let exact = flow_exact v ch rows is s in
    record {
      solution = exact_solves v (flow_of v ch rows) exact;
      reached = λ c h. exact.arrived c h;
      held = λ c r q h. exact.kept c r q h;
      ascending = λ c r. set_ascends v ch rows c r is;
    }

-- Variables through which no action has its target that goes on from there

pub or_left : (a b : Bool) → (a || b) ≡ false → a ≡ false
or_left true b e = cc
or_left false b e = refl

pub or_right : (a b : Bool) → (a || b) ≡ false → b ≡ false
or_right true b e = cc
or_right false b e = e

pub fills_nothing : (n : ActionName) → leads_on n ≡ false → fills n ≡ false
fills_nothing action.GetListItem e = cc
fills_nothing action.GetCellItem e = cc
fills_nothing n e = refl

pub leads_nowhere : (v : Service) (c : Config) (n : ActionName) (r : ObjRef) → leads_on n ≡ false → leads_to v c n r ≡ None
leads_nowhere v c action.TransitionTo r e = cc
leads_nowhere v c action.Launch r e = cc
leads_nowhere v c n r e = refl

hands_nothing : (v : Service) (ch : Chart) (c : Config) (b : Bases) (r : ObjRef) (o : Option Argument) → hands_on o ≡ false → flat_map (opening.handed_on v ch c b r) (option_to_list o) ≡ []
hands_nothing v ch c b r None e = refl
hands_nothing v ch c b r (Some (argument.Direct (value.Object q))) e = cc
hands_nothing v ch c b r (Some (argument.Direct (value.Bool x))) e = refl
hands_nothing v ch c b r (Some (argument.Direct (value.Int x))) e = refl
hands_nothing v ch c b r (Some (argument.Direct (value.Octets x))) e = refl
hands_nothing v ch c b r (Some (argument.Direct (value.Content x))) e = refl
hands_nothing v ch c b r (Some (argument.Through x k)) e = cc
hands_nothing v ch c b r (Some (argument.Receiver x)) e = refl

-- an action that does not go on does nothing wherever its target comes to
pub does_nothing : (v : Service) (ch : Chart) (k : ℕ) (c : Config) (b : Bases) (a : Act) (r : ObjRef) → goes_on a ≡ false → opening.does v ch k c b a r ≡ []
does_nothing v ch k c b a r e =
    both_empty (opening.given v ch c b a r ++ opening.filled v ch c b a r) (opening.led_on ch k (leads_to v c a.name r))
    (both_empty (opening.given v ch c b a r) (opening.filled v ch c b a r) (hand (is_given (present v c) a.name r))
    (ap (λ (z : Bool). if z && is_list_in (present v c) r then flat_map (opening.filled_in v ch c b r) (receivers a.arguments) else []) (fills_nothing a.name (or_right (hands_on (handed_argument a)) (leads_on a.name) e))))
    (ap (opening.led_on ch k) (leads_nowhere v c a.name r (or_right (hands_on (handed_argument a)) (leads_on a.name) e)))
  where
    hand : (z : Bool) → (if z then flat_map (opening.handed_on v ch c b r) (option_to_list (handed_argument a)) else []) ≡ []
    hand true = hands_nothing v ch c b r (handed_argument a) (or_left (hands_on (handed_argument a)) (leads_on a.name) e)
    hand false = refl

pub untargeted_opens_nothing : UntargetedOpensNothing
untargeted_opens_nothing v ch k c b w None is none = refl
untargeted_opens_nothing v ch k c b w (Some r) is none = by (is_reference_in (present v c) w)
  where
    through : (a : Act) (t : Target) (x : Item) → a.target ≡ t → Contains (active_actions (present v c)) a → Contains (opening.does_through v ch k c b w r a t) x → ⊥
    through a (target.Direct y) x e active m = no_member x m
    through a (target.Through y) x e active m = same (same_ref y w) refl m
      where
        same : (z : Bool) → same_ref y w ≡ z → Contains (if z then opening.does v ch k c b a r else []) x → ⊥
        same true it l = goes (goes_on a) refl
          where
            goes : (z : Bool) → goes_on a ≡ z → ⊥
            goes true on =
                let there : list_any (same_ref w) ch.targeted ≡ true = targeted v ch c a w is active on (e ∙ ap target.Through (same_ref-same y w it)) in
                let never : true ≡ false = sym there ∙ none in
                cc
            goes false off = no_member x (subst (λ (xs : List Item). Contains xs x) (does_nothing v ch k c b a r off) l)
        same false it l = no_member x l

    each : (x : Item) → Contains (flat_map (λ (a : Act). opening.does_through v ch k c b w r a a.target) (active_actions (present v c))) x → ⊥
    each x m =
        let from = joined_from (λ (a : Act). opening.does_through v ch k c b w r a a.target) (active_actions (present v c)) x m in
        through from.0 from.0.target x refl from.1 from.2

    by : (z : Bool) → (if z then flat_map (λ (a : Act). opening.does_through v ch k c b w r a a.target) (active_actions (present v c)) else []) ≡ []
    by true = no_members (flat_map (λ (a : Act). opening.does_through v ch k c b w r a a.target) (active_actions (present v c))) each
    by false = refl
