-- Whatever a refusal says but that memory was refused, it shows.
use Rattle.std.proofs.Common.{◌≡◌, ◌⊎◌, inl, inr, ℕ, ◌≤◌, ◌==◌, Bool, true, false, ◌&&◌, List, [], ◌∷◌, filter, Option, Some, None, refl, ap, sym, ◌∙◌, subst, arith}
use Rattle.std.specs.List.{Contains, flat_map, list_all, list_any}
use Rattle.std.specs.Option.{is_some, option_eq, option_map, option_to_list}
use Rattle.std.specs.Str.{bytes_eq}
use Rattle.std.proofs.lemmas.Bool.Decides.{Decides-eqb}
use Rattle.std.proofs.lemmas.List.Elements.{Contains-append_cases}
use Rattle.std.proofs.lemmas.Slice.Eq.{bytes_eq-Decides}
use Rattle.mh_base.specs.declared.obj_ref.ObjRef.{ObjRef}
use Rattle.mh_group.specs.declared.action_name.ActionName.{ActionName}
use Rattle.mh_group.specs.Table.{action_number}
use Rattle.mh_model.specs.declared.fault.Reason.{Reason}
use Rattle.mh_model.specs.declared.fault.Reason.TheVariants as reason
use Rattle.mh_model.specs.declared.object.Fixed.{Fixed}
use Rattle.mh_model.specs.declared.program.Signature.{Signature}
use Rattle.mh_model.specs.Configuration.{has_keys, is_service, present}
use Rattle.mh_model.specs.Faults.{Wrong, least, wrongs}
use Rattle.mh_model.specs.Reference.{same_key}
use Rattle.mh_model.specs.Service.{Service}
use Rattle.mh_laws.specs.Active.{known_with}
use Rattle.mh_laws.specs.Flow.{Flow, Sets}
use Rattle.mh_laws.specs.Least.{IsLeast}
use Rattle.mh_flow.specs.Equipment.{equipped}
use Rattle.mh_flow.specs.Sites.{Site, sites_of}
use Rattle.mh_flow.proofs.ChainLemmas.{mapped_from}
use Rattle.mh_flow.proofs.ContainsLemmas.{both, first_or_behind, halves, in_joined, joined_from, no_member}
use Rattle.mh_flow.proofs.EquippedLemmas.{keys_itself, service_itself}
use Rattle.mh_flow.proofs.PlaceLemmas.{any_member}
use Rattle.mh_flow.proofs.PresentLemmas.{passing, passing_from}
use Rattle.mh_layers.specs.Arrows.{goes_round, same_action}
use Rattle.mh_verify.specs.declared.coming.Coming.{Coming}
use Rattle.mh_verify.specs.declared.refusal.Found.{Found}
use Rattle.mh_verify.specs.declared.refusal.Place.{Place}
use Rattle.mh_verify.specs.declared.refusal.Refusal.{Refusal}
use Rattle.mh_verify.specs.declared.refusal.RefusalKind.{RefusalKind}
use Rattle.mh_verify.specs.declared.refusal.RefusalKind.TheVariants as kind
use Rattle.mh_verify.specs.Evidence.{Claim, IsShown, all_have, brings, evidence_of, granted, is_arrow_of, is_claimed, is_configuration, is_through, is_wrong, last_written, shows, wrongs_named}
use Rattle.mh_verify.specs.Kinds.{kind_number, kind_of, reason_number}
use Rattle.mh_verify.specs.Naming.{IsNamed, IsNamedAs, IsSoonest, IsWritten, IsWrongToo, is_at, is_part_at, is_site_at, wrongs_at}
use Rattle.mh_verify.specs.Order.{IsFirst, IsTold, refusal_of}
use Rattle.mh_verify.specs.Refusals.{found_at, found_of_part, kind_for, part_refused, part_wrongs, refusals_of_effects, refusals_of_members, wrong_at}
use Rattle.mh_verify.proofs.CandidateLemmas.{at_itself, found_there, key_itself}
use Rattle.mh_verify.proofs.ProgramLemmas.{present_same, round_same}
use Rattle.mh_verify.proofs.ShownArrowLemmas.{arrows_are, reached_is}
use Rattle.mh_verify.proofs.ShownChainLemmas.{brought}
use Rattle.mh_verify.proofs.ShownPlaceLemmas.{one_site, site_of}
use Rattle.mh_verify.proofs.ShownWrongLemmas.{IsGranted, action_granted, part_granted}

-- PLACES: what a refusal names stands at its place alone

-- of a member nothing is named, and it stands in front of all actions
abbrev IsOfPart : Found → Type 0
IsOfPart x = (x.action ≡ None) × (x.place.index ≡ 0)

-- of an effect the action is named that stands there
abbrev IsOfSite : Service → Found → Type 0
IsOfSite v x = (y : Site) × Contains (sites_of (present v x.config)) y × (x.action ≡ Some y.act.name) × (is_site_at x.place y ≡ true)

of_effect : (v : Service) (w : Flow) (x : Found) → Contains (refusals_of_effects v w x.config) x → IsOfSite v x
of_effect v w x m =
    let from = joined_from (wrong_at v ps h x.config) (sites_of ps) x m in
    by from.0 from.1 (least reason_number None (wrongs (known_with v ps h) from.0.act)) from.2
  where
    ps : List Fixed
    ps = present v x.config

    h : Sets
    h = w.sets x.config

    by : (y : Site) → Contains (sites_of ps) y → (o : Option Wrong) → Contains (option_to_list (option_map (found_at x.config y) o)) x → IsOfSite v x
    by y there None k = absurd (no_member x k)
    by y there (Some u) k = elim (first_or_behind (found_at x.config y u) [] x k) [
      | inl same ↦ (y, there, sym (ap (λ (z : Found). z.action) same), subst (λ (z : Found). is_site_at z.place y ≡ true) same (at_itself y.key y.index))
      | inr none ↦ absurd (no_member x none)
    ]

of_member : (v : Service) (w : Flow) (x : Found) → Contains (refusals_of_members v w x.config) x → IsOfPart x
of_member v w x m =
    let ps = present v x.config in
    let h = w.sets x.config in
    let from = joined_from (part_refused ps h x.config) ps x m in
    let one = mapped_from (found_of_part x.config from.0.key) (part_wrongs ps h from.0) x from.2 in
    (sym (ap (λ (z : Found). z.action) one.2), sym (ap (λ (z : Found). z.place.index) one.2))

placed : (v : Service) (w : Flow) (x : Found) → IsFirst v w x → IsOfPart x ⊎ IsOfSite v x
placed v w x first = elim (Contains-append_cases (refusals_of_members v w x.config) (refusals_of_effects v w x.config) x first.stands) [
  | inl m ↦ inl (of_member v w x m)
  | inr m ↦ inr (of_effect v w x m)
]

-- the place is that of this reference and number
record IsThere (p : Place) (r : ObjRef) (n : ℕ) : Type 0 where
  group : p.group ≡ r.group
  object : p.object ≡ r.number
  index : p.index ≡ n

is_there : (p : Place) (r : ObjRef) (n : ℕ) → is_at p r n ≡ true → IsThere p r n
is_there p r n h =
    let two = halves (bytes_eq p.group r.group && p.object == r.number) (p.index == n) h in
    let key = halves (bytes_eq p.group r.group) (p.object == r.number) two.0 in
    record {
      group = (bytes_eq-Decides p.group r.group).0 key.0;
      object = (Decides-eqb p.object r.number).0 key.1;
      index = (Decides-eqb p.index n).0 two.1;
    }

-- one place has one key
same_there : (p : Place) (r q : ObjRef) (m n : ℕ) → IsThere p r m → IsThere p q n → r ≡ q
same_there p r q m n a b =
    let groups : r.group ≡ q.group = sym a.group ∙ b.group in
    let numbers : r.number ≡ q.number = sym a.object ∙ b.object in
    λ i. record { group = groups i; number = numbers i }

apart : (n : ℕ) → n ≡ 0 → 1 ≤ n → ⊥
apart n none some = omega (arith, none, some)

itself_named : (n : ActionName) → same_action n n ≡ true
itself_named n = (Decides-eqb (action_number n) (action_number n)).1 refl

-- what is wrong at its place is wrong with the action that is named, or with a member where none is
named_there : (v : Service) (w : Flow) (x : Found) (u : Wrong) → is_service v ≡ true → has_keys v ≡ true → IsOfPart x ⊎ IsOfSite v x → Contains (wrongs_at v (present v x.config) (w.sets x.config) x.place) u → Contains (wrongs_named v (present v x.config) (w.sets x.config) x.place x.action) u
named_there v w x u good keys of m = by of (Contains-append_cases (flat_map (part_wrongs ps h) (filter (is_part_at p) ps)) (flat_map at (filter (is_site_at p) (sites_of ps))) u m)
  where
    ps : List Fixed
    ps = present v x.config

    h : Sets
    h = w.sets x.config

    p : Place
    p = x.place

    at : Site → List Wrong
    at y = wrongs (known_with v ps h) y.act

    InParts : Type 0
    InParts = Contains (flat_map (part_wrongs ps h) (filter (is_part_at p) ps)) u

    InSites : Type 0
    InSites = Contains (flat_map at (filter (is_site_at p) (sites_of ps))) u

    Wanted : Type 0
    Wanted = Contains (wrongs_named v ps h p x.action) u

    no_part : IsOfSite v x → InParts → ⊥
    no_part (y, there, name, place) k =
        let from = joined_from (part_wrongs ps h) (filter (is_part_at p) ps) u k in
        let front = is_there p from.0.key 0 (passing_from (is_part_at p) ps from.0 from.1).0 in
        let own = is_there p y.key y.index place in
        apart y.index (sym own.index ∙ front.index) (site_of ps y there).counted

    no_site : IsOfPart x → InSites → ⊥
    no_site (name, front) k =
        let from = joined_from at (filter (is_site_at p) (sites_of ps)) u k in
        let two = passing_from (is_site_at p) (sites_of ps) from.0 from.1 in
        let own = is_there p from.0.key from.0.index two.0 in
        apart from.0.index (sym own.index ∙ front) (site_of ps from.0 two.1).counted

    -- it is the site itself
    in_site : IsOfSite v x → InSites → Wanted
    in_site (y, there, name, place) k =
        let from = joined_from at (filter (is_site_at p) (sites_of ps)) u k in
        let two = passing_from (is_site_at p) (sites_of ps) from.0 from.1 in
        let a = is_there p from.0.key from.0.index two.0 in
        let b = is_there p y.key y.index place in
        let one : from.0 ≡ y = one_site v x.config from.0 y good keys two.1 there (same_there p from.0.key y.key from.0.index y.index a b) (sym a.index ∙ b.index) in
        let called : same_action y.act.name from.0.act.name ≡ true = subst (λ (z : Site). same_action y.act.name z.act.name ≡ true) (sym one) (itself_named y.act.name) in
        subst (λ (o : Option ActionName). Contains (wrongs_named v ps h p o) u) (sym name)
        (in_joined at (filter (λ (z : Site). is_site_at p z && same_action y.act.name z.act.name) (sites_of ps)) from.0 u
        (passing (λ (z : Site). is_site_at p z && same_action y.act.name z.act.name) (sites_of ps) from.0
        (both (is_site_at p from.0) (same_action y.act.name from.0.act.name) two.0 called) two.1) from.2)

    by : IsOfPart x ⊎ IsOfSite v x → InParts ⊎ InSites → Wanted
    by (inl part) (inl k) = subst (λ (o : Option ActionName). Contains (wrongs_named v ps h p o) u) (sym part.0) k
    by (inl part) (inr k) = absurd (no_site part k)
    by (inr site) (inl k) = absurd (no_part site k)
    by (inr site) (inr k) = in_site site k

-- WHAT IS WRONG: V1 to V5 and V7

-- what is named is wrong where variables refer to what is granted
named_granted : (s : Service) (programs : List Signature) (ps : List Fixed) (h : Sets) (p : Place) (o : Option ActionName) (u : Wrong) → (u.reason ≡ reason.Misfit → ⊥) → Contains (wrongs_named (equipped s programs) ps h p o) u → IsGranted ps (λ r. wrongs_named s ps (all_have r) p o) u
named_granted s programs ps h p None u fits m =
    let from = joined_from (part_wrongs ps h) (filter (is_part_at p) ps) u m in
    let g = part_granted ps h from.0 u from.2 in
    record {
      at = g.at;
      among = g.among;
      alike = in_joined (part_wrongs ps (all_have g.at)) (filter (is_part_at p) ps) from.0 u from.1 g.alike;
    }
named_granted s programs ps h p (Some n) u fits m =
    let named : List Site = filter (λ (z : Site). is_site_at p z && same_action n z.act.name) (sites_of ps) in
    let from = joined_from (λ (z : Site). wrongs (known_with (equipped s programs) ps h) z.act) named u m in
    let g = action_granted s programs ps h from.0.act u fits from.2 in
    record {
      at = g.at;
      among = g.among;
      alike = in_joined (λ (z : Site). wrongs (known_with s ps (all_have g.at)) z.act) named from.0 u from.1 g.alike;
    }

number_itself : (o : Option ℕ) → option_eq (λ m n. m == n) o o ≡ true
number_itself None = refl
number_itself (Some n) = (Decides-eqb n n).1 refl

-- only a call that does not fit is refused as one
misfits : (u : Wrong) → u.reason ≡ reason.Misfit → kind_for u ≡ kind.WrongCall
misfits u e = ap (λ (r : Reason). kind_of r (is_some u.through)) e

-- what is wrong with this reference, where the refusal says, is shown
claim_shown : (s : Service) (programs : List Signature) (w : Flow) (x : Found) (q : ObjRef) (holder : Option ObjRef) → is_service s ≡ true → has_keys s ≡ true → IsFirst (equipped s programs) w x → IsWrongToo (equipped s programs) w x q → (x.kind ≡ kind.WrongCall → ⊥) → is_through holder x.through ≡ true → is_wrong s x.config x.place x.action (record { kind = x.kind; at = q; holder = holder }) ≡ true
claim_shown s programs w x q holder good keys first too other through =
    let whole = equipped s programs in
    let u = too.wrong in
    let h = w.sets x.config in
    let ps = present s x.config in
    let claim : Claim = record { kind = x.kind; at = q; holder = holder } in
    let there = named_there whole w x u (service_itself s programs ∙ good) (keys_itself s programs ∙ keys) (placed whole w x first) too.among in
    let named = subst (λ (qs : List Fixed). Contains (wrongs_named whole qs h x.place x.action) u) (present_same s programs x.config) there in
    let g = named_granted s programs ps h x.place x.action u (λ e. other (sym too.kind ∙ misfits u e)) named in
    let kinds : option_eq (λ m n. m == n) (kind_number (kind_for u)) (kind_number x.kind) ≡ true =
    subst (λ (k : RefusalKind). option_eq (λ m n. m == n) (kind_number (kind_for u)) (kind_number k) ≡ true) too.kind (number_itself (kind_number (kind_for u))) in
    let ats : same_key q u.at ≡ true = subst (λ (r : ObjRef). same_key r u.at ≡ true) too.reference (key_itself u.at) in
    let throughs : is_through holder u.through ≡ true = subst (λ (o : Option ObjRef). is_through holder o ≡ true) (sym too.through) through in
    let claimed : is_claimed claim u ≡ true = both _ (is_through holder u.through) (both _ (same_key q u.at) kinds ats) throughs in
    let wrong : list_any (is_claimed claim) (wrongs_named s ps (all_have g.at) x.place x.action) ≡ true =
    any_member (is_claimed claim) (wrongs_named s ps (all_have g.at) x.place x.action) u claimed g.alike in
    any_member (λ (r : ObjRef). list_any (is_claimed claim) (wrongs_named s ps (all_have r) x.place x.action)) (granted ps q) g.at wrong
    (subst (λ (r : ObjRef). Contains (granted ps r) g.at) too.reference g.among)

-- nothing that is wrong is refused as a cycle
no_cycle : (r : Reason) (held : Bool) → kind_of r held ≡ kind.Cycle → ⊥
no_cycle reason.Absent true e = cc
no_cycle reason.Absent false e = cc
no_cycle reason.WrongClass true e = cc
no_cycle reason.WrongClass false e = cc
no_cycle reason.WrongKind held e = cc
no_cycle reason.Misfit held e = cc
no_cycle reason.TimerHeld held e = cc

-- THE FIRST REFUSAL

module _ (s : Service) (programs : List Signature) (good : is_service s ≡ true) (keys : has_keys s ≡ true) (w : Flow) (least_flow : IsLeast (equipped s programs) w) (x : Found) (k : Coming) (first : IsFirst (equipped s programs) w x) where
  abbrev Whole : Service
  Whole = equipped s programs

  abbrev Said : Refusal
  Said = refusal_of s x k

  -- what is wrong with the reference that is named is shown in the configuration
  shown_there : (holder : Option ObjRef) → IsWrongToo Whole w x k.at → (x.kind ≡ kind.WrongCall → ⊥) → is_through holder x.through ≡ true → shows Said holder x.place x.config k.at ≡ true
  shown_there holder too other through =
      both (is_configuration s x.config) _ (reached_is s programs good w least_flow x.config first.among)
      (claim_shown s programs w x k.at holder good keys first too other through)

  -- where a reference is written at its place
  written_shown : IsWritten x k → (x.kind ≡ kind.WrongCall → ⊥) → shows Said None x.place x.config k.at ≡ true
  written_shown written other =
      shown_there None (subst (IsWrongToo Whole w x) (sym written.at) (found_there Whole w x first)) other refl

  -- where a variable or a list holds it
  held_shown : IsSoonest Whole w x k → (x.kind ≡ kind.WrongCall → ⊥) → (brings s k.at k.chain && shows Said (last_written k.chain) x.place x.config k.at) ≡ true
  held_shown soonest other =
      let chain = brought s programs good k.at k.chain x.config soonest.holder soonest.chain.brings in
      let itself : is_through (Some soonest.holder) x.through ≡ true =
      subst (λ (o : Option ObjRef). is_through (Some soonest.holder) o ≡ true) (sym soonest.through) (key_itself soonest.holder) in
      let through : is_through (last_written k.chain) x.through ≡ true = subst (λ (o : Option ObjRef). is_through o x.through ≡ true) (sym chain.last) itself in
      both (brings s k.at k.chain) _ chain.brings (shown_there (last_written k.chain) soonest.wrong other through)

  first_shown : IsNamed Whole w x k → IsShown Said
  first_shown named = by x.kind refl named
    where
      by : (n : RefusalKind) → x.kind ≡ n → IsNamedAs n Whole w x k → evidence_of n Said ≡ is_some (kind_number n)
      by kind.AbsentObject e is = written_shown is (λ c. cc)
      by kind.WrongClass e is = written_shown is (λ c. cc)
      by kind.WrongKind e is = written_shown is (λ c. cc)
      by kind.HeldAbsent e is = held_shown is (λ c. cc)
      by kind.HeldWrongClass e is = held_shown is (λ c. cc)
      by kind.TimerThroughVariable e is = written_shown is (λ c. cc)
      by kind.Cycle e is = let u = found_there Whole w x first in absurd (no_cycle u.wrong.reason (is_some u.wrong.through) (u.kind ∙ e))
      by (kind.TooManySteps b) e is = refl
      by kind.WrongCall e is = refl
      by kind.NoMemory e is = refl

-- ALL REFUSALS

pub told_is_shown : (s : Service) (programs : List Signature) (r : Refusal) → is_service s ≡ true → has_keys s ≡ true → IsTold s programs r → IsShown r
told_is_shown s programs r good keys (inl (inl names)) =
    subst IsShown (sym names.names) (first_shown s programs good keys names.flow names.least names.found names.coming names.first names.named)
told_is_shown s programs r good keys (inl (inr (inl names))) =
    let arrows = names.first ∷ names.behind in
    subst IsShown (sym names.names)
    (both (list_all (is_arrow_of s) arrows) (goes_round s arrows)
    (arrows_are s programs good names.flow names.least keys arrows names.cycle.granted)
    (sym (round_same s programs arrows) ∙ names.cycle.round))
told_is_shown s programs r good keys (inl (inr (inr names))) = subst IsShown (sym names.names) refl
told_is_shown s programs r good keys (inr none) = subst IsShown (sym none) refl
