-- What refutes that a service is acceptable, and what shows that it is.
use Rattle.std.specs.Prelude.{◌≡◌, Bool, true, false, if◌then◌else◌, List, None}
use Rattle.std.specs.List.{Contains, list_all}
use Rattle.std.proofs.Common.{◌∙◌, sym}
use Rattle.std.proofs.lemmas.List.Elements.{All-contains}
use Rattle.std.proofs.lemmas.List.Sums.{AllPass-from_list_all}
use Rattle.mh_base.specs.declared.obj_ref.ObjRef.{ObjRef}
use Rattle.mh_group.specs.Table.{is_list_group}
use Rattle.mh_model.specs.declared.act.Act.{Act}
use Rattle.mh_model.specs.declared.config.Config.{Config}
use Rattle.mh_model.specs.declared.object.member.Member.{Member}
use Rattle.mh_model.specs.declared.object.Fixed.{Fixed}
use Rattle.mh_model.specs.Configuration.{is_service, present}
use Rattle.mh_model.specs.Faults.{wrongs}
use Rattle.mh_model.specs.Service.{Service}
use Rattle.mh_model.specs.Step.{is_empty}
use Rattle.mh_model.specs.Tokens.{members}
use Rattle.mh_laws.specs.Acceptable.{IsAcceptable, has_good_members, is_free, is_manned, is_right}
use Rattle.mh_laws.specs.Active.{active_actions, item_wrongs, known_with, member_wrongs}
use Rattle.mh_laws.specs.Flow.{Flow, Sets, has, reached}
use Rattle.mh_laws.specs.Least.{Derived, Reached, Held, IsLeast}
use Rattle.mh_model.proofs.ListLemmas.{empty_is, is_empty_of}
use Rattle.mh_laws.proofs.FaultLemmas.{IsWithin, wrongs_fewer}
use Rattle.mh_laws.proofs.LeastLemmas.{derived_in_each}
use Rattle.mh_laws.proofs.SetLemmas.{AreWithin, passed_within}

-- all that these sets have is derived
abbrev pub AreDerived : Service → Config → Sets → Type 0
AreDerived s c h = (v q : ObjRef) → has h v q ≡ true → Derived s (Held c v q)

-- what all members of a list pass, one of them passes
passed_by : {X : Type 0} (p : X → Bool) (xs : List X) (x : X) → list_all p xs ≡ true → Contains xs x → p x ≡ true
passed_by {X} p xs x all among = All-contains (λ (y : X). p y ≡ true) xs x (AllPass-from_list_all p xs all) among

-- Fewer references leave right what is right

right_fewer : (s : Service) (ps : List Fixed) (h g : Sets) (a : Act) → IsWithin ps h g → is_right s g ps a ≡ true → is_right s h ps a ≡ true
right_fewer s ps h g a within right =
    is_empty_of (wrongs (known_with s ps h) a) (wrongs_fewer s ps h g (λ v. None) a within (empty_is (wrongs (known_with s ps g) a) right))

good_fewer : (ps : List Fixed) (h g : Sets) (p : Fixed) → AreWithin (h p.key) (g p.key) → has_good_members g ps p ≡ true → has_good_members h ps p ≡ true
good_fewer ps h g p within = by (is_list_group p.class)
  where
    is_good : ObjRef → Bool
    is_good q = is_empty (item_wrongs ps p.key q)

    manned : Bool
    manned = list_all (λ (m : Member). is_empty (member_wrongs ps m)) (members p)

    by : (b : Bool) → (if b then list_all is_good (g p.key) else manned) ≡ true → (if b then list_all is_good (h p.key) else manned) ≡ true
    by true good = passed_within is_good (h p.key) (g p.key) within good
    by false good = good

-- an active action with which something is wrong by references that are derived
pub refused_action : (s : Service) (c : Config) (h : Sets) (a : Act) → Derived s (Reached c) → AreDerived s c h → Contains (active_actions (present s c)) a → is_right s h (present s c) a ≡ false → IsAcceptable s → ⊥
refused_action s c h a at derived among wrong k =
    let sets = (k.flow).sets c in
    let solution = (k.by).solution in
    let right = passed_by (is_right s sets (present s c)) (active_actions (present s c)) a ((k.by).free c (derived_in_each s k.flow solution (Reached c) at)) among in
    let never : false ≡ true =
    sym wrong ∙ right_fewer s (present s c) h sets a (λ v q is held. derived_in_each s k.flow solution (Held c v q) (derived v q held)) right in
    absurd cc

-- a group whose members, or a list one of whose items, is absent or no visible
pub refused_part : (s : Service) (c : Config) (h : Sets) (p : Fixed) → Derived s (Reached c) → AreDerived s c h → Contains (present s c) p → has_good_members h (present s c) p ≡ false → IsAcceptable s → ⊥
refused_part s c h p at derived among wrong k =
    let sets = (k.flow).sets c in
    let solution = (k.by).solution in
    let good = passed_by (has_good_members sets (present s c)) (present s c) p ((k.by).manned c (derived_in_each s k.flow solution (Reached c) at)) among in
    let never : false ≡ true =
    sym wrong ∙ good_fewer (present s c) h sets p (λ q held. derived_in_each s k.flow solution (Held c p.key q) (derived p.key q held)) good in
    absurd cc

-- a service in whose least flow nothing is wrong
pub accepted_by_least : (s : Service) (w : Flow) → is_service s ≡ true → IsLeast s w → ((c : Config) → reached w c ≡ true → is_free s w c ≡ true) → ((c : Config) → reached w c ≡ true → is_manned s w c ≡ true) → IsAcceptable s
accepted_by_least s w service k free manned = record { flow = w; by = record { service = service; solution = k.solution; free = free; manned = manned } }
