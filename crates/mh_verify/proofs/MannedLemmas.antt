-- Nothing is refused of members exactly where each group of what is present has good ones.
use Rattle.std.proofs.Common.{◌≡◌, inl, inr, Bool, true, false, cond, List, [], ◌∷◌, map, refl, ap, sym}
use Rattle.std.specs.List.{Contains, list_all, flat_map}
use Rattle.mh_base.specs.declared.obj_ref.ObjRef.{ObjRef}
use Rattle.mh_group.specs.Table.{is_list_group}
use Rattle.mh_model.specs.declared.config.Config.{Config}
use Rattle.mh_model.specs.declared.object.member.Member.{Member}
use Rattle.mh_model.specs.declared.object.Fixed.{Fixed}
use Rattle.mh_model.specs.Service.{Service}
use Rattle.mh_model.specs.Configuration.{present}
use Rattle.mh_model.specs.Faults.{Wrong}
use Rattle.mh_model.specs.Step.{is_empty}
use Rattle.mh_model.specs.Tokens.{members}
use Rattle.mh_laws.specs.Active.{item_wrongs, member_wrongs}
use Rattle.mh_laws.specs.Acceptable.{has_good_members, is_manned}
use Rattle.mh_laws.specs.Flow.{Flow, Sets}
use Rattle.mh_model.proofs.ListLemmas.{empty_is, is_empty_of}
use Rattle.mh_verify.specs.declared.refusal.Found.{Found}
use Rattle.mh_verify.specs.Refusals.{found_of_part, part_wrongs, part_refused, refusals_of_members}
use Rattle.mh_flow.proofs.ContainsLemmas.{no_member, first_or_behind, joined_from, joined_none, all_where_none}

none_mapped : {X Y : Type 0} (f : X → Y) (xs : List X) → map f xs ≡ [] → xs ≡ []
none_mapped f [] h = refl
none_mapped f (x ∷ xs) h = cc

-- One object.

-- nothing is wrong with each where nothing is with all, and the other way

none_of_each : {X : Type 0} (at : X → List Wrong) (xs : List X) → list_all (λ x. is_empty (at x)) xs ≡ true → flat_map at xs ≡ []
none_of_each {X} at xs e = joined_none at (λ (x : X). is_empty (at x)) (λ x k. empty_is (at x) k) xs e

each_of_none : {X : Type 0} (at : X → List Wrong) (xs : List X) → flat_map at xs ≡ [] → list_all (λ x. is_empty (at x)) xs ≡ true
each_of_none {X} at xs e = all_where_none at (λ (x : X). is_empty (at x)) (λ x k. is_empty_of (at x) k) xs e

none_of_good : (ps : List Fixed) (h : Sets) (p : Fixed) → has_good_members h ps p ≡ true → part_wrongs ps h p ≡ []
none_of_good ps h p e = by (is_list_group p.class) e
  where
    by : (b : Bool) → cond b (list_all (λ (q : ObjRef). is_empty (item_wrongs ps p.key q)) (h p.key)) (list_all (λ (m : Member). is_empty (member_wrongs ps m)) (members p)) ≡ true → cond b (flat_map (item_wrongs ps p.key) (h p.key)) (flat_map (member_wrongs ps) (members p)) ≡ []
    by true k = none_of_each (item_wrongs ps p.key) (h p.key) k
    by false k = none_of_each (member_wrongs ps) (members p) k

good_of_none : (ps : List Fixed) (h : Sets) (p : Fixed) → part_wrongs ps h p ≡ [] → has_good_members h ps p ≡ true
good_of_none ps h p e = by (is_list_group p.class) e
  where
    by : (b : Bool) → cond b (flat_map (item_wrongs ps p.key) (h p.key)) (flat_map (member_wrongs ps) (members p)) ≡ [] → cond b (list_all (λ (q : ObjRef). is_empty (item_wrongs ps p.key q)) (h p.key)) (list_all (λ (m : Member). is_empty (member_wrongs ps m)) (members p)) ≡ true
    by true k = each_of_none (item_wrongs ps p.key) (h p.key) k
    by false k = each_of_none (member_wrongs ps) (members p) k

unrefused_where_good : (ps : List Fixed) (h : Sets) (c : Config) (p : Fixed) → has_good_members h ps p ≡ true → part_refused ps h c p ≡ []
unrefused_where_good ps h c p e = ap (map (found_of_part c p.key)) (none_of_good ps h p e)

pub good_where_unrefused : (ps : List Fixed) (h : Sets) (c : Config) (p : Fixed) → part_refused ps h c p ≡ [] → has_good_members h ps p ≡ true
good_where_unrefused ps h c p e = good_of_none ps h p (none_mapped (found_of_part c p.key) (part_wrongs ps h p) e)

-- All that are present.

pub none_where_manned : (s : Service) (w : Flow) (c : Config) → is_manned s w c ≡ true → refusals_of_members s w c ≡ []
none_where_manned s w c e =
    let ps = present s c in
    joined_none (part_refused ps (w.sets c) c) (has_good_members (w.sets c) ps) (unrefused_where_good ps (w.sets c) c) ps e

pub manned_where_none : (s : Service) (w : Flow) (c : Config) → refusals_of_members s w c ≡ [] → is_manned s w c ≡ true
manned_where_none s w c e =
    let ps = present s c in
    all_where_none (part_refused ps (w.sets c) c) (has_good_members (w.sets c) ps) (good_where_unrefused ps (w.sets c) c) ps e

-- The configuration of what is refused.

config_of_wrongs : (c : Config) (key : ObjRef) (ws : List Wrong) (x : Found) → Contains (map (found_of_part c key) ws) x → x.config ≡ c
config_of_wrongs c key [] x m = absurd (no_member x m)
config_of_wrongs c key (w ∷ ws) x m =
    elim (first_or_behind (found_of_part c key w) (map (found_of_part c key) ws) x m) [ inl same ↦ sym (ap (λ (y : Found). y.config) same) | inr k ↦ config_of_wrongs c key ws x k ]

pub config_of_members : (s : Service) (w : Flow) (c : Config) (x : Found) → Contains (refusals_of_members s w c) x → x.config ≡ c
config_of_members s w c x m =
    let ps = present s c in
    let from = joined_from (part_refused ps (w.sets c) c) ps x m in
    config_of_wrongs c from.0.key (part_wrongs ps (w.sets c) from.0) x from.2
