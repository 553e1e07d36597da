-- A configuration has no refusals exactly where it is free and manned; so what is found says what the contract says.
use Rattle.std.proofs.Common.{◌≡◌, inl, inr, Bool, true, false, ◌&&◌, List, [], ◌∷◌, Option, Some, None, refl, sym, ◌∙◌, subst}
use Rattle.std.specs.List.{Contains, find, flat_map, list_all}
use Rattle.std.specs.Option.{option_or}
use Rattle.std.proofs.lemmas.List.Elements.{Contains-append_cases}
use Rattle.std.proofs.lemmas.List.Folds.{find-append}
use Rattle.mh_model.specs.declared.config.Config.{Config}
use Rattle.mh_model.specs.Service.{Service}
use Rattle.mh_model.specs.Configuration.{is_service, present}
use Rattle.mh_laws.specs.Active.{active_actions}
use Rattle.mh_laws.specs.Acceptable.{IsAcceptable, IsAcceptableBy, has_good_members, is_free, is_manned, is_right}
use Rattle.mh_laws.specs.Flow.{Flow, reached}
use Rattle.mh_laws.specs.Least.{IsLeast}
use Rattle.mh_laws.proofs.RefusedLemmas.{refused_action, refused_part}
use Rattle.mh_flow.specs.Sites.{Site, sites_of}
use Rattle.mh_flow.proofs.ContainsLemmas.{nil_parts, no_member, here, behind, in_joined, joined_from, joined_none, all_where_none, empty_joined}
use Rattle.mh_flow.proofs.ConfigLemmas.{member_of, among_of}
use Rattle.mh_flow.proofs.PlaceLemmas.{found_member}
use Rattle.mh_flow.proofs.SiteLemmas.{all_active}
use Rattle.mh_model.proofs.ListLemmas.{both_empty}
use Rattle.mh_verify.specs.declared.refusal.Found.{Found}
use Rattle.mh_verify.specs.Refusals.{wrong_at, refusals_of_members, refusals_of_effects, refusals_in, all_refusals, RefusedIsNot}
use Rattle.mh_verify.specs.Order.{IsFirst}
use Rattle.mh_verify.specs.Least.{least_of}
use Rattle.mh_verify.proofs.OrderLemmas.{first_of, is_tied, none_of}
use Rattle.mh_verify.proofs.NamedLemmas.{unrefused_where_right, right_where_unrefused, config_of_wrong}
use Rattle.mh_verify.proofs.MannedLemmas.{none_where_manned, manned_where_none, config_of_members}

-- nothing is refused of the effects of a configuration exactly where it is free

none_where_free : (s : Service) (w : Flow) (c : Config) → is_free s w c ≡ true → refusals_of_effects s w c ≡ []
none_where_free s w c e =
    let ps = present s c in
    let h = w.sets c in
    joined_none (wrong_at s ps h c) (λ (x : Site). is_right s h ps x.act) (unrefused_where_right s ps h c) (sites_of ps) (all_active (is_right s h ps) ps ∙ e)

free_where_none : (s : Service) (w : Flow) (c : Config) → refusals_of_effects s w c ≡ [] → is_free s w c ≡ true
free_where_none s w c e =
    let ps = present s c in
    let h = w.sets c in
    sym (all_active (is_right s h ps) ps) ∙ all_where_none (wrong_at s ps h c) (λ (x : Site). is_right s h ps x.act) (right_where_unrefused s ps h c) (sites_of ps) e

-- of each of the two parts there is none where there is none of both
record HasNone (s : Service) (w : Flow) (c : Config) : Type 0 where
  members : refusals_of_members s w c ≡ []
  effects : refusals_of_effects s w c ≡ []

none_of_each : (s : Service) (w : Flow) (c : Config) → refusals_in s w c ≡ [] → HasNone s w c
none_of_each s w c e =
    let both = nil_parts (refusals_of_members s w c) (refusals_of_effects s w c) e in
    record { members = both.0; effects = both.1 }

-- The configuration of what is wrong there.

config_of_effects : (s : Service) (w : Flow) (c : Config) (x : Found) → Contains (refusals_of_effects s w c) x → x.config ≡ c
config_of_effects s w c x m =
    let from = joined_from (wrong_at s (present s c) (w.sets c) c) (sites_of (present s c)) x m in
    config_of_wrong s (present s c) (w.sets c) c from.0 x from.2

config_of : (s : Service) (w : Flow) (c : Config) (x : Found) → Contains (refusals_in s w c) x → x.config ≡ c
config_of s w c x m =
    elim (Contains-append_cases (refusals_of_members s w c) (refusals_of_effects s w c) x m) [
      | inl k ↦ config_of_members s w c x k
      | inr k ↦ config_of_effects s w c x k
    ]

-- The verdicts.

-- by the least flow the service is acceptable where nothing is refused
pub acceptable_by : (s : Service) (w : Flow) → is_service s ≡ true → IsLeast s w → least_of None (all_refusals s w) ≡ None → IsAcceptableBy s w
acceptable_by s w is k e =
    let none : (c : Config) → reached w c ≡ true → HasNone s w c =
    λ c m. none_of_each s w c (empty_joined (refusals_in s w) w.configs c (none_of (all_refusals s w) e) (member_of w.configs c m)) in
    record {
      service = is;
      solution = k.solution;
      free = λ c m. free_where_none s w c (none c m).effects;
      manned = λ c m. manned_where_none s w c (none c m).members;
    }

-- what is found in lists that are joined is found in one of them
found_joined : {X Y : Type 0} (f : X → List Y) (p : Y → Bool) (xs : List X) (y : Y) → find p (flat_map f xs) ≡ Some y → (x : X) × Contains xs x × (find p (f x) ≡ Some y)
found_joined f p [] y e = absurd cc
found_joined {X} {Y} f p (x ∷ xs) y e = by (find p (f x)) refl (sym (find-append p (f x) (flat_map f xs)) ∙ e) (found_joined f p xs y)
  where
    by : (o : Option Y) → find p (f x) ≡ o → option_or o (find p (flat_map f xs)) ≡ Some y → (find p (flat_map f xs) ≡ Some y → (z : X) × Contains xs z × (find p (f z) ≡ Some y)) → (z : X) × Contains (x ∷ xs) z × (find p (f z) ≡ Some y)
    by (Some z) is e ih = (x, here x xs, is ∙ e)
    by None is e ih = let found = ih e in (found.0, behind x xs found.0 found.1, found.2)

pub first_found : (s : Service) (w : Flow) (x : Found) → least_of None (all_refusals s w) ≡ Some x → IsFirst s w x
first_found s w x e =
    let f = first_of (all_refusals s w) x e in
    let from = found_joined (refusals_in s w) (is_tied x) w.configs x f.written in
    let there = found_member (is_tied x) (refusals_in s w from.0) x from.2 in
    let same : x.config ≡ from.0 = config_of s w from.0 x there.1 in
    record {
      among = subst (λ (c : Config). reached w c ≡ true) (sym same) (among_of w.configs from.0 from.1);
      stands = subst (λ (c : Config). Contains (refusals_in s w c) x) (sym same) there.1;
      first = λ c y r m. f.others y (in_joined (refusals_in s w) w.configs c y (member_of w.configs c r) m);
      written = subst (λ (c : Config). find (is_tied x) (refusals_in s w c) ≡ Some x) (sym same) from.2;
    }

-- What is refused is wrong in each flow.

-- one of a list does not pass where not all do
record Fails {X : Type 0} (p : X → Bool) (xs : List X) : Type 0 where
  one : X
  is : Contains xs one
  fails : p one ≡ false

some_fails : {X : Type 0} (p : X → Bool) (xs : List X) → list_all p xs ≡ false → Fails p xs
some_fails p [] e = cc
some_fails {X} p (x ∷ xs) e = by (p x) refl e (some_fails p xs)
  where
    by : (b : Bool) → p x ≡ b → (b && list_all p xs) ≡ false → (list_all p xs ≡ false → Fails p xs) → Fails p (x ∷ xs)
    by true e k ih = let f = ih k in record { one = f.one; is = behind x xs f.one f.is; fails = f.fails }
    by false e k ih = record { one = x; is = here x xs; fails = e }

-- a configuration that is not free, or not manned

unfree : (s : Service) (w : Flow) (c : Config) → IsLeast s w → reached w c ≡ true → is_free s w c ≡ false → IsAcceptable s → ⊥
unfree s w c k r e good =
    let f = some_fails (is_right s (w.sets c) (present s c)) (active_actions (present s c)) e in
    refused_action s c (w.sets c) f.one (k.reached c r) (k.held c) f.is f.fails good

unmanned : (s : Service) (w : Flow) (c : Config) → IsLeast s w → reached w c ≡ true → is_manned s w c ≡ false → IsAcceptable s → ⊥
unmanned s w c k r e good =
    let f = some_fails (has_good_members (w.sets c) (present s c)) (present s c) e in
    refused_part s c (w.sets c) f.one (k.reached c r) (k.held c) f.is f.fails good

pub refused_is_not : RefusedIsNot
refused_is_not s w c x k r m good = by (is_free s w c) refl (is_manned s w c) refl
  where
    by : (b : Bool) → is_free s w c ≡ b → (t : Bool) → is_manned s w c ≡ t → ⊥
    by false e t f = unfree s w c k r e good
    by true e false f = unmanned s w c k r f good
    by true e true f =
        let none = both_empty (refusals_of_members s w c) (refusals_of_effects s w c) (none_where_manned s w c f) (none_where_free s w c e) in
        no_member x (subst (λ (xs : List Found). Contains xs x) none m)
