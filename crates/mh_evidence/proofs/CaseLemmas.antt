-- A claim about a place, part by part and reference by reference.
use Rattle.std.specs.Prelude.{◌≡◌, Bool, ◌&&◌, ◌||◌, List, ◌∷◌, filter, map, Option, Some, None}
use Rattle.std.specs.List.{flat_map, list_any}
use Rattle.std.proofs.Common.{ap, ◌∙◌, sym}
use Rattle.std.proofs.Math.Bool.{and_assoc, and_comm}
use Rattle.mh_group.specs.declared.action_name.ActionName.{ActionName}
use Rattle.mh_model.specs.declared.config.Config.{Config}
use Rattle.mh_model.specs.declared.object.Fixed.{Fixed}
use Rattle.mh_model.specs.Configuration.{present}
use Rattle.mh_model.specs.Faults.{wrongs}
use Rattle.mh_model.specs.Service.{Service}
use Rattle.mh_laws.specs.Active.{is_active}
use Rattle.mh_flow.specs.Sites.{Site, sites}
use Rattle.mh_layers.specs.Arrows.{same_action}
use Rattle.mh_verify.specs.declared.refusal.Place.{Place}
use Rattle.mh_verify.specs.Evidence.{Claim, all_have, is_claimed, is_wrong, wrongs_named}
use Rattle.mh_verify.specs.Naming.{is_part_at, is_site_at}
use Rattle.mh_verify.specs.Refusals.{part_wrongs}
use Rattle.mh_evidence.specs.Cases.{Case, Question, case_of, claims, has_wrong_action, has_wrong_member, is_so, is_wrong_part, is_wrong_site, known_by}
use Rattle.mh_evidence.specs.Spots.{at_place}
use Rattle.mh_evidence.proofs.AnyLemmas.{any_filtered, any_joined, any_mapped, any_same}

-- of a list that is made of those that pass
any_made : {X Y : Type 0} (q : Y → Bool) (f : X → List Y) (t : X → Bool) (xs : List X) → list_any q (flat_map f (filter t xs)) ≡ list_any (λ x. t x && list_any q (f x)) xs
any_made q f t xs = any_joined q f (filter t xs) ∙ any_filtered t (λ x. list_any q (f x)) xs

of_members : (c : Case) (p : Place) → list_any (is_claimed c.claim) (wrongs_named c.service c.parts (all_have c.at) p None) ≡ list_any (has_wrong_member c p) c.parts
unfolding has_wrong_member claims
of_members c p = any_made (is_claimed c.claim) (part_wrongs c.parts (all_have c.at)) (is_part_at p) c.parts

-- of an object's actions at the place
of_sites : (c : Case) (p : Place) (n : ActionName) (x : Fixed) → list_any (λ (y : Site). (is_site_at p y && same_action n y.act.name) && claims c (wrongs (known_by c) y.act)) (sites x) ≡ list_any (is_wrong_site c n) (at_place p x)
unfolding is_wrong_site at_place
of_sites c p n x =
    any_same (λ (y : Site). (is_site_at p y && same_action n y.act.name) && claims c (wrongs (known_by c) y.act)) (λ y. is_site_at p y && is_wrong_site c n y) (λ y. and_assoc (is_site_at p y) (same_action n y.act.name) (claims c (wrongs (known_by c) y.act))) (sites x)
    ∙ sym (any_filtered (is_site_at p) (is_wrong_site c n) (sites x))

of_actions : (c : Case) (p : Place) (n : ActionName) → list_any (is_claimed c.claim) (wrongs_named c.service c.parts (all_have c.at) p (Some n)) ≡ list_any (has_wrong_action c p n) c.parts
unfolding has_wrong_action claims
of_actions c p n =
    any_made (is_claimed c.claim) (λ (y : Site). wrongs (known_by c) y.act) (λ (y : Site). is_site_at p y && same_action n y.act.name) (flat_map sites (filter (is_active c.parts) c.parts))
    ∙ any_made named sites (is_active c.parts) c.parts
    ∙ any_same (λ x. is_active c.parts x && list_any named (sites x)) (has_wrong_action c p n) (λ x. ap (λ (b : Bool). is_active c.parts x && b) (of_sites c p n x) ∙ and_comm (is_active c.parts x) (list_any (is_wrong_site c n) (at_place p x))) c.parts
  where
    named : Site → Bool
    named y = (is_site_at p y && same_action n y.act.name) && list_any (is_claimed c.claim) (wrongs (known_by c) y.act)

of_parts : (c : Case) (p : Place) (n : Option ActionName) → list_any (is_claimed c.claim) (wrongs_named c.service c.parts (all_have c.at) p n) ≡ list_any (is_wrong_part c p n) c.parts
of_parts c p None = of_members c p
of_parts c p (Some n) = of_actions c p n

-- with the reference that is named, or with any that is present
pub any_granted : (s : Service) (c : Config) (p : Place) (n : Option ActionName) (k : Claim) → is_wrong s c p n k ≡ (is_so (record { service = s; parts = present s c; place = p; action = n; claim = k }) k.at || list_any (λ (x : Fixed). is_so (record { service = s; parts = present s c; place = p; action = n; claim = k }) x.key) (present s c))
unfolding is_so
any_granted s c p n k =
    any_same (λ r. list_any (is_claimed k) (wrongs_named s (present s c) (all_have r) p n)) (is_so q) (λ r. of_parts (case_of q r) p n) (k.at ∷ map (λ (x : Fixed). x.key) (present s c))
    ∙ ap (λ (b : Bool). is_so q k.at || b) (any_mapped (is_so q) (λ (x : Fixed). x.key) (present s c))
  where
    q : Question
    q = record { service = s; parts = present s c; place = p; action = n; claim = k }
