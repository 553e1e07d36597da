-- Arrows: whether one leads to the next, object by object.
use Rattle.std.specs.Prelude.{◌≡◌, ◌==◌, Bool, true, false, ◌&&◌, if◌then◌else◌, List, [], ◌∷◌, filter, refl}
use Rattle.std.specs.List.{list_any}
use Rattle.std.proofs.Common.{ap, ◌∙◌, sym}
use Rattle.std.proofs.Math.Bool.{and-true, and_comm}
use Rattle.mh_model.specs.declared.object.Fixed.{Fixed}
use Rattle.mh_model.specs.Configuration.{present}
use Rattle.mh_model.specs.Reference.{same_key}
use Rattle.mh_model.specs.Service.{Service}
use Rattle.mh_laws.specs.Active.{is_active}
use Rattle.mh_flow.specs.Sites.{Site, sites, sites_of}
use Rattle.mh_layers.specs.declared.arrows.arrow.Arrow.{Arrow}
use Rattle.mh_layers.specs.Arrows.{goes_round, is_action_of, leads, leads_back, meets, puts, same_action}
use Rattle.mh_evidence.specs.Putting.{is_putting, lead_on, puts_in}
use Rattle.mh_evidence.specs.Spots.{with_number}
use Rattle.mh_evidence.proofs.AnyLemmas.{any_filtered, any_joined, any_same}
use Rattle.mh_evidence.proofs.SiteLemmas.{key_number}

and_apart : (s n r : Bool) → ((s && n) && r) ≡ (s && (n && r))
and_apart true n r = refl
and_apart false n r = refl

pub puts_told : (v : Service) (a d : Arrow) (p : Fixed) → puts_in v a d p ≡ (same_key a.cause.at p.key && list_any (λ (x : Site). is_putting v a d x.act) (with_number a.index p))
unfolding is_putting puts_in
puts_told v a d p =
    any_same (λ (x : Site). is_action_of a x && puts v a d x) (λ (x : Site). (same_key a.cause.at x.key && a.index == x.index) && is_putting v a d x.act)
    (λ (x : Site). and_apart (same_key a.cause.at x.key && a.index == x.index) (same_action a.action x.act.name) (puts v a d x)) (sites p)
    ∙ sym (any_filtered (λ (x : Site). same_key a.cause.at x.key && a.index == x.index) (λ (x : Site). is_putting v a d x.act) (sites p))
    ∙ ap (list_any (λ (x : Site). is_putting v a d x.act)) (key_number a.cause.at a.index p)
    ∙ by (same_key a.cause.at p.key)
  where
    by : (b : Bool) → list_any (λ (x : Site). is_putting v a d x.act) (if b then with_number a.index p else []) ≡ (b && list_any (λ (x : Site). is_putting v a d x.act) (with_number a.index p))
    by true = refl
    by false = refl

pub leads_told : (v : Service) (a d : Arrow) → leads v a d ≡ (meets v a.by d && list_any (λ p. is_active (present v a.cause.config) p && puts_in v a d p) (present v a.cause.config))
unfolding puts_in
leads_told v a d =
    and_comm (list_any (λ (x : Site). is_action_of a x && puts v a d x) (sites_of (present v a.cause.config))) (meets v a.by d)
    ∙ ap (λ (b : Bool). meets v a.by d && b)
    (any_joined (λ (x : Site). is_action_of a x && puts v a d x) sites (filter (is_active (present v a.cause.config)) (present v a.cause.config))
    ∙ any_filtered (is_active (present v a.cause.config)) (puts_in v a d) (present v a.cause.config))

back_told : (v : Service) (z a : Arrow) (rest : List Arrow) → leads_back v z (a ∷ rest) ≡ lead_on v z (a ∷ rest)
back_told v z a [] = sym (and-true (leads v a z))
back_told v z a (b ∷ rest) = ap (λ (c : Bool). leads v a b && c) (back_told v z b rest)

pub round_told : (v : Service) (a : Arrow) (rest : List Arrow) → goes_round v (a ∷ rest) ≡ lead_on v a (a ∷ rest)
round_told v a rest = back_told v a a rest
