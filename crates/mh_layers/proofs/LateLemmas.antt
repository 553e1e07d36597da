-- Late scenes: a loop over active actions goes over all late scenes to which they lead.
use Rattle.std.specs.Prelude.{◌≡◌, ℕ, ◌==◌, Bool, true, false, ◌&&◌, cond, List, [], ◌∷◌, ◌++◌, filter, length, map, IfOk, Result, refl}
use Rattle.std.specs.List.{flat_map}
use Rattle.std.proofs.Common.{arith, ap, ◌∙◌, sym}
use Rattle.std.proofs.Math.Bool.{and-false}
use Rattle.std.proofs.lemmas.Bool.Decides.{Decides-eqb}
use Rattle.mh_base.specs.declared.obj_ref.ObjRef.{ObjRef}
use Rattle.mh_group.specs.declared.action_name.ActionName.{ActionName}
use Rattle.mh_group.specs.declared.action_name.ActionName.TheVariants as action
use Rattle.mh_model.specs.declared.act.Act.{Act}
use Rattle.mh_model.specs.declared.config.Config.{Config}
use Rattle.mh_model.specs.Configuration.{present}
use Rattle.mh_model.specs.Late.{is_late_scene}
use Rattle.mh_model.specs.Service.{Service}
use Rattle.mh_laws.specs.Active.{active_actions}
use Rattle.mh_laws.specs.Costs.{can_lead_to_late, late_by, late_scenes, targets}
use Rattle.mh_laws.specs.Flow.{Flow}
use Rattle.mh_laws.specs.Price.{Price, most_price}
use Rattle.mh_prices.specs.Meter.{Meter, raise}
use Rattle.mh_flow.specs.Sites.{Site, sites_of}
use Rattle.mh_flow.proofs.SiteLemmas.{through_active}
use Rattle.mh_layers.specs.Taking.{late_among}

-- No scene is late

never : (v : Service) → v.late ≡ [] → (n : ActionName) (r : ObjRef) → can_lead_to_late v n r ≡ false
never v none action.TransitionTo r = ap (λ (gs : List (List ℕ)). r.number == 0 && is_late_scene r.group gs) none ∙ and-false (r.number == 0)
never v none _ r = refl

none_among : (v : Service) → v.late ≡ [] → (n : ActionName) (rs : List ObjRef) → late_among v n rs ≡ []
none_among v none n [] = refl
none_among v none n (r ∷ rs) =
    ap (λ (b : Bool). map (λ (q : ObjRef). q.group) (cond b (r ∷ filter (can_lead_to_late v n) rs) (filter (can_lead_to_late v n) rs))) (never v none n r)
    ∙ none_among v none n rs

none_by : (v : Service) → v.late ≡ [] → (w : Flow) (c : Config) (acts : List Act) → flat_map (late_by v w c) acts ≡ []
none_by v none w c [] = refl
none_by v none w c (a ∷ acts) =
    ap (λ (gs : List (List ℕ)). gs ++ flat_map (late_by v w c) acts) (none_among v none a.name (targets w c a.target)) ∙ none_by v none w c acts

is_nothing : (gs : List (List ℕ)) → (length gs == 0) ≡ true → gs ≡ []
is_nothing [] e = refl
is_nothing (g ∷ gs) e = let no : length (g ∷ gs) ≡ 0 = (Decides-eqb (length (g ∷ gs)) 0).0 e in absurd (omega (arith, no))

pub no_scenes : (v : Service) (w : Flow) (c : Config) (late : List (List ℕ)) → late ≡ v.late → (length late == 0) ≡ true → late_scenes v w c ≡ []
no_scenes v w c late all none = none_by v (sym all ∙ is_nothing late none) w c (active_actions (present v c))

-- Some are

pub one_late : {K S M : Type 0} (m : Meter K S M) (f : List ℕ → Price K) (v : Service) (n : ActionName) (r : ObjRef) (rs : List ObjRef) (b : M × S)
    → raise m (most_price f (late_among v n (r ∷ rs))) b ≡ raise m (most_price f (late_among v n rs)) (raise m (most_price f (late_among v n (r ∷ []))) b)
one_late {K} {S} {M} m f v n r rs b = by (can_lead_to_late v n r)
  where
    groups : List ObjRef → List (List ℕ)
    groups qs = map (λ (q : ObjRef). q.group) qs

    by : (t : Bool)
        → raise m (most_price f (groups (cond t (r ∷ filter (can_lead_to_late v n) rs) (filter (can_lead_to_late v n) rs)))) b
        ≡ raise m (most_price f (late_among v n rs)) (raise m (most_price f (groups (cond t (r ∷ []) []))) b)
    by true = refl
    by false = refl

-- as sites tell them
pub all_scenes : (v : Service) (w : Flow) (c : Config) (xs : List Site) → xs ≡ sites_of (present v c) → flat_map (λ (x : Site). late_by v w c x.act) xs ≡ late_scenes v w c
all_scenes v w c xs are = ap (flat_map (λ (x : Site). late_by v w c x.act)) are ∙ through_active (late_by v w c) (present v c)

-- What a loop ends with

-- where there is an answer, it is what is left of the largest, with the price behind it
abbrev pub Raises : {K S M T N E : Type 0} → (N → M) → (T → S) → Meter K S M → Price K → M × S → Result (N × T) E → Type 0
Raises {K} {S} {M} marked seen m p b r = IfOk r (λ x. ◌≡◌ {A = M × S} (marked x.0, seen x.1) (raise m p b))
