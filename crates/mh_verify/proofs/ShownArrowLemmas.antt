-- A configuration that is reached is an application with one of its scenes or none, and what arrows grant is held by variables of
-- references and by lists: no more has a set in the least flow.
use Rattle.std.proofs.Common.{◌≡◌, inl, inr, ℕ, Bool, true, List, [], ◌∷◌, map, Some, None, refl, ◌∙◌, subst}
use Rattle.std.specs.List.{Contains, list_all}
use Rattle.mh_group.specs.declared.class.Class.{Class}
use Rattle.mh_group.specs.Table.{is_application, is_scene}
use Rattle.mh_model.specs.declared.config.Config.{Config}
use Rattle.mh_model.specs.declared.object.Fixed.{Fixed}
use Rattle.mh_model.specs.declared.program.Signature.{Signature}
use Rattle.mh_model.specs.Configuration.{configurations, has_keys, is_group_of, is_service, names, with_scenes}
use Rattle.mh_model.specs.Service.{Service}
use Rattle.mh_laws.specs.Each.{Each}
use Rattle.mh_laws.specs.Flow.{Flow, has, is_holder, reached}
use Rattle.mh_laws.specs.Least.{IsLeast}
use Rattle.mh_flow.specs.Equipment.{equipped}
use Rattle.mh_flow.proofs.ChainLemmas.{mapped_from}
use Rattle.mh_flow.proofs.ContainsLemmas.{both, first_or_behind, joined_from}
use Rattle.mh_flow.proofs.EquippedLemmas.{keys_itself, service_itself}
use Rattle.mh_flow.proofs.HoldingLemmas.{holder_of_held}
use Rattle.mh_flow.proofs.ListedLemmas.{is_listed}
use Rattle.mh_flow.proofs.PresentLemmas.{passing_from}
use Rattle.mh_layers.specs.declared.arrows.arrow.Arrow.{Arrow}
use Rattle.mh_layers.specs.declared.arrows.arrow.Held.{Held}
use Rattle.mh_layers.specs.Arrows.{AreGrantedBy, IsGrantedBy}
use Rattle.mh_verify.specs.Evidence.{is_arrow_of, is_by_holder, is_configuration}
use Rattle.mh_verify.proofs.ShownPlaceLemmas.{passes_own}

-- Configurations

abbrev alone : List ℕ → Config
alone app = record { app = app; scene = None }

abbrev with_scene : List ℕ → List ℕ → Config
with_scene app g = record { app = app; scene = Some g }

-- a name among those of such groups is that of one
of_class : (is : Class → Bool) (v : Service) (g : List ℕ) → Contains (names is v) g → is_group_of is v g ≡ true
of_class is v g m = (passing_from (is_group_of is v) (map (λ (e : List ℕ × List Fixed). e.0) v.groups) g m).0

-- the application with no scene, and with each scene
with_each : (v : Service) (app : List ℕ) (c : Config) → is_group_of is_application v app ≡ true → Contains (with_scenes (names is_scene v) app) c → is_configuration v c ≡ true
with_each v app c is m =
    elim (first_or_behind (alone app) (map (with_scene app) (names is_scene v)) c m) [
      | inl same ↦ subst (λ (d : Config). is_configuration v d ≡ true) same (both (is_group_of is_application v app) true is refl)
      | inr k ↦
          let from = mapped_from (with_scene app) (names is_scene v) c k in
          subst (λ (d : Config). is_configuration v d ≡ true) from.2
          (both (is_group_of is_application v app) (is_group_of is_scene v from.0) is (of_class is_scene v from.0 from.1))
    ]

listed_is : (v : Service) (c : Config) → Contains (configurations v) c → is_configuration v c ≡ true
listed_is v c m =
    let from = joined_from (with_scenes (names is_scene v)) (names is_application v) c m in
    with_each v from.0 c (of_class is_application v from.0 from.1) from.2

module _ (s : Service) (programs : List Signature) (good : is_service s ≡ true) (w : Flow) (least : IsLeast (equipped s programs) w) where
  abbrev whole : Service
  whole = equipped s programs

  sound : is_service whole ≡ true
  sound = service_itself s programs ∙ good

  pub reached_is : (c : Config) → reached w c ≡ true → is_configuration s c ≡ true
  reached_is c r = listed_is whole c (is_listed whole c sound (least.reached c r))

  -- Arrows
  module _ (keys : has_keys s ≡ true) where
    -- what holds a reference in some configuration is a variable of references or a list
    holder_is : (c : Config) (h : Held) → has (w.sets c) h.by h.at ≡ true → is_by_holder s h ≡ true
    holder_is c h e =
        passes_own is_holder whole c h.by sound (holder_of_held whole c h.by h.at sound (keys_itself s programs ∙ keys) (least.held c h.by h.at e))

    all_granted : (a : Arrow) (hs : List Held) → Each (IsGrantedBy whole w a) hs → list_all (is_by_holder s) hs ≡ true
    all_granted a [] each = refl
    all_granted a (h ∷ hs) each =
        let held = each.0 in
        both (is_by_holder s h) (list_all (is_by_holder s) hs) (holder_is held.0 h held.3) (all_granted a hs each.1)

    arrow_is : (a : Arrow) → AreGrantedBy whole w a → is_arrow_of s a ≡ true
    arrow_is a granted =
        both (is_configuration s a.cause.config) (list_all (is_by_holder s) a.held) (reached_is a.cause.config granted.from) (all_granted a a.held granted.held)

    pub arrows_are : (arrows : List Arrow) → Each (AreGrantedBy whole w) arrows → list_all (is_arrow_of s) arrows ≡ true
    arrows_are [] granted = refl
    arrows_are (a ∷ rest) granted = both (is_arrow_of s a) (list_all (is_arrow_of s) rest) (arrow_is a granted.0) (arrows_are rest granted.1)
