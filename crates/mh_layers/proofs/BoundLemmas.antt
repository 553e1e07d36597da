-- The groups of what is reached are there, and so what inputs cost is exact where it is laid.
use Rattle.std.specs.Prelude.{◌≡◌, ℕ, Bool, true, false, ◌&&◌, List, map, min, Option, Some, None, refl}
use Rattle.std.specs.Option.{option_map_or}
use Rattle.std.proofs.Common.{inl, inr, ap, ◌∙◌, sym, subst}
use Rattle.mh_group.specs.declared.class.Class.{Class}
use Rattle.mh_group.specs.Table.{is_application, is_scene}
use Rattle.mh_model.specs.declared.config.Config.{Config}
use Rattle.mh_model.specs.declared.object.Fixed.{Fixed}
use Rattle.mh_model.specs.Configuration.{configurations, is_group_of, is_service, names, present, with_scenes}
use Rattle.mh_model.specs.Reference.{group_ref}
use Rattle.mh_model.specs.Service.{Service, group_parts, is_there, part_at}
use Rattle.mh_laws.specs.Costs as costs
use Rattle.mh_laws.specs.Each.{Among}
use Rattle.mh_laws.specs.Flow.{reached}
use Rattle.mh_laws.specs.Layers.{IsCost}
use Rattle.mh_laws.specs.Price.{worth}
use Rattle.mh_laws.specs.Safe.{IsPartOf, is_scene_if_any}
use Rattle.mh_laws.proofs.EachLemmas.{among_each, each_contained, from_joined, from_mapped}
use Rattle.mh_flow.proofs.ListedLemmas.{is_listed}
use Rattle.mh_layers.specs.declared.bounds.InputKind.{InputKind}
use Rattle.mh_layers.specs.CostNode.{Taken}
use Rattle.mh_layers.specs.CostNodes.{IsKept, IsMet, has_groups, takes}
use Rattle.mh_layers.specs.Known.{top}
use Rattle.mh_layers.specs.Layering.{AreLayers, Places, cost_in, is_laid}
use Rattle.mh_layers.specs.Reading.{IsReading, Reading, flow_read, heard_read, kept, number, price, setting}
use Rattle.mh_layers.proofs.NodeAgreeLemmas.{from_filtered}
use Rattle.mh_layers.proofs.MetLemmas.{part_of}
use Rattle.mh_layers.proofs.ReadingLemmas.{numbers_are_names}
use Rattle.mh_layers.proofs.ServeLemmas.{serves}

-- a group of the service is there itself where it is one of those of the configuration
group_there : (v : Service) (c : Config) → is_service v ≡ true → (is : Class → Bool) (g : List ℕ) → IsPartOf c g → is_group_of is v g ≡ true → is_there (group_ref g) (present v c) ≡ true
group_there v c good is g part h =
    ap (λ (o : Option Fixed). option_map_or (λ (p : Fixed). true) o false) (part_of v c g good part)
    ∙ by (part_at (group_ref g) (group_parts v g)) h
  where
    by : (o : Option Fixed) → option_map_or (λ (p : Fixed). is p.class) o false ≡ true → option_map_or (λ (p : Fixed). true) o false ≡ true
    by None e = e
    by (Some p) e = refl

setting_groups : (v : Service) → is_service v ≡ true → (app : List ℕ) (scene : Option (List ℕ)) → is_group_of is_application v app ≡ true → is_scene_if_any v scene ≡ true → has_groups v (setting app scene) ≡ true
setting_groups v good app None a s = λ i. group_there v (setting app None) good is_application app (inl refl) a i && true
setting_groups v good app (Some g) a s =
    λ i. group_there v (setting app (Some g)) good is_application app (inl refl) a i
    && group_there v (setting app (Some g)) good is_scene g (inr refl) s i

-- so it is in each configuration of the service
listed_groups : (v : Service) → is_service v ≡ true → (c : Config) → Among (configurations v) c → has_groups v c ≡ true
listed_groups v good c there =
    let at = from_joined (with_scenes (names is_scene v)) (names is_application v) c there in
    by at.0 (from_filtered (is_group_of is_application v) (map (λ (e : List ℕ × List Fixed). e.0) v.groups) at.0 at.1).0 at.2
  where
    by : (app : List ℕ) → is_group_of is_application v app ≡ true → Among (with_scenes (names is_scene v) app) c → has_groups v c ≡ true
    by app is (inl same) = subst (λ (d : Config). has_groups v d ≡ true) same (setting_groups v good app None is refl)
    by app is (inr more) =
        let scene = from_mapped (λ (g : List ℕ). setting app (Some g)) (names is_scene v) c more in
        subst (λ (d : Config). has_groups v d ≡ true) scene.2
        (setting_groups v good app (Some scene.0) is (from_filtered (is_group_of is_scene v) (map (λ (e : List ℕ × List Fixed). e.0) v.groups) scene.0 scene.1).0)

-- and what is reached is one of these
pub reached_groups : (r : Reading) → IsReading r → (c : Config) → reached (flow_read r) c ≡ true → has_groups r.service c ≡ true
reached_groups r read c here =
    each_contained (λ (d : Config). has_groups r.service d ≡ true) (configurations r.service) c
    (among_each (λ (d : Config). has_groups r.service d ≡ true) (configurations r.service) (listed_groups r.service read.flow.chart.service))
    (is_listed r.service c read.flow.chart.service (read.flow.least.reached c here))

pub taken_met : (r : Reading) → IsReading r → (c : Config) → reached (flow_read r) c ≡ true → (k : InputKind) → IsMet r.service (flow_read r) (heard_read r) (Taken c k)
taken_met r read c here k = (here, reached_groups r read c here)

-- an input that is taken where a configuration is reached may have a cost
pub taken_kept : (r : Reading) → IsReading r → (c : Config) → reached (flow_read r) c ≡ true → (k : InputKind) → kept r (number r (Taken c k))
taken_kept r read c here k =
    subst (IsKept r.service (flow_read r) (heard_read r)) (sym ((numbers_are_names r read).back (Taken c k) (taken_met r read c here k)))
    (taken_met r read c here k)

-- and that is exact, if it is laid
pub taken_exact : (r : Reading) → IsReading r → (ts : Places) → AreLayers (price r) (kept r) ts → (cost : costs.Costing) → IsCost r.service (flow_read r) cost → (c : Config) → reached (flow_read r) c ≡ true → (k : InputKind) → is_laid ts (number r (Taken c k)) ≡ true → cost_in ts (number r (Taken c k)) ≡ Some (min (worth cost (takes r.service (flow_read r) c k)) top)
taken_exact r read ts layers cost exact c here k laid = (serves r read).exact ts layers cost exact (Taken c k) laid (taken_met r read c here k)
