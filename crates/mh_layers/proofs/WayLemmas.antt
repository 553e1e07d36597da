-- The way of a kind of input: where it costs most, and what it puts to work there.
use Rattle.std.specs.Prelude.{◌≡◌, ◌<◌, ◌≤◌, ◌+◌, ℕ, true, List, [], ◌∷◌, ◌++◌, get_or, length, map, slice_get, take, zero, suc, Some, refl}
use Rattle.std.specs.List.{list_all}
use Rattle.std.specs.Option.{option_map}
use Rattle.std.proofs.Common.{arith, inl, inr, ap, ◌∙◌, sym, subst}
use Rattle.std.proofs.lemmas.List.{length-map, take_all, take_more}
use Rattle.std.proofs.lemmas.Option.{slice_get-map, slice_get_within}
use Rattle.mh_model.specs.declared.config.Config.{Config}
use Rattle.mh_model.specs.Configuration.{starting}
use Rattle.mh_model.proofs.ListLemmas.{some_same}
use Rattle.mh_laws.specs.Costs as costs
use Rattle.mh_laws.specs.Each.{Among}
use Rattle.mh_laws.specs.Flow.{reached}
use Rattle.mh_laws.specs.Layers.{IsCost}
use Rattle.mh_laws.proofs.EachLemmas.{among_all, got_among}
use Rattle.mh_laws.proofs.NodeLemmas.{config_among}
use Rattle.mh_layers.specs.declared.bounds.InputKind.{InputKind}
use Rattle.mh_layers.specs.declared.bounds.InputKind.TheVariants as kind
use Rattle.mh_layers.specs.declared.ways.way.Way.{Way}
use Rattle.mh_layers.specs.CostNode.{CostNode, Taken}
use Rattle.mh_layers.specs.Bridge.{node_of}
use Rattle.mh_layers.specs.Caused.{IsNamed}
use Rattle.mh_layers.specs.Causing.{Counts}
use Rattle.mh_layers.specs.Choosing.{IsLargest, number_at}
use Rattle.mh_layers.specs.Dearest.{AreDearestWays, AreStages, IsFirstLargest, IsWay, Puts, all_kinds, configs_for, taken_told}
use Rattle.mh_layers.specs.CostNodes.{takes}
use Rattle.mh_layers.specs.Layered.{kinds, root_nodes}
use Rattle.mh_layers.specs.Layering.{AreLayers, Places, is_laid}
use Rattle.mh_layers.specs.Reading.{IsReading, Reading, flow_read, heard_read, kept, name, number, price}
use Rattle.mh_layers.specs.Staging.{AreStagesFrom, AreWays, IsWayIn, IsWayOf, PutsFrom}
use Rattle.mh_layers.specs.Taking.{taken_laid}
use Rattle.mh_layers.proofs.BoundLemmas.{taken_kept, taken_met}
use Rattle.mh_layers.proofs.CausingLemmas.{counts_price, stands_counts, tested}
use Rattle.mh_layers.proofs.NodeAgreeLemmas.{node_agrees}
use Rattle.mh_layers.proofs.MetLemmas.{reached_among}
use Rattle.mh_layers.proofs.ReadingLemmas.{numbers_are_names}
use Rattle.mh_layers.proofs.RootLemmas.{input_rooted, start_reached, starts_rooted, taken_cut}
use Rattle.mh_layers.proofs.ServeLemmas.{read_of}
use Rattle.mh_layers.proofs.StageLemmas.{first_of_list, stages_same}

-- WHERE IT IS TAKEN

-- each of the configurations is reached, and what an input costs there is laid
record IsTaken (r : Reading) (ts : Places) (k : InputKind) (c : Config) : Type 0 where
  pub here : reached (flow_read r) c ≡ true
  pub laid : is_laid ts (number r (Taken c k)) ≡ true

start_taken : (r : Reading) → IsReading r → (ts : Places) → list_all (is_laid ts) (root_nodes r) ≡ true → IsTaken r ts kind.Start (starting r.service)
start_taken r read ts all = record {
  here = start_reached r read;
  laid = among_all (is_laid ts) (root_nodes r) (number r (Taken (starting r.service) kind.Start)) all (starts_rooted r);
}

input_taken : (r : Reading) (ts : Places) → list_all (is_laid ts) (root_nodes r) ≡ true → (k : InputKind) → Among kinds k → (c : Config) → Among (flow_read r).configs c → IsTaken r ts k c
input_taken r ts all k one c there = record {
  here = reached_among (flow_read r).configs c there;
  laid = among_all (is_laid ts) (root_nodes r) (number r (Taken c k)) all (input_rooted r c k there one);
}

each_taken : (r : Reading) → IsReading r → (ts : Places) → list_all (is_laid ts) (root_nodes r) ≡ true → (k : InputKind) (c : Config) → Among (configs_for r.service (flow_read r) k) c → IsTaken r ts k c
each_taken r read ts all kind.Start c (inl same) = subst (IsTaken r ts kind.Start) same (start_taken r read ts all)
each_taken r read ts all kind.Start c (inr never) = absurd cc
each_taken r read ts all kind.Key c there = input_taken r ts all kind.Key (inl refl) c there
each_taken r read ts all kind.Tick c there = input_taken r ts all kind.Tick (inr (inl refl)) c there
each_taken r read ts all kind.Stream c there = input_taken r ts all kind.Stream (inr (inr (inl refl))) c there
each_taken r read ts all kind.Engine c there = input_taken r ts all kind.Engine (inr (inr (inr (inl refl)))) c there
each_taken r read ts all kind.Arrive c there = input_taken r ts all kind.Arrive (inr (inr (inr (inr (inl refl))))) c there

pub way_here : (r : Reading) → IsReading r → (ts : Places) → list_all (is_laid ts) (root_nodes r) ≡ true → (k : InputKind) (cs : List Config) (n : ℕ) (c : Config) → cs ≡ configs_for r.service (flow_read r) k → slice_get cs n ≡ Some c → reached (flow_read r) c ≡ true
way_here r read ts all k cs n c are at =
    (each_taken r read ts all k c (subst (λ (ds : List Config). Among ds c) are (got_among cs n c at))).here

-- the number of what is taken there is its own
pub taken_named : (r : Reading) → IsReading r → (c : Config) → reached (flow_read r) c ≡ true → (k : InputKind) → IsNamed r (number r (Taken c k))
taken_named r read c here k = record {
  back = ap (number r) ((numbers_are_names r read).back (Taken c k) (taken_met r read c here k));
  has = taken_kept r read c here k;
}

-- WHAT IT PUTS TO WORK

taken_puts : (r : Reading) → IsReading r → (c : Config) → reached (flow_read r) c ≡ true → (k : InputKind) (y : costs.Effect) → Counts r.service (flow_read r) (heard_read r) (Taken c k) (node_of y) → Puts r.service (flow_read r) k c y
taken_puts r read c here k y counts =
    counts_price r.service (flow_read r) (heard_read r) (read_of r read) y 6 (takes r.service (flow_read r) c k) (Taken c k) (node_of y)
    (node_agrees (tested r.service (flow_read r) (heard_read r) (read_of r read) y) (Taken c k) tt (taken_met r read c here k)) (taken_met r read c here k) refl counts

puts_taken : (r : Reading) → IsReading r → (c : Config) → reached (flow_read r) c ≡ true → (k : InputKind) (y : costs.Effect) → Puts r.service (flow_read r) k c y → Counts r.service (flow_read r) (heard_read r) (Taken c k) (node_of y)
puts_taken r read c here k y puts =
    stands_counts r.service (flow_read r) (heard_read r) (read_of r read) y 7 (Taken c k) refl (taken_met r read c here k) (omega arith) puts

named_taken : (r : Reading) → IsReading r → (c : Config) → reached (flow_read r) c ≡ true → (k : InputKind) → name r (number r (Taken c k)) ≡ Taken c k
named_taken r read c here k = (numbers_are_names r read).back (Taken c k) (taken_met r read c here k)

-- THE WAY

laid_told : (r : Reading) → IsReading r → (ts : Places) → AreLayers (price r) (kept r) ts → list_all (is_laid ts) (root_nodes r) ≡ true → (f : costs.Costing) → IsCost r.service (flow_read r) f → (k : InputKind) (c : Config)
    → Among (configs_for r.service (flow_read r) k) c → taken_laid r ts k c ≡ taken_told r.service (flow_read r) f k c
laid_told r read ts layers all f is k c there =
    let taken = each_taken r read ts all k c there in taken_cut r read ts layers f is c taken.here k taken.laid

-- of this kind, in this configuration
way_so : (r : Reading) → IsReading r → (ts : Places) → AreLayers (price r) (kept r) ts → list_all (is_laid ts) (root_nodes r) ≡ true → (f : costs.Costing) → IsCost r.service (flow_read r) f → (k : InputKind) (ns : List ℕ) (n : ℕ) (c : Config)
    → ns ≡ map (taken_laid r ts k) (configs_for r.service (flow_read r) k) → IsLargest ns n → slice_get (configs_for r.service (flow_read r) k) n ≡ Some c
    → IsFirstLargest (taken_told r.service (flow_read r) f k) (configs_for r.service (flow_read r) k) n c × (number_at ns n ≡ taken_told r.service (flow_read r) f k c)
way_so r read ts layers all f is k ns n c costs_are largest at =
    first_of_list (taken_told r.service (flow_read r) f k) (configs_for r.service (flow_read r) k) ns n (number_at ns n) c told largest at
  where
    told : (m : ℕ) (d : Config) → slice_get (configs_for r.service (flow_read r) k) m ≡ Some d → slice_get ns m ≡ Some (taken_told r.service (flow_read r) f k d)
    told m d there =
        ap (λ (ms : List ℕ). slice_get ms m) costs_are ∙ slice_get-map (taken_laid r ts k) (configs_for r.service (flow_read r) k) m
        ∙ ap (option_map (taken_laid r ts k)) there
        ∙ ap (λ (i : ℕ). Some i) (laid_told r read ts layers all f is k d (got_among (configs_for r.service (flow_read r) k) m d there))

stages_so : (r : Reading) → IsReading r → (f : costs.Costing) → IsCost r.service (flow_read r) f → (c : Config) → reached (flow_read r) c ≡ true → (k : InputKind) (y : Way) → AreStagesFrom r (number r (Taken c k)) y.stages.items
    → AreStages r.service (flow_read r) f (Puts r.service (flow_read r) k c) y.stages.items
stages_so r read f is c here k y stages =
    stages_same r.service (flow_read r) f (PutsFrom r (number r (Taken c k))) (Puts r.service (flow_read r) k c) y.stages.items
    (λ x puts. taken_puts r read c here k x (subst (λ (i : CostNode). Counts r.service (flow_read r) (heard_read r) i (node_of x)) (named_taken r read c here k) puts))
    (λ x puts. subst (λ (i : CostNode). Counts r.service (flow_read r) (heard_read r) i (node_of x)) (sym (named_taken r read c here k)) (puts_taken r read c here k x puts))
    (stages.by f is)

pub way_found : (r : Reading) → IsReading r → (ts : Places) → AreLayers (price r) (kept r) ts → list_all (is_laid ts) (root_nodes r) ≡ true → (k : InputKind) (cs : List Config) (ns : List ℕ) (n : ℕ) (c : Config) (y : Way)
    → cs ≡ configs_for r.service (flow_read r) k → ns ≡ map (taken_laid r ts k) cs → IsLargest ns n → slice_get cs n ≡ Some c → IsWayIn r c k (number_at ns n) y → IsWayOf r k y
way_found r read ts layers all k cs ns n c y are costs_are largest at way = record {
  kind = way.kind;
  by = λ f is.
      let so = way_so r read ts layers all f is k ns n c (costs_are ∙ ap (map (taken_laid r ts k)) are) largest there in record {
        place = n;
        costliest =
            subst (λ (j : InputKind). IsFirstLargest (taken_told r.service (flow_read r) f j) (configs_for r.service (flow_read r) j) n y.config) (sym way.kind)
            (subst (IsFirstLargest (taken_told r.service (flow_read r) f k) (configs_for r.service (flow_read r) k) n) (sym way.config) so.0);
        cost = way.cost ∙ so.1 ∙ sym (λ i. taken_told r.service (flow_read r) f (way.kind i) (way.config i));
        stages =
            subst (λ (j : InputKind). AreStages r.service (flow_read r) f (Puts r.service (flow_read r) j y.config) y.stages.items) (sym way.kind)
            (subst (λ (d : Config). AreStages r.service (flow_read r) f (Puts r.service (flow_read r) k d) y.stages.items) (sym way.config)
            (stages_so r read f is c (way_here r read ts all k cs n c are at) k y way.stages));
      };
}
  where
    there : slice_get (configs_for r.service (flow_read r) k) n ≡ Some c
    there = ap (λ (ds : List Config). slice_get ds n) (sym are) ∙ at

-- ALL

ways_kinds : (r : Reading) (ks : List InputKind) (ys : List Way) → AreWays r ks ys → map (λ (y : Way). y.kind) ys ≡ ks
ways_kinds r [] [] are = refl
ways_kinds r [] (y ∷ ys) are = absurd cc
ways_kinds r (k ∷ ks) [] are = absurd cc
ways_kinds r (k ∷ ks) (y ∷ ys) are = λ i. are.0.kind i ∷ ways_kinds r ks ys are.1 i

ways_each : (r : Reading) (ks : List InputKind) (ys : List Way) → AreWays r ks ys → (f : costs.Costing) → IsCost r.service (flow_read r) f → (n : ℕ) (y : Way) → slice_get ys n ≡ Some y → IsWay r.service (flow_read r) f y
ways_each r ks [] are f is n y at = absurd cc
ways_each r [] (x ∷ ys) are f is n y at = absurd cc
ways_each r (k ∷ ks) (x ∷ ys) are f is zero y at = subst (IsWay r.service (flow_read r) f) (some_same at) (are.0.by f is)
ways_each r (k ∷ ks) (x ∷ ys) are f is (suc n) y at = ways_each r ks ys are.1 f is n y at

pub all_ways : (r : Reading) (ks : List InputKind) (ys : List Way) → ks ≡ all_kinds → AreWays r ks ys → AreDearestWays r.service (flow_read r) ys
all_ways r ks ys same are = record { kinds = ways_kinds r ks ys are ∙ same; each = ways_each r ks ys are }

pub ways_more : (r : Reading) (ks : List InputKind) (i : ℕ) (k : InputKind) (y : Way) (old new : List Way) → i < length ks → AreWays r (take i ks) old → IsWayOf r (get_or ks i k) y → new ≡ old ++ y ∷ [] → AreWays r (take (i + 1) ks) new
ways_more r ks i k y old new less are way now =
    subst (λ (ys : List Way). AreWays r (take (i + 1) ks) ys) (sym now)
    (subst (λ (js : List InputKind). AreWays r js (old ++ y ∷ [])) (sym (take_more ks i k less)) (behind (take i ks) old are))
  where
    behind : (js : List InputKind) (ys : List Way) → AreWays r js ys → AreWays r (js ++ get_or ks i k ∷ []) (ys ++ y ∷ [])
    behind [] [] so_far = (way, tt)
    behind [] (x ∷ ys) so_far = absurd cc
    behind (j ∷ js) [] so_far = absurd cc
    behind (j ∷ js) (x ∷ ys) so_far = (so_far.0, behind js ys so_far.1)

pub ways_all : (r : Reading) (ks : List InputKind) (i : ℕ) (ys : List Way) → length ks ≤ i → AreWays r (take i ks) ys → AreWays r ks ys
ways_all r ks i ys far are = subst (λ (js : List InputKind). AreWays r js ys) (take_all i ks far) are

-- there is a configuration in which it costs most

among_some : {X : Type 0} (xs : List X) (x : X) → Among xs x → 0 < length xs
among_some [] x there = absurd cc
among_some (y ∷ xs) x there = omega arith

some_configs : (r : Reading) → IsReading r → (k : InputKind) → 0 < length (configs_for r.service (flow_read r) k)
some_configs r read kind.Start = omega arith
some_configs r read kind.Key = among_some (flow_read r).configs (starting r.service) (config_among (flow_read r).configs (starting r.service) (start_reached r read))
some_configs r read kind.Tick = among_some (flow_read r).configs (starting r.service) (config_among (flow_read r).configs (starting r.service) (start_reached r read))
some_configs r read kind.Stream = among_some (flow_read r).configs (starting r.service) (config_among (flow_read r).configs (starting r.service) (start_reached r read))
some_configs r read kind.Engine = among_some (flow_read r).configs (starting r.service) (config_among (flow_read r).configs (starting r.service) (start_reached r read))
some_configs r read kind.Arrive = among_some (flow_read r).configs (starting r.service) (config_among (flow_read r).configs (starting r.service) (start_reached r read))

pub some_costs : (r : Reading) → IsReading r → (k : InputKind) (f : Config → ℕ) (cs : List Config) (ns : List ℕ) → cs ≡ configs_for r.service (flow_read r) k → ns ≡ map f cs → 0 < length ns
some_costs r read k f cs ns are costs_are =
    subst (λ (n : ℕ). 0 < n) (sym (ap (λ (ms : List ℕ). length ms) costs_are ∙ length-map cs f))
    (subst (λ (ds : List Config). 0 < length ds) (sym are) (some_configs r read k))

pub place_there : (f : Config → ℕ) (cs : List Config) (ns : List ℕ) (n : ℕ) → ns ≡ map f cs → IsLargest ns n → n < length cs
place_there f cs ns n costs_are largest =
    subst (λ (m : ℕ). n < m) (ap (λ (ms : List ℕ). length ms) costs_are ∙ length-map cs f) (slice_get_within ns n (number_at ns n) largest.place)
