-- What the numbers of a service are: which set and which configuration each is, and that what is present has a set.
use Rattle.std.specs.Prelude.{◌≡◌, ◌⊎◌, ℕ, zero, suc, ◌+◌, ◌^◌, ◌<◌, Bool, true, false, cond, if◌then◌else◌, List, [], ◌∷◌, ◌++◌, length, slice_get, Option, Some, None, option_and_then, refl}
use Rattle.std.specs.List.{Contains, list_any}
use Rattle.std.specs.Map.{lookup}
use Rattle.std.specs.Option.{option_map, option_or}
use Rattle.std.proofs.Common.{ap, ◌∙◌, sym, subst, arith, inl, inr}
use Rattle.std.proofs.lemmas.Bool.{lt-ltb}
use Rattle.std.proofs.lemmas.List.Elements.{filter-append}
use Rattle.std.proofs.lemmas.Option.{slice_get_within}
use Rattle.mh_base.specs.declared.obj_ref.ObjRef.{ObjRef}
use Rattle.mh_model.specs.declared.config.Config.{Config}
use Rattle.mh_model.specs.declared.object.Fixed.{Fixed}
use Rattle.mh_model.specs.Configuration.{configurations, present, same_config, scene_parts}
use Rattle.mh_model.specs.Reference.{same_ref}
use Rattle.mh_model.specs.Service.{Service, group_parts, part_at}
use Rattle.mh_model.proofs.ListLemmas.{some_same}
use Rattle.mh_model.proofs.ServiceLemmas.{same_ref-same}
use Rattle.mh_laws.specs.Flow.{is_holder}
use Rattle.mh_flow.specs.Index.{holders}
use Rattle.mh_flow.specs.declared.chart.Bases.{Bases}
use Rattle.mh_flow.specs.declared.chart.Set.{Set}
use Rattle.mh_flow.specs.declared.chart.Set.TheVariants as set
use Rattle.mh_flow.specs.Chart.{Chart, IsChart, based, config_number, first_sets, led_from, member_of, node_at, node_from, sets_from, sets_in, sum_of}
use Rattle.mh_flow.proofs.ContainsLemmas.{no_member, here, behind, first_or_behind}
use Rattle.mh_flow.proofs.ConfigLemmas.{config_is, config_itself}
use Rattle.mh_flow.proofs.PlaceLemmas.{place, placed, place_of, place_joined, position_place, get_left, get_right, lookup_found, found_lookup, member_get, finds, found_member, any_found}
use Rattle.mh_flow.proofs.ChartLemmas.{sets_length}
use Rattle.mh_flow.proofs.PresentLemmas.{passing}

-- Lists of sets

-- the object with the set that stands at this place of these, which are those of objects from this place on
pub record IsStanding (sets : List Set) (i k j : ℕ) (ps : List Fixed) (p : Fixed) : Type 0 where
  pub place : ℕ
  pub at : slice_get ps place ≡ Some p
  pub set : slice_get sets i ≡ Some (set.Held k (j + place))

in_at : (k j i : ℕ) (ps : List Fixed) (p : Fixed) → slice_get (holders ps) i ≡ Some p → IsStanding (sets_in k j ps) i k j ps p
in_at k j i [] p e = absurd cc
in_at k j i (q ∷ ps) p e = by (is_holder q.class) i e (λ n h. in_at k (suc j) n ps p h)
  where
    further : (xs : List Set) (n : ℕ) → IsStanding xs n k (suc j) ps p → IsStanding xs n k j (q ∷ ps) p
    further xs n ih = let same : suc j + ih.place ≡ j + suc ih.place = omega arith in record { place = suc ih.place; at = ih.at; set = ih.set ∙ ap (λ (m : ℕ). Some (set.Held k m)) same }

    here_first : (n : ℕ) → slice_get (q ∷ holders ps) n ≡ Some p → ((m : ℕ) → slice_get (holders ps) m ≡ Some p → IsStanding (sets_in k (suc j) ps) m k (suc j) ps p) → IsStanding (set.Held k j ∷ sets_in k (suc j) ps) n k j (q ∷ ps) p
    here_first zero e ih = let same : j ≡ j + 0 = omega arith in record { place = 0; at = e; set = ap (λ (m : ℕ). Some (set.Held k m)) same }
    here_first (suc n) e ih = let later = further (sets_in k (suc j) ps) n (ih n e) in record { place = later.place; at = later.at; set = later.set }

    by : (b : Bool) (n : ℕ) → slice_get (cond b (q ∷ holders ps) (holders ps)) n ≡ Some p → ((m : ℕ) → slice_get (holders ps) m ≡ Some p → IsStanding (sets_in k (suc j) ps) m k (suc j) ps p) → IsStanding (cond b (set.Held k j ∷ sets_in k (suc j) ps) (sets_in k (suc j) ps)) n k j (q ∷ ps) p
    by true n e ih = here_first n e ih
    by false n e ih = further (sets_in k (suc j) ps) n (ih n e)

led_length : (k : ℕ) (cs : List Config) → length (led_from k cs) ≡ length cs
led_length k [] = refl
led_length k (c ∷ cs) = ap (λ (i : ℕ). suc i) (led_length (suc k) cs)

led_at : (k : ℕ) (cs : List Config) (i : ℕ) → i < length cs → slice_get (led_from k cs) i ≡ Some (set.Led (k + i))
led_at k [] i less = absurd (omega (arith, less))
led_at k (c ∷ cs) zero less = let same : k ≡ k + 0 = omega arith in ap (λ (m : ℕ). Some (set.Led m)) same
led_at k (c ∷ cs) (suc i) less = let same : suc k + i ≡ k + suc i = omega arith in led_at (suc k) cs i (omega (arith, less)) ∙ ap (λ (m : ℕ). Some (set.Led m)) same

based_length : (v : Service) (n : ℕ) (cs : List Config) → length (based v n cs) ≡ length cs
based_length v n [] = refl
based_length v n (c ∷ cs) = ap (λ (i : ℕ). suc i) (based_length v (n + length (holders (present v c))) cs)

-- how many sets stand before those of a configuration, which are those of its objects
record IsBased (v : Service) (cs : List Config) (n k i : ℕ) (c : Config) (b : Bases) : Type 0 where
  before : ℕ
  application : b.application ≡ n + before
  scene : b.scene ≡ b.application + length (holders (group_parts v c.app))
  at : (j : ℕ) (p : Fixed) → slice_get (holders (present v c)) j ≡ Some p → IsStanding (sets_from v k cs) (before + j) (k + i) 0 (present v c) p

is_based : (v : Service) (cs : List Config) (n k i : ℕ) (c : Config) (b : Bases) → slice_get (based v n cs) i ≡ Some (c, b) → IsBased v cs n k i c b
is_based v [] n k i c b e = absurd cc
is_based v (d ∷ cs) n k zero c b e = subst (λ (x : Config × Bases). IsBased v (d ∷ cs) n k zero x.0 x.1) (some_same e) (record {
  before = 0;
  application = omega arith;
  scene = refl;
  at = λ j p h. at j p h;
})
  where
    at : (j : ℕ) (p : Fixed) → slice_get (holders (present v d)) j ≡ Some p → IsStanding (sets_in k 0 (present v d) ++ sets_from v (suc k) cs) (0 + j) (k + 0) 0 (present v d) p
    at j p h =
        let stands = in_at k 0 j (present v d) p h in
        let zeroth : j ≡ 0 + j = omega arith in
        let same : k ≡ k + 0 = omega arith in
        record {
          place = stands.place;
          at = stands.at;
          set =
              ap (slice_get (sets_in k 0 (present v d) ++ sets_from v (suc k) cs)) (sym zeroth)
              ∙ get_left (sets_in k 0 (present v d)) (sets_from v (suc k) cs) j (set.Held k (0 + stands.place)) stands.set
              ∙ ap (λ (m : ℕ). Some (set.Held m (0 + stands.place))) same;
        }
is_based v (d ∷ cs) n k (suc i) c b e = by (is_based v cs (n + length (holders (present v d))) (suc k) i c b e)
  where
    by : IsBased v cs (n + length (holders (present v d))) (suc k) i c b → IsBased v (d ∷ cs) n k (suc i) c b
    by ih = record {
      before = length (holders (present v d)) + ih.before;
      application = let e : b.application ≡ n + length (holders (present v d)) + ih.before = ih.application in omega (arith, e);
      scene = ih.scene;
      at = λ j p h. by_place j p h;
    }
      where
        by_place : (j : ℕ) (p : Fixed) → slice_get (holders (present v c)) j ≡ Some p → IsStanding (sets_in k 0 (present v d) ++ sets_from v (suc k) cs) (length (holders (present v d)) + ih.before + j) (k + suc i) 0 (present v c) p
        by_place j p h =
            let stands = ih.at j p h in
            let long : length (sets_in k 0 (present v d)) ≡ length (holders (present v d)) = sets_length k 0 (present v d) in
            let same : suc k + i ≡ k + suc i = omega arith in
            record {
              place = stands.place;
              at = stands.at;
              set =
                  get_right (sets_in k 0 (present v d)) (sets_from v (suc k) cs) (ih.before + j) (length (holders (present v d)) + ih.before + j) (omega (arith, long))
                  ∙ stands.set ∙ ap (λ (m : ℕ). Some (set.Held m (0 + stands.place))) same;
            }

-- Sets by their numbers

abbrev pub IsAt : Chart → ℕ → Config → Bases → Type 0
IsAt ch k c b = slice_get ch.configs k ≡ Some (c, b)

pub reached_set : (v : Service) (ch : Chart) → IsChart v ch → slice_get ch.sets 0 ≡ Some set.Reached
reached_set v ch k = ap (λ (xs : List Set). slice_get xs 0) k.sets

first_length : (cs : List Config) → length (first_sets cs) ≡ suc (length cs)
first_length cs = ap (λ (i : ℕ). suc i) (led_length 0 cs)

pub configs_length : (v : Service) (ch : Chart) → IsChart v ch → length ch.configs ≡ length (configurations v)
configs_length v ch k = ap (λ (es : List (Config × Bases)). length es) k.configs ∙ based_length v (suc (length (configurations v))) (configurations v)

pub led_set_at : (v : Service) (ch : Chart) (k : ℕ) (c : Config) (b : Bases) → IsChart v ch → IsAt ch k c b → slice_get ch.sets (suc k) ≡ Some (set.Led k)
led_set_at v ch k c b is at =
    let within : k < length ch.configs = slice_get_within ch.configs k (c, b) at in
    let long : length ch.configs ≡ length (configurations v) = configs_length v ch is in
    let zeroth : 0 + k ≡ k = omega arith in
    ap (λ (xs : List Set). slice_get xs (suc k)) is.sets
    ∙ get_left (first_sets (configurations v)) (sets_from v 0 (configurations v)) (suc k) (set.Led (0 + k)) (led_at 0 (configurations v) k (omega (arith, within, long)))
    ∙ ap (λ (n : ℕ). Some (set.Led n)) zeroth

-- the sets of a configuration
pub record IsSetOf (v : Service) (ch : Chart) (k : ℕ) (c : Config) (b : Bases) : Type 0 where
  pub scene : b.scene ≡ b.application + length (holders (group_parts v c.app))
  pub at : (j : ℕ) (p : Fixed) → slice_get (holders (present v c)) j ≡ Some p → IsStanding ch.sets (b.application + j) k 0 (present v c) p

pub is_set_of : (v : Service) (ch : Chart) (k : ℕ) (c : Config) (b : Bases) → IsChart v ch → IsAt ch k c b → IsSetOf v ch k c b
is_set_of v ch k c b is at = by (is_based v (configurations v) (suc (length (configurations v))) 0 k c b (sym (ap (λ (es : List (Config × Bases)). slice_get es k) is.configs) ∙ at))
  where
    by : IsBased v (configurations v) (suc (length (configurations v))) 0 k c b → IsSetOf v ch k c b
    by base = record { scene = base.scene; at = λ j p h. by_place j p h }
      where
        by_place : (j : ℕ) (p : Fixed) → slice_get (holders (present v c)) j ≡ Some p → IsStanding ch.sets (b.application + j) k 0 (present v c) p
        by_place j p h =
            let stands = base.at j p h in
            let long : length (first_sets (configurations v)) ≡ suc (length (configurations v)) = first_length (configurations v) in
            let application : b.application ≡ suc (length (configurations v)) + base.before = base.application in
            let zeroth : 0 + k ≡ k = omega arith in
            record {
              place = stands.place;
              at = stands.at;
              set =
                  ap (λ (xs : List Set). slice_get xs (b.application + j)) is.sets
                  ∙ get_right (first_sets (configurations v)) (sets_from v 0 (configurations v)) (base.before + j) (b.application + j) (omega (arith, long, application))
                  ∙ stands.set ∙ ap (λ (n : ℕ). Some (set.Held n (0 + stands.place))) zeroth;
            }

-- Sets by reference

-- where the object to which a reference leads stands among those present that have a set
abbrev pub place_of_key : Service → Config → ObjRef → Option ℕ
place_of_key v c r = place (λ (p : Fixed). same_ref r p.key) (holders (present v c))

summed : (a b : ℕ) → a + b < 2 ^ 64 → sum_of a b ≡ Some (a + b)
summed a b less = ap (λ (t : Bool). if t then Some (a + b) else None) (lt-ltb (a + b) (2 ^ 64) less)

pub holders_joined : (v : Service) (c : Config) → holders (present v c) ≡ holders (group_parts v c.app) ++ holders (scene_parts v c.scene)
holders_joined v c = filter-append (λ (p : Fixed). is_holder p.class) (group_parts v c.app) (scene_parts v c.scene)

-- the number of a set is that of the first, and its place
pub node_sum : (v : Service) (ch : Chart) (k : ℕ) (c : Config) (b : Bases) (r : ObjRef) → IsChart v ch → IsAt ch k c b → node_from v c r b ≡ option_map (λ (j : ℕ). b.application + j) (place_of_key v c r)
node_sum v ch k c b r is at =
    ap (λ (o : Option ℕ). option_or (option_and_then (sum_of b.application) o) (node_at b.scene (scene_parts v c.scene) r)) (position_place key (holders (group_parts v c.app)))
    ∙ ap (λ (o : Option ℕ). option_or (option_and_then (sum_of b.application) (place key (holders (group_parts v c.app)))) (option_and_then (sum_of b.scene) o)) (position_place key (holders (scene_parts v c.scene)))
    ∙ by (place key (holders (group_parts v c.app))) (place key (holders (scene_parts v c.scene))) parted
    ∙ ap (option_map (λ (j : ℕ). b.application + j)) (sym parted)
  where
    key : Fixed → Bool
    key p = same_ref r p.key

    parted : place_of_key v c r ≡ option_or (place key (holders (group_parts v c.app))) (option_map (λ (j : ℕ). length (holders (group_parts v c.app)) + j) (place key (holders (scene_parts v c.scene))))
    parted = ap (place key) (holders_joined v c) ∙ place_joined key (holders (group_parts v c.app)) (holders (scene_parts v c.scene))

    set_of : IsSetOf v ch k c b
    set_of = is_set_of v ch k c b is at

    fits : (j : ℕ) → place_of_key v c r ≡ Some j → b.application + j < 2 ^ 64
    fits j e =
        let found = placed key (holders (present v c)) j e in
        let stands = set_of.at j found.member found.at in
        let within : b.application + j < length ch.sets = slice_get_within ch.sets (b.application + j) (set.Held k (0 + stands.place)) stands.set in
        let all : length ch.sets < 2 ^ 64 = is.fits in
        omega (arith, within, all)

    by : (o u : Option ℕ) → place_of_key v c r ≡ option_or o (option_map (λ (j : ℕ). length (holders (group_parts v c.app)) + j) u) → option_or (option_and_then (sum_of b.application) o) (option_and_then (sum_of b.scene) u) ≡ option_map (λ (j : ℕ). b.application + j) (option_or o (option_map (λ (j : ℕ). length (holders (group_parts v c.app)) + j) u))
    by (Some j) u e = ap (λ (m : Option ℕ). option_or m (option_and_then (sum_of b.scene) u)) (summed b.application j (fits j e))
    by None (Some j) e =
        let same : b.application + (length (holders (group_parts v c.app)) + j) ≡ b.scene + j = omega (arith, set_of.scene) in
        let less : b.application + (length (holders (group_parts v c.app)) + j) < 2 ^ 64 = fits (length (holders (group_parts v c.app)) + j) e in
        summed b.scene j (omega (arith, same, less)) ∙ ap Some (sym same)
    by None None e = refl

-- the set of the object to which the reference leads
pub record IsNode (v : Service) (ch : Chart) (k : ℕ) (c : Config) (r : ObjRef) (u : ℕ) : Type 0 where
  pub place : ℕ
  pub part : Fixed
  pub set : slice_get ch.sets u ≡ Some (set.Held k place)
  pub at : slice_get (present v c) place ≡ Some part
  pub key : part.key ≡ r

pub is_node : (v : Service) (ch : Chart) (k : ℕ) (c : Config) (b : Bases) (r : ObjRef) (u : ℕ) → IsChart v ch → IsAt ch k c b → node_from v c r b ≡ Some u → IsNode v ch k c r u
is_node v ch k c b r u is at e = by (place_of_key v c r) refl (sym (node_sum v ch k c b r is at) ∙ e)
  where
    by : (o : Option ℕ) → place_of_key v c r ≡ o → option_map (λ (j : ℕ). b.application + j) o ≡ Some u → IsNode v ch k c r u
    by None h e = absurd cc
    by (Some j) h e =
        let found = placed (λ (p : Fixed). same_ref r p.key) (holders (present v c)) j h in
        let stands = (is_set_of v ch k c b is at).at j found.member found.at in
        let zeroth : 0 + stands.place ≡ stands.place = omega arith in
        subst (λ (n : ℕ). IsNode v ch k c r n) (some_same e) (record {
          place = stands.place;
          part = found.member;
          set = stands.set ∙ ap (λ (n : ℕ). Some (set.Held k n)) zeroth;
          at = stands.at;
          key = sym (same_ref-same r found.member.key found.passes);
        })

-- what is present has a set, if it is a variable of references or a list
pub has_node : (v : Service) (ch : Chart) (k : ℕ) (c : Config) (b : Bases) (r : ObjRef) (p : Fixed) → IsChart v ch → IsAt ch k c b → part_at r (present v c) ≡ Some p → is_holder p.class ≡ true → (u : ℕ) × (node_from v c r b ≡ Some u)
has_node v ch k c b r p is at e holds =
    let there = found_member (λ (q : Fixed). same_ref r q.key) (present v c) p e in
    let first = finds (λ (q : Fixed). same_ref r q.key) (holders (present v c)) p there.0 (passing (λ (q : Fixed). is_holder q.class) (present v c) p holds there.1) in
    let found = place_of (λ (q : Fixed). same_ref r q.key) (holders (present v c)) first.0 first.1 in
    (b.application + found.0, node_sum v ch k c b r is at ∙ ap (option_map (λ (j : ℕ). b.application + j)) found.1)

-- Configurations by their numbers

based_configs : (v : Service) (n : ℕ) (cs : List Config) (c : Config) → Contains cs c → (b : Bases) × Contains (based v n cs) (c, b)
based_configs v n [] c m = absurd (no_member c m)
based_configs v n (d ∷ cs) c m = by (first_or_behind d cs c m) (based_configs v (n + length (holders (present v d))) cs c)
  where
    first : Bases
    first = record { application = n; scene = n + length (holders (group_parts v d.app)) }

    rest : List (Config × Bases)
    rest = based v (n + length (holders (present v d))) cs

    by : (d ≡ c) ⊎ Contains cs c → (Contains cs c → (b : Bases) × Contains rest (c, b)) → (b : Bases) × Contains ((d, first) ∷ rest) (c, b)
    by (inl same) ih = (first, subst (λ (x : Config). Contains ((d, first) ∷ rest) (x, first)) same (here (d, first) rest))
    by (inr k) ih = let found = ih k in (found.0, behind (d, first) rest (c, found.0) found.1)

-- a configuration with its number, which is found under itself
pub record IsNumbered (ch : Chart) (c : Config) (k : ℕ) : Type 0 where
  pub bases : Bases
  pub at : IsAt ch k c bases
  pub under : lookup (same_config c) ch.configs ≡ Some bases

pub is_numbered : (ch : Chart) (c : Config) (k : ℕ) → config_number ch c ≡ Some k → IsNumbered ch c k
is_numbered ch c k e =
    let found = placed (λ (x : Config × Bases). same_config c x.0) ch.configs k (sym (position_place (λ (x : Config × Bases). same_config c x.0) ch.configs) ∙ e) in
    let same : c ≡ found.member.0 = config_is c found.member.0 found.passes in
    record {
      bases = found.member.1;
      at = subst (λ (d : Config). slice_get ch.configs k ≡ Some (d, found.member.1)) (sym same) found.at;
      under = lookup_found (same_config c) ch.configs found.member found.found;
    }

-- each configuration of the service has a number
pub has_number : (v : Service) (ch : Chart) (c : Config) → IsChart v ch → Contains (configurations v) c → (k : ℕ) × (config_number ch c ≡ Some k)
has_number v ch c is m =
    let entry = based_configs v (suc (length (configurations v))) (configurations v) c m in
    let among : Contains ch.configs (c, entry.0) = subst (λ (es : List (Config × Bases)). Contains es (c, entry.0)) (sym is.configs) entry.1 in
    let found = finds (λ (x : Config × Bases). same_config c x.0) ch.configs (c, entry.0) (config_itself c) among in
    let at = place_of (λ (x : Config × Bases). same_config c x.0) ch.configs found.0 found.1 in
    (at.0, position_place (λ (x : Config × Bases). same_config c x.0) ch.configs ∙ at.1)

-- the bases under which a configuration is found stand beside it
pub bases_at : (ch : Chart) (c : Config) (b : Bases) → lookup (same_config c) ch.configs ≡ Some b → (k : ℕ) × IsAt ch k c b
bases_at ch c b e =
    let found = found_lookup (same_config c) ch.configs b e in
    let at = member_get ch.configs (found.0, b) found.2 in
    (at.0, at.1 ∙ ap (λ (d : Config). Some (d, b)) (sym (config_is c found.0 found.1)))

-- References by their numbers

pub member_at_number : (ch : Chart) (q : ObjRef) (m : ℕ) → member_of ch q ≡ Some m → slice_get ch.members m ≡ Some q
member_at_number ch q m e =
    let found = placed (same_ref q) ch.members m (sym (position_place (same_ref q) ch.members) ∙ e) in
    found.at ∙ ap Some (sym (same_ref-same q found.member found.passes))

pub has_member_number : (ch : Chart) (q : ObjRef) → list_any (same_ref q) ch.members ≡ true → (m : ℕ) × (member_of ch q ≡ Some m)
has_member_number ch q e =
    let found = any_found (same_ref q) ch.members e in
    let at = place_of (same_ref q) ch.members found.0 found.1 in
    (at.0, position_place (same_ref q) ch.members ∙ at.1)
