-- Where effects stand, and their labels.
use Rattle.std.specs.Prelude.{◌≡◌, ◌<◌, ◌≤◌, ◌==◌, ◌&&◌, ℕ, true, false, List, [], ◌∷◌, ◌++◌, length, map, get_or, slice_get, unwrap_or, Option, Some, refl}
use Rattle.std.specs.declared.cmp.Ordering.{Ordering}
use Rattle.std.specs.declared.cmp.Ordering.TheVariants.{Less, Equal, Greater}
use Rattle.std.specs.Cmp.{IsTotalOrder, then_total, on_total, nat_cmp_total, ranked, tied_itself}
use Rattle.std.specs.Cmp.Lexicographic.{slice_cmp}
use Rattle.std.specs.List.{list_any}
use Rattle.std.specs.List.Sorted.{IsSorted}
use Rattle.std.specs.Ordering.{is_lt, nat_cmp, MatchOrdering, ordering_reverse, ordering_then}
use Rattle.std.proofs.Common.{arith, ap, ◌∙◌, sym, subst}
use Rattle.std.proofs.lemmas.Bool.Decides.{Decides-eqb}
use Rattle.std.proofs.lemmas.List.Sorted.{ranks_by, sorted_far}
use Rattle.std.proofs.lemmas.Map.Lookups.{exact_bytes, exact_unsigned}
use Rattle.std.proofs.lemmas.Option.{get_or_from_slice_get, slice_get_within}
use Rattle.indexmap.specs.IndexSet.{insert_all}
use Rattle.mh_base.specs.declared.obj_ref.ObjRef.{ObjRef}
use Rattle.mh_model.specs.declared.config.Config.{Config}
use Rattle.mh_model.specs.Reference.{same_key as same_ref_key}
use Rattle.mh_model.proofs.ListLemmas.{and_left, and_right, some_same}
use Rattle.mh_laws.specs.Each.{Among}
use Rattle.mh_laws.specs.Least.{by_reference}
use Rattle.mh_laws.proofs.EachLemmas.{among_mapped}
use Rattle.mh_flow.proofs.OrderLemmas.{reference_total}
use Rattle.mh_layers.specs.declared.cause.Cause.{Cause}
use Rattle.mh_layers.specs.declared.numbered_node.NumberedNode.{NumberedNode}
use Rattle.mh_layers.specs.declared.numbered_node.NumberedNode.TheVariants as node
use Rattle.mh_layers.specs.declared.cycle.effect_site.EffectSite.{EffectSite}
use Rattle.mh_layers.specs.NodeGraph.{label_to}
use Rattle.mh_layers.specs.Cycle.{by_place, cause_of}
use Rattle.mh_layers.specs.Reading.{Reading, config_named, no_config, object_named, settings}
use Rattle.mh_layers.specs.EffectSites.{AreEffectSites, cause_by, cause_named, label_in, same_effect_site, effect_site_cmp, effect_site_named, effect_site_number}
use Rattle.mh_layers.proofs.ListeningLemmas.{tells_objects}
use Rattle.mh_layers.proofs.PositionLemmas.{TellsOne, position_is, position_there, put_all}

-- CAUSES

-- the effect with these numbers is that of the configuration that was found
pub cause_found : (r : Reading) (c o n : ℕ) (config : Config) (cause : Cause) → slice_get (settings r) c ≡ Some config
    → cause ≡ cause_of r.service (record { config = config; object = object_named r o; number = n }) → cause ≡ cause_by r c o n
cause_found r c o n config cause found is =
    let named : config_named r c ≡ config = get_or_from_slice_get (settings r) c config (no_config (settings r)) found in
    is ∙ sym (λ i. cause_of r.service (record { config = named i; object = object_named r o; number = n }))

-- PLACES

context_itself : (a : EffectSite) → same_effect_site a a ≡ true
context_itself a = λ i. tells_objects.itself a.at i && (Decides-eqb a.index a.index).1 refl i

effect_site_one : (a b : EffectSite) → same_effect_site a b ≡ true → a ≡ b
effect_site_one a b h =
    let at : a.at ≡ b.at = tells_objects.one a.at b.at (and_left (same_ref_key a.at b.at) (a.index == b.index) h) in
    let index : a.index ≡ b.index = (Decides-eqb a.index b.index).0 (and_right (same_ref_key a.at b.at) (a.index == b.index) h) in
    λ i. record { at = at i; index = index i }

tells_effect_sites : TellsOne same_effect_site
tells_effect_sites = record { itself = context_itself; one = effect_site_one }

pub effect_site_total : IsTotalOrder effect_site_cmp
effect_site_total = then_total (on_total (λ (s : EffectSite). s.at) reference_total) (on_total (λ (s : EffectSite). s.index) nat_cmp_total)

both_equal : (a b : Ordering) → ordering_then a b ≡ Equal → (a ≡ Equal) × (b ≡ Equal)
both_equal Less b e = absurd cc
both_equal Equal b e = (refl, e)
both_equal Greater b e = absurd cc

tied_is : (a b : EffectSite) → effect_site_cmp a b ≡ Equal → a ≡ b
tied_is a b e =
    let two = both_equal (by_reference a.at b.at) (nat_cmp a.index b.index) e in
    let ref = both_equal (slice_cmp nat_cmp a.at.group b.at.group) (nat_cmp a.at.number b.at.number) two.0 in
    let g = exact_bytes a.at.group b.at.group ref.0 in
    let n = exact_unsigned a.at.number b.at.number ref.1 in
    let i = exact_unsigned a.index b.index two.1 in
    λ j. record { at = record { number = n j; group = g j }; index = i j }

-- the places in order, and all of those of these effects
pub are_effect_sites : (r : Reading) (ks : List NumberedNode) (ss : List EffectSite) → IsSorted effect_site_cmp ss → ((s : EffectSite) → list_any (same_effect_site s) ss ≡ list_any (same_effect_site s) (insert_all same_effect_site [] (map (effect_site_named r) ks))) → AreEffectSites r ks ss
are_effect_sites r ks ss sorted same = record {
  sorted = sorted;
  each = λ k there. same (effect_site_named r k) ∙ put_all same_effect_site context_itself [] (map (effect_site_named r) ks) (effect_site_named r k) (among_mapped (effect_site_named r) ks k there);
}

-- what is among them stands at its number
context_there : (ss : List EffectSite) (s : EffectSite) → list_any (same_effect_site s) ss ≡ true → (slice_get ss (effect_site_number ss s) ≡ Some s) × (effect_site_number ss s < length ss)
context_there ss s h =
    let at = position_there (same_effect_site s) ss h in
    let number : effect_site_number ss s ≡ at.0 = ap (λ (o : Option ℕ). unwrap_or o 0) at.1 in
    let got : slice_get ss (effect_site_number ss s) ≡ Some s = ap (slice_get ss) number ∙ position_is same_effect_site tells_effect_sites ss s at.0 at.1 in
    (got, slice_get_within ss (effect_site_number ss s) s got)

not_below : (ss : List EffectSite) → IsSorted effect_site_cmp ss → (i j : ℕ) (a b : EffectSite) → i ≤ j → j < length ss → slice_get ss i ≡ Some a → slice_get ss j ≡ Some b → is_lt (effect_site_cmp b a) ≡ false
not_below ss up i j a b less within at_i at_j =
    let far = sorted_far (λ x y. is_lt (effect_site_cmp x y)) (ranks_by effect_site_total (λ (s : EffectSite). s)) ss up i j a less within in
    subst (λ (z : EffectSite). is_lt (effect_site_cmp z a) ≡ false) (get_or_from_slice_get ss j b a at_j) (subst (λ (z : EffectSite). is_lt (effect_site_cmp (get_or ss j a) z) ≡ false) (get_or_from_slice_get ss i a a at_i) far)

-- numbers of places are in the order of places
sorted_numbers : (ss : List EffectSite) → IsSorted effect_site_cmp ss → (a b : EffectSite) → list_any (same_effect_site a) ss ≡ true → list_any (same_effect_site b) ss ≡ true → nat_cmp (effect_site_number ss a) (effect_site_number ss b) ≡ effect_site_cmp a b
sorted_numbers ss sorted a b ha hb = by (nat_cmp i j) refl (ranked i j (nat_cmp i j) refl)
  where
    i : ℕ
    i = effect_site_number ss a

    j : ℕ
    j = effect_site_number ss b

    at_a : (slice_get ss i ≡ Some a) × (i < length ss)
    at_a = context_there ss a ha

    at_b : (slice_get ss j ≡ Some b) × (j < length ss)
    at_b = context_there ss b hb

    before : (x y : EffectSite) → effect_site_number ss x < effect_site_number ss y → is_lt (effect_site_cmp y x) ≡ false → (r : Ordering) → effect_site_cmp x y ≡ r → r ≡ Less
    before x y less never Less e = refl
    before x y less never Equal e = let same = ap (effect_site_number ss) (tied_is x y e) in absurd (omega (arith, same, less))
    before x y less never Greater e = let k : is_lt (effect_site_cmp y x) ≡ true = ap is_lt (effect_site_total.antisymm y x ∙ ap ordering_reverse e) in absurd cc

    by : (r : Ordering) → nat_cmp i j ≡ r → MatchOrdering r (i < j) (i ≡ j) (j < i) → nat_cmp i j ≡ effect_site_cmp a b
    by Less e h = e ∙ sym (before a b h (not_below ss sorted i j a b (omega (arith, h)) at_b.1 at_a.0 at_b.0) (effect_site_cmp a b) refl)
    by Equal e h =
        let same : Some a ≡ Some b = sym at_a.0 ∙ ap (slice_get ss) h ∙ at_b.0 in
        e ∙ sym (tied_itself effect_site_total a) ∙ ap (effect_site_cmp a) (some_same same)
    by Greater e h = e ∙ ap ordering_reverse (sym (before b a h (not_below ss sorted j i b a (omega (arith, h)) at_a.1 at_b.0 at_a.0) (effect_site_cmp b a) refl)) ∙ sym (effect_site_total.antisymm a b)

-- LABELS

pub labels_order : (r : Reading) (ks : List NumberedNode) (ss : List EffectSite) → AreEffectSites r ks ss → (j k : NumberedNode) → Among ks j → Among ks k → nat_cmp (label_in r ss j) (label_in r ss k) ≡ by_place (cause_named r j) (cause_named r k)
labels_order r ks ss are j k there here =
    sorted_numbers ss are.sorted (effect_site_named r j) (effect_site_named r k) (are.each j there) (are.each k here)

pub label_tells : (label : NumberedNode → ℕ) (k : NumberedNode) (c o n l : ℕ) → k ≡ node.Effect c o n → l ≡ label k → Some l ≡ label_to label k
label_tells label k c o n l is e = ap (λ (m : ℕ). Some m) e ∙ subst (λ (j : NumberedNode). Some (label j) ≡ label_to label j) (sym is) refl
