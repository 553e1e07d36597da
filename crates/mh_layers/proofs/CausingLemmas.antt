-- What effects cause, node by node: a price counts an effect where a node that it counts stands for one that does.
use Rattle.std.specs.Prelude.{◌≡◌, ◌⊎◌, ◌<◌, ℕ, zero, suc, ◌==◌, Bool, true, false, ◌&&◌, not, refl}
use Rattle.std.proofs.Common.{arith, inl, inr, ap, ◌∙◌, sym, subst, true≢false}
use Rattle.std.proofs.lemmas.Bool.Decides.{Decides-eqb}
use Rattle.mh_model.specs.Reference.{same_ref}
use Rattle.mh_model.specs.Service.{Service}
use Rattle.mh_model.proofs.ListLemmas.{and_left, and_right}
use Rattle.mh_model.proofs.ServiceLemmas.{same_ref-same}
use Rattle.mh_laws.specs.Costs as costs
use Rattle.mh_laws.specs.Each.{Among}
use Rattle.mh_laws.specs.Flow.{Flow}
use Rattle.mh_laws.specs.Layers.{IsOn}
use Rattle.mh_laws.specs.Price.{Price, Nothing, One, Node, Plus, Most, counted_in}
use Rattle.mh_laws.proofs.EachLemmas.{among_left, among_right}
use Rattle.mh_laws.proofs.PriceLemmas.{of_nodes}
use Rattle.mh_layers.specs.CostNode.{CostNode, Effect}
use Rattle.mh_layers.specs.Bridge.{IsRead, node_of}
use Rattle.mh_layers.specs.Causing.{Counts, NodesCause, is_effect, once, onward}
use Rattle.mh_layers.specs.CostNodes.{Heard, IsKept, IsMet, level, price_of, stands_for}
use Rattle.mh_layers.specs.Reading.{same_setting}
use Rattle.mh_layers.proofs.AgreeLemmas.{Agrees, IsLow, Setting}
use Rattle.mh_layers.proofs.BridgeLemmas.{counted_is_met, met_kept, set}
use Rattle.mh_layers.proofs.NodeAgreeLemmas.{IsOther, effect_agrees, node_agrees, on_kept}
use Rattle.mh_layers.proofs.MetLemmas.{same_itself}
use Rattle.mh_layers.proofs.ReadingLemmas.{tells_settings}
use Rattle.mh_layers.proofs.ReckonLemmas.{by_test, pass_nodes, reckon}

-- A test that one effect alone does not pass

abbrev pub same_effect : costs.Effect → costs.Effect → Bool
same_effect x y = same_setting x.config y.config && same_ref x.object y.object && x.number == y.number

effect_is : (x y : costs.Effect) → same_effect x y ≡ true → x ≡ y
effect_is x y e =
    let first : (same_setting x.config y.config && same_ref x.object y.object) ≡ true = and_left (same_setting x.config y.config && same_ref x.object y.object) (x.number == y.number) e in
    let config : x.config ≡ y.config = tells_settings.one x.config y.config (and_left (same_setting x.config y.config) (same_ref x.object y.object) first) in
    let object : x.object ≡ y.object = same_ref-same x.object y.object (and_right (same_setting x.config y.config) (same_ref x.object y.object) first) in
    let number : x.number ≡ y.number = (Decides-eqb x.number y.number).0 (and_right (same_setting x.config y.config && same_ref x.object y.object) (x.number == y.number) e) in
    λ i. record { config = config i; object = object i; number = number i }

effect_itself : (x : costs.Effect) → same_effect x x ≡ true
effect_itself x = λ i. tells_settings.itself x.config i && same_itself x.object i && (Decides-eqb x.number x.number).1 refl i

abbrev pub other_than : costs.Effect → costs.Effect → Bool
other_than y x = not (same_effect x y)

not_other : (b : Bool) → not b ≡ false → b ≡ true
not_other true e = refl
not_other false e = absurd (true≢false e)

-- an effect is told by its node

abbrev effect_of_node : costs.Effect → CostNode → costs.Effect
effect_of_node d (Effect c r n) = record { config = c; object = r; number = n }
effect_of_node d _ = d

pub node_tells : (x y : costs.Effect) → node_of x ≡ node_of y → x ≡ y
node_tells x y e = ap (effect_of_node x) e

-- What does not pass

one_fails : (a b : Bool) → (a && b) ≡ false → (a ≡ false) ⊎ (b ≡ false)
one_fails true b e = inr e
one_fails false b e = inl refl

abbrev Fails : {K : Type 0} → (K → Bool) → Price K → Type 0
Fails {K} t p = (k : K) × Among (counted_in p) k × (t k ≡ false)

either_fails : {K : Type 0} (t : K → Bool) (p q : Price K) → (reckon by_test t p ≡ false) ⊎ (reckon by_test t q ≡ false) → (reckon by_test t p ≡ false → Fails t p) → (reckon by_test t q ≡ false → Fails t q) → Fails t (Plus p q)
either_fails t p q (inl e) left right = let found = left e in (found.0, among_left (counted_in p) (counted_in q) found.0 found.1, found.2)
either_fails t p q (inr e) left right = let found = right e in (found.0, among_right (counted_in p) (counted_in q) found.0 found.1, found.2)

-- a price that does not pass counts what does not
fails : {K : Type 0} (t : K → Bool) (p : Price K) → reckon by_test t p ≡ false → Fails t p
fails t Nothing e = absurd (true≢false e)
fails t One e = absurd (true≢false e)
fails t (Node k) e = (k, inl refl, e)
fails t (Plus p q) e = either_fails t p q (one_fails (reckon by_test t p) (reckon by_test t q) e) (fails t p) (fails t q)
fails t (Most p q) e = either_fails t p q (one_fails (reckon by_test t p) (reckon by_test t q) e) (fails t p) (fails t q)

-- and one that counts such does not pass
failed : {K : Type 0} (t : K → Bool) (p : Price K) (k : K) → Among (counted_in p) k → t k ≡ false → reckon by_test t p ≡ false
failed {K} t p k there e = by (reckon by_test t p) refl
  where
    by : (b : Bool) → reckon by_test t p ≡ b → reckon by_test t p ≡ false
    by false is = is
    by true is = absurd (true≢false (sym (of_nodes (λ (j : K). t j ≡ true) p (pass_nodes t p is) k there) ∙ e))

is_counted : (y : costs.Effect) (q : Price costs.Effect) → reckon by_test (other_than y) q ≡ false → Among (counted_in q) y
is_counted y q e =
    let found = fails (other_than y) q e in
    subst (λ (x : costs.Effect). Among (counted_in q) x) (effect_is found.0 y (not_other (same_effect found.0 y) found.2)) found.1

counted_fails : (y : costs.Effect) (q : Price costs.Effect) → Among (counted_in q) y → reckon by_test (other_than y) q ≡ false
counted_fails y q there = failed (other_than y) q y there (ap not (effect_itself y))

-- What is counted over effects, and over nodes

abbrev pub tested : (v : Service) (w : Flow) (h : Heard) → IsRead v w h → costs.Effect → Setting Bool
tested v w h read y = set by_test (other_than y) v w h read

abbrev pub StandsFor : Service → Flow → costs.Effect → CostNode → Type 0
StandsFor v w y k = Among (counted_in (stands_for v w k)) y

to_node : (v : Service) (w : Flow) (h : Heard) (read : IsRead v w h) (y : costs.Effect) (n : ℕ) (p : Price CostNode) (q : Price costs.Effect) → Agrees (tested v w h read y) n p q → Among (counted_in q) y
    → (k : CostNode) × Among (counted_in p) k × StandsFor v w y k
to_node v w h read y n p q a there =
    let found = fails (λ k. reckon by_test (other_than y) (stands_for v w k)) p (a.same ∙ counted_fails y q there) in
    (found.0, found.1, is_counted y (stands_for v w found.0) found.2)

pub from_node : (v : Service) (w : Flow) (h : Heard) (read : IsRead v w h) (y : costs.Effect) (n : ℕ) (p : Price CostNode) (q : Price costs.Effect) → Agrees (tested v w h read y) n p q
    → (k : CostNode) → Among (counted_in p) k → StandsFor v w y k → Among (counted_in q) y
from_node v w h read y n p q a k there stands =
    is_counted y q (sym a.same ∙ failed (λ k. reckon by_test (other_than y) (stands_for v w k)) p k there (counted_fails y (stands_for v w k) stands))

-- Nodes that are no effects

pub other_is : (k : CostNode) → is_effect k ≡ false → IsOther k
other_is (Effect c r n) e = absurd (true≢false e)
other_is k e = tt

-- what a node counts that may have a number is met
pub counted_met : (v : Service) (w : Flow) (h : Heard) → IsRead v w h → (k j : CostNode) → IsKept v w h k → Among (counted_in (price_of v w h k)) j → IsMet v w h j
counted_met v w h read k j kept there = of_nodes (IsMet v w h) (price_of v w h k) (counted_is_met v w h read k kept) j there

pub counted_kept : (v : Service) (w : Flow) (h : Heard) → IsRead v w h → (k j : CostNode) → IsKept v w h k → Among (counted_in (price_of v w h k)) j → IsKept v w h j
counted_kept v w h read k j kept there = met_kept v w h read j (counted_met v w h read k j kept there)

pub effect_kept : (v : Service) (w : Flow) (h : Heard) → IsRead v w h → (x : costs.Effect) → IsOn v w x → IsKept v w h (node_of x)
effect_kept v w h read x on = on_kept (tested v w h read x) x on

-- From effects to nodes

-- the node counts one that stands for the effect: it is the effect's own, or counts it in turn
counts_so : (v : Service) (w : Flow) (h : Heard) (k : CostNode) (y : costs.Effect) (j : CostNode) → Among (counted_in (price_of v w h k)) j → StandsFor v w y j → (is_effect j ≡ false → Counts v w h j (node_of y)) → Counts v w h k (node_of y)
counts_so v w h k y (Effect c r n) there (inl same) below =
    once k (node_of y) (subst (λ (x : costs.Effect). Among (counted_in (price_of v w h k)) (node_of x)) same there)
counts_so v w h k y (Effect c r n) there (inr none) below = absurd cc
counts_so v w h k y j there stands below = onward k j (node_of y) there refl (below refl)

price_counts : (v : Service) (w : Flow) (h : Heard) (read : IsRead v w h) (y : costs.Effect) (n : ℕ) (k : CostNode) (q : Price costs.Effect) → Agrees (tested v w h read y) n (price_of v w h k) q → Among (counted_in q) y
    → ((j : CostNode) → is_effect j ≡ false → IsLow v w h n j → StandsFor v w y j → Counts v w h j (node_of y)) → Counts v w h k (node_of y)
price_counts v w h read y n k q a there below =
    let found = to_node v w h read y n (price_of v w h k) q a there in
    let low = of_nodes (IsLow v w h n) (price_of v w h k) a.low found.0 found.1 in
    counts_so v w h k y found.0 found.1 found.2 (λ other. below found.0 other low found.2)

-- a node counts what it stands for
pub stands_counts : (v : Service) (w : Flow) (h : Heard) (read : IsRead v w h) (y : costs.Effect) (b : ℕ) (k : CostNode) → is_effect k ≡ false → IsKept v w h k → level k < b → StandsFor v w y k → Counts v w h k (node_of y)
stands_counts v w h read y zero k other kept less there = absurd (omega (arith, less))
stands_counts v w h read y (suc b) k other kept less there =
    price_counts v w h read y (level k) k (stands_for v w k) (node_agrees (tested v w h read y) k (other_is k other) kept) there
    (λ j quiet low stands. stands_counts v w h read y b j quiet (met_kept v w h read j low.0) (lower (level j) (level k) b low.1 less) stands)
  where
    lower : (m n l : ℕ) → m < n → n < suc l → m < l
    lower m n l h k = omega (arith, h, k)

-- From nodes to effects

pub counts_price : (v : Service) (w : Flow) (h : Heard) (read : IsRead v w h) (y : costs.Effect) (n : ℕ) (q : Price costs.Effect) (k z : CostNode) → Agrees (tested v w h read y) n (price_of v w h k) q → IsKept v w h k → z ≡ node_of y → Counts v w h k z → Among (counted_in q) y
counts_price v w h read y n q k z a kept is (once i j there) =
    from_node v w h read y n (price_of v w h k) q a z there (subst (λ (x : CostNode). StandsFor v w y x) (sym is) (inl refl))
counts_price v w h read y n q k z a kept is (onward i j l there quiet more) =
    let here = counted_kept v w h read k j kept there in
    from_node v w h read y n (price_of v w h k) q a j there
    (counts_price v w h read y (level j) (stands_for v w j) j z (node_agrees (tested v w h read y) j (other_is j quiet) here) here is more)

pub nodes_cause : NodesCause
nodes_cause v w h read x on = record {
  counted = λ y causes.
      price_counts v w h read y 6 (node_of x) (costs.effect_price v w x) (effect_agrees (tested v w h read y) x on) causes
      (λ j other low stands. stands_counts v w h read y (suc (level j)) j other (met_kept v w h read j low.0) (omega arith) stands);
  causes = λ y counts.
      counts_price v w h read y 6 (costs.effect_price v w x) (node_of x) (node_of y) (effect_agrees (tested v w h read y) x on) (effect_kept v w h read x on) refl counts;
}
