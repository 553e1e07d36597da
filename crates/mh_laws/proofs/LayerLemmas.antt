-- Where effects have a layering there are costs, and there is one for each active effect.
use Rattle.std.specs.Prelude.{◌≡◌, ◌≤◌, ◌<◌, nat_lt, ℕ, zero, suc, true, List, [], ◌∷◌}
use Rattle.std.specs.List.{list_all}
use Rattle.std.proofs.Common.{arith, inl, inr, ◌∙◌, sym, subst}
use Rattle.std.proofs.lemmas.Bool.{ltb-true}
use Rattle.std.proofs.Math.Nat.{le-max_left, le-max_right}
use Rattle.mh_model.specs.Configuration.{is_service}
use Rattle.mh_model.specs.Service.{Service}
use Rattle.mh_laws.specs.Costs.{Costing, Effect, effect_price}
use Rattle.mh_laws.specs.Each.{Among}
use Rattle.mh_laws.specs.Flow.{Flow}
use Rattle.mh_laws.specs.Layers.{active_effects, IsOn, IsLayering, Covers, IsCost, most_of, counted_to, costs, CostsExist, CostsAgree, LayeringsAreTold}
use Rattle.mh_laws.specs.Price.{Nodes, counted_in, worth}
use Rattle.mh_laws.proofs.EachLemmas.{among_all}
use Rattle.mh_laws.proofs.NodeLemmas.{effect_nodes}
use Rattle.mh_laws.proofs.PriceLemmas.{le_trans, nodes_both, nodes_map, nodes_of, worth_same}

-- what an active effect counts is active, and is of a lower layer
pub lower_nodes : (v : Service) (w : Flow) (rank : Effect → ℕ) (x : Effect) → is_service v ≡ true → IsLayering v w rank → IsOn v w x → Nodes (λ y. IsOn v w y × (rank y < rank x)) (effect_price v w x)
lower_nodes v w rank x good layering on =
    nodes_both (IsOn v w) (λ y. rank y < rank x) (effect_price v w x) (effect_nodes v w x good on)
    (nodes_of (λ y. rank y < rank x) (effect_price v w x) (λ y counted. layering x y on counted))

-- two costs agree on a price where they agree on all lower effects
agree_on : (v : Service) (w : Flow) (rank : Effect → ℕ) (x : Effect) → is_service v ≡ true → IsLayering v w rank → IsOn v w x → (f g : Costing) → ((y : Effect) → IsOn v w y → rank y < rank x → f y ≡ g y) → worth f (effect_price v w x) ≡ worth g (effect_price v w x)
agree_on v w rank x good layering on f g same =
    worth_same f g (effect_price v w x)
    (nodes_map (λ y. IsOn v w y × (rank y < rank x)) (λ y. f y ≡ g y) (λ y h. same y h.0 h.1) (effect_price v w x) (lower_nodes v w rank x good layering on))

below_both : (x y k : ℕ) → x < y → y < suc k → x < k
below_both x y k h g = omega (arith, h, g)

-- counted deep enough, it is no matter how deep
deep_enough : (v : Service) (w : Flow) (rank : Effect → ℕ) → is_service v ≡ true → IsLayering v w rank → (k : ℕ) (x : Effect) → IsOn v w x → rank x < k → (n m : ℕ) → k ≤ n → k ≤ m → counted_to v w n x ≡ counted_to v w m x
deep_enough v w rank good layering zero x on below n m a b = absurd (omega (arith, below))
deep_enough v w rank good layering (suc k) x on below zero m a b = absurd (omega (arith, a))
deep_enough v w rank good layering (suc k) x on below (suc n) zero a b = absurd (omega (arith, b))
deep_enough v w rank good layering (suc k) x on below (suc n) (suc m) a b =
    agree_on v w rank x good layering on (counted_to v w n) (counted_to v w m)
    (λ y active lower. deep_enough v w rank good layering k y active (below_both (rank y) (rank x) k lower below) n m (less k n a) (less k m b))
  where
    less : (k n : ℕ) → suc k ≤ suc n → k ≤ n
    less k n h = omega (arith, h)

most_among : {X : Type 0} (f : X → ℕ) (xs : List X) (x : X) → Among xs x → f x ≤ most_of f xs
most_among f [] x h = absurd cc
most_among {X} f (y ∷ xs) x (inl same) = subst (λ (z : X). f z ≤ most_of f (y ∷ xs)) same (le-max_left (f y) (most_of f xs))
most_among f (y ∷ xs) x (inr more) = le_trans (f x) (most_of f xs) (most_of f (y ∷ xs)) (most_among f xs x more) (le-max_right (f y) (most_of f xs))

pub costs_exist : CostsExist
costs_exist v w rank good layering x on =
    let most : ℕ = most_of rank (active_effects v w) in
    agree_on v w rank x good layering on (counted_to v w most) (counted_to v w (suc most))
    (λ y active lower. deep_enough v w rank good layering most y active (deep (rank y) (rank x) most lower (most_among rank (active_effects v w) x on)) most (suc most) (same most) (more most))
  where
    deep : (a b n : ℕ) → a < b → b ≤ n → a < n
    deep a b n h k = omega (arith, h, k)

    same : (n : ℕ) → n ≤ n
    same n = omega arith

    more : (n : ℕ) → n ≤ suc n
    more n = omega arith

agree_below : (v : Service) (w : Flow) (rank : Effect → ℕ) → is_service v ≡ true → IsLayering v w rank → (f g : Costing) → IsCost v w f → IsCost v w g → (k : ℕ) (x : Effect) → IsOn v w x → rank x < k → f x ≡ g x
agree_below v w rank good layering f g a b zero x on below = absurd (omega (arith, below))
agree_below v w rank good layering f g a b (suc k) x on below =
    a x on
    ∙ agree_on v w rank x good layering on f g (λ y active lower. agree_below v w rank good layering f g a b k y active (below_both (rank y) (rank x) k lower below))
    ∙ sym (b x on)

pub costs_agree : CostsAgree
costs_agree v w rank good layering f g a b x on = agree_below v w rank good layering f g a b (suc (rank x)) x on (next (rank x))
  where
    next : (n : ℕ) → n < suc n
    next n = omega arith

-- costs cover what effects come to
pub costs_cover : (v : Service) (w : Flow) (f : Costing) → IsCost v w f → Covers v w f
costs_cover v w f exact x on = equal (worth f (effect_price v w x)) (f x) (exact x on)
  where
    equal : (a b : ℕ) → b ≡ a → a ≤ b
    equal a b h = omega (arith, h)

pub layered_covers : (v : Service) (w : Flow) (rank : Effect → ℕ) → is_service v ≡ true → IsLayering v w rank → Covers v w (costs v w rank)
layered_covers v w rank good layering = costs_cover v w (costs v w rank) (costs_exist v w rank good layering)

pub layerings_told : LayeringsAreTold
layerings_told v w rank asked x y on counted =
    ltb-true (rank y) (rank x)
    (among_all (λ z. nat_lt (rank z) (rank x)) (counted_in (effect_price v w x)) y
    (among_all (λ t. list_all (λ z. nat_lt (rank z) (rank t)) (counted_in (effect_price v w t))) (active_effects v w) x asked on) counted)
