-- The sum over the links that wait is that over all that is present: the others add nothing.
use Rattle.std.specs.Prelude.{◌≡◌, ℕ, Bool, true, false, ◌&&◌, cond, filter, List, [], ◌∷◌, ◌++◌, Result, Ok, refl}
use Rattle.std.proofs.Common.{ap, ◌∙◌, sym}
use Rattle.std.proofs.lemmas.List.Elements.{filter-append}
use Rattle.mh_model.specs.declared.object.Fixed.{Fixed}
use Rattle.mh_model.specs.Configuration.{scene_parts}
use Rattle.mh_model.specs.Service.{group_parts}
use Rattle.mh_laws.specs.Price.{Price, sum_price, if_price}
use Rattle.mh_layers.specs.CostNodes.{data_of, waits_for}
use Rattle.mh_layers.specs.Known.{added, known_worth}
use Rattle.mh_layers.specs.Listening.{SumsOverLinks, link_node}
use Rattle.mh_layers.proofs.KnowingLemmas.{cut, join}

-- what does not pass adds nothing
known_filtered : {K E X : Type 0} (k : K → Result ℕ E) (t : X → Bool) (f : X → Price K) (xs : List X) → known_worth k (sum_price (λ x. if_price (t x) (f x)) xs) ≡ known_worth k (sum_price f (filter t xs))
known_filtered k t f [] = refl
known_filtered {K} {E} {X} k t f (x ∷ xs) = by (t x) (known_filtered k t f xs)
  where
    by : (b : Bool) → known_worth k (sum_price (λ y. if_price (t y) (f y)) xs) ≡ known_worth k (sum_price f (filter t xs))
        → added (known_worth k (if_price b (f x))) (known_worth k (sum_price (λ y. if_price (t y) (f y)) xs)) ≡ known_worth k (sum_price f (cond b (x ∷ filter t xs) (filter t xs)))
    by true behind = λ i. added (known_worth k (f x)) (behind i)
    by false behind = (λ i. added (Ok 0) (behind i)) ∙ cut k (sum_price f (filter t xs))

known_joined : {K E X : Type 0} (k : K → Result ℕ E) (f : X → Price K) (xs ys : List X) → known_worth k (sum_price f (xs ++ ys)) ≡ added (known_worth k (sum_price f xs)) (known_worth k (sum_price f ys))
known_joined k f [] ys = sym (cut k (sum_price f ys))
known_joined k f (x ∷ xs) ys =
    (λ i. added (known_worth k (f x)) (known_joined k f xs ys i)) ∙ sym (join (known_worth k (f x)) (known_worth k (sum_price f xs)) (known_worth k (sum_price f ys)))

-- the sum over the links of the application that wait, and then over those of the scene
pub links_sum : SumsOverLinks
links_sum v c r kind is k =
    known_filtered k t (link_node c) (group_parts v c.app ++ scene_parts v c.scene)
    ∙ ap (λ (xs : List Fixed). known_worth k (sum_price (link_node c) xs)) (filter-append t (group_parts v c.app) (scene_parts v c.scene))
    ∙ known_joined k (link_node c) (filter t (group_parts v c.app)) (filter t (scene_parts v c.scene))
  where
    t : Fixed → Bool
    t p = waits_for r kind p && is (data_of p)
