-- Costs that are laid are the exact ones, cut at the largest number.
use Rattle.std.specs.Prelude.{◌≡◌, ◌<◌, ◌≤◌, ℕ, zero, suc, ◌+◌, true, Option, Some, None, is_some, Result, Ok, min, max, refl}
use Rattle.std.proofs.Common.{arith, ap, ◌∙◌, sym}
use Rattle.mh_laws.specs.Price.{Price, Nothing, One, Node, Plus, Most, worth}
use Rattle.mh_laws.proofs.PriceLemmas.{nodes_map, nodes_both, worth_same}
use Rattle.mh_layers.specs.declared.laying.costs.Laid.{Laid}
use Rattle.mh_layers.specs.declared.numbered_node.NumberedNode.{NumberedNode}
use Rattle.mh_layers.specs.Known.{top, added, larger, known_worth, told, told_of}
use Rattle.mh_layers.specs.Layering.{AreRanks, CountsKept, CostsExist, IsLower, LayersAreExact, cost_in, cost_of, counted_to, laid_in}
use Rattle.mh_layers.proofs.KnownLemmas.{known_same}

cut_sum : (a b : ℕ) → min (min a top + min b top) top ≡ min (a + b) top
cut_sum a b = omega arith

cut_most : (a b : ℕ) → max (min a top) (min b top) ≡ min (max a b) top
cut_most a b = omega arith

cut_one : (a : ℕ) → min (0 + min a top) top ≡ min a top
cut_one a = omega arith

pub known_cut : {K E : Type 0} (f : K → ℕ) (p : Price K) → known_worth {E = E} (λ k. Ok (min (f k) top)) p ≡ Ok (min (worth f p) top)
known_cut f Nothing = refl
known_cut f One = refl
known_cut f (Node k) = ap Ok (cut_one (f k))
known_cut f (Plus p q) = (λ i. added (known_cut f p i) (known_cut f q i)) ∙ ap Ok (cut_sum (worth f p) (worth f q))
known_cut f (Most p q) = (λ i. larger (known_cut f p i) (known_cut f q i)) ∙ ap Ok (cut_most (worth f p) (worth f q))

lower : (x y k : ℕ) → x < y → y < suc k → x < k
lower x y k h g = omega (arith, h, g)

-- what comes to this costs this
comes_cost : {E : Type 0} (o : Option Laid) (x : Laid) (known : Result ℕ E) (n : ℕ) → o ≡ Some x → known ≡ Ok x.cost → known ≡ Ok n → cost_of o ≡ Some n
comes_cost o x known n e comes is =
    let both = sym comes ∙ is in
    let same : x.cost ≡ n = cc in
    ap cost_of e ∙ ap Some same

pub exact : (price : NumberedNode → Price NumberedNode) (kept : NumberedNode → Type 0) → LayersAreExact price kept
exact price kept ts f counted layers cost k has laid = start (laid_in ts k) refl laid
  where
    Down : ℕ → Type 0
    Down b = (m : NumberedNode) (x : Laid) → kept m → laid_in ts m ≡ Some x → x.rank < b → cost_in ts m ≡ Some (min (f m) top)

    counted_cost : (b : ℕ) (x : Laid) → x.rank < suc b → Down b → (j : NumberedNode) (o : Option Laid) → laid_in ts j ≡ o → kept j → IsLower o x.rank → told (cost_in ts) j ≡ Ok (min (f j) top)
    counted_cost b x below behind j None e has low = absurd cc
    counted_cost b x below behind j (Some y) e has low = ap (told_of j) (behind j y has e (lower y.rank x.rank b low below))

    down : (b : ℕ) → Down b
    down zero m x has e below = absurd (omega (arith, below))
    down (suc b) m x has e below =
        comes_cost (laid_in ts m) x (known_worth (told (cost_in ts)) (price m)) (min (f m) top) e (layers.comes m x has e)
        (known_same (told (cost_in ts)) (λ j. Ok (min (f j) top)) (price m)
        (nodes_map (λ (j : NumberedNode). kept j × IsLower (laid_in ts j) x.rank) (λ (j : NumberedNode). told (cost_in ts) j ≡ Ok (min (f j) top))
        (λ j h. counted_cost b x below (down b) j (laid_in ts j) refl h.0 h.1) (price m)
        (nodes_both kept (λ (j : NumberedNode). IsLower (laid_in ts j) x.rank) (price m) (counted.each m has) (layers.falls m x has e)))
        ∙ known_cut f (price m) ∙ ap (λ (n : ℕ). Ok (min n top)) (sym (cost m has)))

    start : (o : Option Laid) → laid_in ts k ≡ o → is_some o ≡ true → cost_in ts k ≡ Some (min (f k) top)
    start None e some = absurd cc
    start (Some x) e some = down (suc x.rank) k x has e (omega arith)

less_one : (k n : ℕ) → suc k ≤ suc n → k ≤ n
less_one k n h = omega (arith, h)

deep_enough : (price : NumberedNode → Price NumberedNode) (kept : NumberedNode → Type 0) (rank : NumberedNode → ℕ) → CountsKept price kept → AreRanks price kept rank → (d : ℕ) (k : NumberedNode) → kept k → rank k < d → (a b : ℕ) → d ≤ a → d ≤ b → counted_to price a k ≡ counted_to price b k
deep_enough price kept rank counted l zero k has below a b x y = absurd (omega (arith, below))
deep_enough price kept rank counted l (suc d) k has below zero b x y = absurd (omega (arith, x))
deep_enough price kept rank counted l (suc d) k has below (suc a) zero x y = absurd (omega (arith, y))
deep_enough price kept rank counted l (suc d) k has below (suc a) (suc b) x y =
    worth_same (counted_to price a) (counted_to price b) (price k)
    (nodes_map (λ (j : NumberedNode). kept j × (rank j < rank k)) (λ (j : NumberedNode). counted_to price a j ≡ counted_to price b j)
    (λ j h. deep_enough price kept rank counted l d j h.0 (lower _ _ _ h.1 below) a b (less_one _ _ x) (less_one _ _ y)) (price k)
    (nodes_both kept (λ (j : NumberedNode). rank j < rank k) (price k) (counted.each k has) (l k has)))

pub exist : (price : NumberedNode → Price NumberedNode) (kept : NumberedNode → Type 0) → CostsExist price kept
exist price kept rank counted l most below k has =
    worth_same (counted_to price most) (counted_to price (suc most)) (price k)
    (nodes_map kept (λ (j : NumberedNode). counted_to price most j ≡ counted_to price (suc most) j)
    (λ j h. deep_enough price kept rank counted l most j h (below j h) most (suc most) (omega arith) (omega arith)) (price k) (counted.each k has))
