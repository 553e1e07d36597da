-- The lead is one of the nodes, and what is the best of the nodes behind it is so without it.
use Rattle.std.specs.Prelude.{◌≡◌, ◌⊎◌, ◌<◌, ◌++◌, ℕ, zero, suc, List, [], ◌∷◌, length, get_or, Option, Some, None, IfSome, refl}
use Rattle.std.specs.Option.{option_to_list}
use Rattle.std.proofs.Common.{arith, inl, inr, sym, subst}
use Rattle.mh_paths.specs.declared.graph.Graph.{Graph}
use Rattle.mh_laws.specs.Each.{Among, Each}
use Rattle.mh_laws.proofs.EachLemmas.{each_among}
use Rattle.mh_layers.specs.declared.cycle.Best.{Best}
use Rattle.mh_layers.specs.declared.numbered_node.NumberedNode.{NumberedNode}
use Rattle.mh_layers.specs.Reading.{Reading}
use Rattle.mh_layers.specs.Walk.{AreBest, IsBest, IsOneOf}

item_among : {X : Type 0} (xs : List X) (n : ℕ) (d : X) → n < length xs → Among xs (get_or xs n d)
item_among [] n d less = absurd (omega (arith, less))
item_among (x ∷ xs) zero d less = inl refl
item_among (x ∷ xs) (suc n) d less = inr (item_among xs n d (omega (arith, less)))

pub lead_each : {X : Type 0} (P : X → Type 0) (xs : List X) (lead : Option X) → Each P xs → IfSome lead (Among xs) → IfSome lead P
lead_each P xs None each there = tt
lead_each P xs (Some x) each there = each_among P xs x each there

pub next_among : (xs : List NumberedNode) (n : ℕ) (d next : NumberedNode) (lead : Option NumberedNode) → n < length xs → IfSome lead (Among xs) → IsOneOf lead (get_or xs n d) next → Among xs next
next_among xs n d next lead less there (inl same) = subst (Among xs) same (item_among xs n d less)
next_among xs n d next lead less there (inr is) = subst (λ (o : Option NumberedNode). IfSome o (Among xs)) is there

-- a lead that stays
pub lead_stays : (lead : Option NumberedNode) (k : NumberedNode) → IfSome lead (IsOneOf lead k)
lead_stays None k = tt
lead_stays (Some j) k = inr refl

-- the next lead is among the nodes
pub lead_among : (xs : List NumberedNode) (n : ℕ) (d : NumberedNode) (lead next : Option NumberedNode) → n < length xs → IfSome lead (Among xs) → IfSome next (IsOneOf lead (get_or xs n d)) → IfSome next (Among xs)
lead_among xs n d lead None less there is = tt
lead_among xs n d lead (Some j) less there is = next_among xs n d j lead less there is

pub each_led : {X : Type 0} (P : X → Type 0) (xs all ys : List X) (lead : Option X) → all ≡ option_to_list lead ++ xs → ys ≡ all → IfSome lead (Among xs) → Each P xs → Each P ys
each_led {X} P xs all ys lead is same there each = subst (Each P) (sym same) (subst (Each P) (sym is) (by lead there))
  where
    by : (o : Option X) → IfSome o (Among xs) → Each P (option_to_list o ++ xs)
    by None there = each
    by (Some x) there = (each_among P xs x each there, each)

-- a node that is seen twice
once_best : (r : Reading) (ks : List NumberedNode) (g : Graph) (xs : List NumberedNode) (k : NumberedNode) (best : Option Best) → Among xs k → AreBest r ks g (k ∷ xs) best → AreBest r ks g xs best
once_best r ks g xs k None there none = λ j at. none j (inr at)
once_best r ks g xs k (Some b) there best = record {
  there = by best.there;
  cause = best.cause;
  first = best.first;
  soonest = λ j at e. best.soonest j (inr at) e;
}
  where
    by : (k ≡ b.node) ⊎ Among xs b.node → Among xs b.node
    by (inl same) = subst (Among xs) same there
    by (inr at) = at

pub best_led : (r : Reading) (ks : List NumberedNode) (g : Graph) (xs all ys : List NumberedNode) (lead : Option NumberedNode) (best : Option Best) → all ≡ option_to_list lead ++ xs → ys ≡ all → IfSome lead (Among xs) → AreBest r ks g ys best → AreBest r ks g xs best
best_led r ks g xs all ys lead best is same there found =
    by lead there (subst (λ (zs : List NumberedNode). AreBest r ks g zs best) is (subst (λ (zs : List NumberedNode). AreBest r ks g zs best) same found))
  where
    by : (o : Option NumberedNode) → IfSome o (Among xs) → AreBest r ks g (option_to_list o ++ xs) best → AreBest r ks g xs best
    by None there found = found
    by (Some k) there found = once_best r ks g xs k best there found
