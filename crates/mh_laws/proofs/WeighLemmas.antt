-- What prices come to, with weights.
use Rattle.std.specs.Prelude.{◌≤◌, List}
use Rattle.mh_laws.specs.Costs.{Effect}
use Rattle.mh_laws.specs.Each.{Among}
use Rattle.mh_laws.specs.Price.{Price, most_price}
use Rattle.mh_laws.specs.Weighing.{Weights, worth}
use Rattle.mh_laws.proofs.PriceLemmas as lemmas

pub among_most : {X : Type 0} (f : Weights) (g : X → Price Effect) (xs : List X) (x : X) → Among xs x → worth f (g x) ≤ worth f (most_price g xs)
among_most f g xs x h = lemmas.among_most f.cost g xs x h

pub most_less : {X : Type 0} (f : Weights) (g h : X → Price Effect) → ((x : X) → worth f (g x) ≤ worth f (h x)) → (xs : List X) → worth f (most_price g xs) ≤ worth f (most_price h xs)
most_less f g h less xs = lemmas.most_less f.cost g h less xs
