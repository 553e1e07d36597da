-- What a list of items costs in front of others.
use Rattle.std.specs.Prelude.{◌++◌, ◌+◌, ◌∷◌, ◌≡◌, ◌≤◌, List, [], ℕ}
use Rattle.std.proofs.Common.{append_assoc, arith, subst, sym}
use Rattle.mh_model.specs.declared.act.Act.{Act}
use Rattle.mh_model.specs.declared.config.Config.{Config}
use Rattle.mh_model.specs.declared.item.Item.{Item}
use Rattle.mh_model.specs.Items.{acts}
use Rattle.mh_model.specs.Service.{Service}
use Rattle.mh_laws.specs.Costs.{act}
use Rattle.mh_laws.specs.Flow.{Flow}
use Rattle.mh_laws.specs.Weighing.{Weights, acts_cost, work_cost, worth}

abbrev pub Fits : Service → Flow → Weights → Config → List Item → ℕ → Type 0
Fits v w f c is n = (rest : List Item) → work_cost v w f c (is ++ rest) ≤ n + work_cost v w f c rest

chained : (a b c n m : ℕ) → a ≤ n + b → b ≤ m + c → a ≤ n + m + c
chained a b c n m h k = omega (arith, h, k)

weaker : (a c n m : ℕ) → a ≤ n + c → n ≤ m → a ≤ m + c
weaker a c n m h k = omega (arith, h, k)

pub next : (a b c n : ℕ) → b ≤ n + c → a + b ≤ a + n + c
next a b c n h = omega (arith, h)

pub nothing : (a n : ℕ) → a ≤ n + a
nothing a n = omega arith

pub fits_none : (v : Service) (w : Flow) (f : Weights) (c : Config) (n : ℕ) → Fits v w f c [] n
fits_none v w f c n rest = nothing (work_cost v w f c rest) n

pub fits_both : (v : Service) (w : Flow) (f : Weights) (c : Config) (is js : List Item) (n m : ℕ) → Fits v w f c is n → Fits v w f c js m → Fits v w f c (is ++ js) (n + m)
fits_both v w f c is js n m h k rest =
    subst (λ (t : List Item). work_cost v w f c t ≤ n + m + work_cost v w f c rest) (sym (append_assoc is js rest))
    (chained _ _ _ n m (h (js ++ rest)) (k rest))

pub fits_less : (v : Service) (w : Flow) (f : Weights) (c : Config) (is : List Item) (n m : ℕ) → n ≤ m → Fits v w f c is n → Fits v w f c is m
fits_less v w f c is n m less h rest = weaker _ _ n m (h rest) less

pub fits_as : (v : Service) (w : Flow) (f : Weights) (c : Config) (is js : List Item) (n : ℕ) → is ≡ js → Fits v w f c js n → Fits v w f c is n
fits_as v w f c is js n same h = subst (λ (t : List Item). Fits v w f c t n) (sym same) h

pub acts_fit : (v : Service) (w : Flow) (f : Weights) (c : Config) (e : List Act) → Fits v w f c (acts e) (acts_cost v w f c e)
acts_fit v w f c [] rest = nothing (work_cost v w f c rest) 0
acts_fit v w f c (a ∷ e) rest = next (worth f (act v w c a) + f.mark c a) _ _ _ (acts_fit v w f c e rest)
