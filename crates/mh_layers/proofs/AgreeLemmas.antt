-- A price over nodes agrees with one over effects: with what its nodes stand for it is reckoned to the same, and each node that it
-- counts is met, and of a lower level.
use Rattle.std.specs.Prelude.{◌≡◌, ◌<◌, ◌≤◌, ℕ, Bool, true, false, List, [], ◌∷◌, Some, refl}
use Rattle.std.proofs.Common.{arith, inl, inr, ◌∙◌, subst}
use Rattle.mh_base.specs.declared.obj_ref.ObjRef.{ObjRef}
use Rattle.mh_model.specs.declared.config.Config.{Config}
use Rattle.mh_model.specs.declared.object.Fixed.{Fixed}
use Rattle.mh_model.specs.Configuration.{is_service, present}
use Rattle.mh_model.specs.Service.{Service, part_at}
use Rattle.mh_laws.specs.Costs as costs
use Rattle.mh_laws.specs.Each.{Among}
use Rattle.mh_laws.specs.Flow.{Flow}
use Rattle.mh_laws.specs.Price.{Price, Nothing, One, Node, Plus, Most, sum_price, most_price, if_price, Nodes}
use Rattle.mh_layers.specs.CostNode.{CostNode}
use Rattle.mh_layers.specs.CostNodes.{Heard, HearsAll, IsMet, level, stands_for}
use Rattle.mh_laws.proofs.PriceLemmas.{nodes_map}
use Rattle.mh_prices.proofs.NearLemmas.{NearSets, Passes}
use Rattle.mh_layers.proofs.ReckonLemmas.{Way, reckon}

-- a service that was read, a flow, what is heard there, and a way to reckon
pub record Setting (A : Type 0) : Type 0 where
  pub way : Way A
  pub of : costs.Effect → A
  pub service : Service
  pub flow : Flow
  pub heard : Heard
  pub good : is_service service ≡ true
  pub hears : HearsAll service flow heard
  pub found : (c : Config) (p : Fixed) → Among (present service c) p → part_at p.key (present service c) ≡ Some p

abbrev pub effects_come : {A : Type 0} → Setting A → Price costs.Effect → A
effects_come s q = reckon s.way s.of q

abbrev pub nodes_come : {A : Type 0} → Setting A → Price CostNode → A
nodes_come s p = reckon s.way (λ k. effects_come s (stands_for s.service s.flow k)) p

abbrev pub IsLow : Service → Flow → Heard → ℕ → CostNode → Type 0
IsLow v w h n k = IsMet v w h k × (level k < n)

pub record Agrees {A : Type 0} (s : Setting A) (n : ℕ) (p : Price CostNode) (q : Price costs.Effect) : Type 0 where
  pub same : nodes_come s p ≡ effects_come s q
  pub low : Nodes (IsLow s.service s.flow s.heard n) p

pub agrees_nothing : {A : Type 0} (s : Setting A) (n : ℕ) → Agrees s n Nothing Nothing
agrees_nothing s n = record { same = refl; low = tt }

pub agrees_one : {A : Type 0} (s : Setting A) (n : ℕ) → Agrees s n One One
agrees_one s n = record { same = refl; low = tt }

pub agrees_node : {A : Type 0} (s : Setting A) (n : ℕ) (k : CostNode) → IsMet s.service s.flow s.heard k → level k < n → Agrees s n (Node k) (stands_for s.service s.flow k)
agrees_node s n k met less = record { same = refl; low = (met, less) }

pub agrees_plus : {A : Type 0} (s : Setting A) (n : ℕ) (p o : Price CostNode) (q u : Price costs.Effect) → Agrees s n p q → Agrees s n o u → Agrees s n (Plus p o) (Plus q u)
agrees_plus s n p o q u a b = record { same = λ i. s.way.plus (a.same i) (b.same i); low = (a.low, b.low) }

pub agrees_most : {A : Type 0} (s : Setting A) (n : ℕ) (p o : Price CostNode) (q u : Price costs.Effect) → Agrees s n p q → Agrees s n o u → Agrees s n (Most p o) (Most q u)
agrees_most s n p o q u a b = record { same = λ i. s.way.most (a.same i) (b.same i); low = (a.low, b.low) }

pub agrees_then : {A : Type 0} (s : Setting A) (n : ℕ) (p : Price CostNode) (q u : Price costs.Effect) → Agrees s n p q → effects_come s q ≡ effects_come s u → Agrees s n p u
agrees_then s n p q u a e = record { same = a.same ∙ e; low = a.low }

pub agrees_wider : {A : Type 0} (s : Setting A) (n m : ℕ) (p : Price CostNode) (q : Price costs.Effect) → n ≤ m → Agrees s n p q → Agrees s m p q
agrees_wider s n m p q more a = record {
  same = a.same;
  low =
      nodes_map (IsLow s.service s.flow s.heard n) (IsLow s.service s.flow s.heard m) (λ k low. (low.0, lower (level k) low.1)) p a.low;
}
  where
    lower : (l : ℕ) → l < n → l < m
    lower l less = omega (arith, less, more)

pub agrees_if : {A : Type 0} (s : Setting A) (n : ℕ) (b : Bool) (p : Price CostNode) (q : Price costs.Effect) → (b ≡ true → Agrees s n p q) → Agrees s n (if_price b p) (if_price b q)
agrees_if s n true p q a = a refl
agrees_if s n false p q a = agrees_nothing s n

-- Sums and maxima over lists

pub agrees_sum : {A X : Type 0} (s : Setting A) (n : ℕ) (g : X → Price CostNode) (h : X → Price costs.Effect) (xs : List X) → ((x : X) → Among xs x → Agrees s n (g x) (h x)) → Agrees s n (sum_price g xs) (sum_price h xs)
agrees_sum s n g h [] each = agrees_nothing s n
agrees_sum s n g h (x ∷ xs) each =
    agrees_plus s n (g x) (sum_price g xs) (h x) (sum_price h xs) (each x (inl refl)) (agrees_sum s n g h xs (λ z there. each z (inr there)))

pub agrees_largest : {A X : Type 0} (s : Setting A) (n : ℕ) (g : X → Price CostNode) (h : X → Price costs.Effect) (xs : List X) → ((x : X) → Among xs x → Agrees s n (g x) (h x)) → Agrees s n (most_price g xs) (most_price h xs)
agrees_largest s n g h [] each = agrees_nothing s n
agrees_largest s n g h (x ∷ xs) each =
    agrees_most s n (g x) (most_price g xs) (h x) (most_price h xs) (each x (inl refl)) (agrees_largest s n g h xs (λ z there. each z (inr there)))

-- Views

pub agrees_passes : {A : Type 0} (s : Setting A) (n : ℕ) → Passes (Agrees s n)
agrees_passes s n = record { nothing = agrees_nothing s n; one = agrees_one s n; plus = agrees_plus s n; most = agrees_most s n }

-- the sets of both are the same
abbrev pub SameSets : List ObjRef → List ObjRef → Type 0
SameSets rs ss = rs ≡ ss

pub agrees_sets : {A : Type 0} (s : Setting A) (n : ℕ) → NearSets (λ r. Agrees s n) (Agrees s n) SameSets
agrees_sets s n = record {
  sums = λ f g each rs ss e. subst (λ (t : List ObjRef). Agrees s n (sum_price f rs) (sum_price g t)) e (agrees_sum s n f g rs (λ r there. each r));
  largest = λ f g each rs ss e. subst (λ (t : List ObjRef). Agrees s n (most_price f rs) (most_price g t)) e (agrees_largest s n f g rs (λ r there. each r));
}
