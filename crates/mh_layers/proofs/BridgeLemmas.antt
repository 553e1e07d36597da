-- What nodes cost, and how they are ranked.
use Rattle.std.specs.Prelude.{◌≡◌, ◌⊎◌, ◌<◌, ℕ, zero, suc, ◌+◌, min, max, Bool, true, Option, Some, Result, Ok, refl}
use Rattle.std.proofs.Common.{arith, inl, inr, ap, ◌∙◌, sym, subst}
use Rattle.mh_model.specs.Service.{Service}
use Rattle.mh_laws.specs.Costs as costs
use Rattle.mh_laws.specs.Flow.{Flow}
use Rattle.mh_laws.specs.Layers.{IsOn}
use Rattle.mh_laws.specs.Price.{Price, Nothing, One, Node, Plus, Most, worth, Nodes}
use Rattle.mh_laws.proofs.PriceLemmas.{nodes_both, nodes_map}
use Rattle.mh_layers.specs.CostNode.{CostNode, Effect, Fired, Entry, Change, Leave, Enter, Taken}
use Rattle.mh_layers.specs.Bridge.{CountedIsMet, IsHad, IsRead, NodesAgree, NodesAreExact, NodesCost, node_cost}
use Rattle.mh_layers.specs.CostNodes.{Heard, IsKept, IsMet, level, price_of, stands_for}
use Rattle.mh_layers.specs.Known.{known_worth, told, told_of, top}
use Rattle.mh_layers.proofs.ActAgreeLemmas.{act_agrees}
use Rattle.mh_layers.proofs.AgreeLemmas.{Agrees, IsLow, Setting}
use Rattle.mh_layers.proofs.ExactLemmas.{known_cut}
use Rattle.mh_layers.proofs.FiredLemmas.{emit_agrees}
use Rattle.mh_layers.proofs.FoundLemmas.{present_found}
use Rattle.mh_layers.proofs.NodeAgreeLemmas.{IsOther, effect_agrees, node_agrees, on_kept, on_or_nothing}
use Rattle.mh_layers.proofs.KnownLemmas.{known_same}
use Rattle.mh_layers.proofs.LifeAgreeLemmas.{change_agrees, exchange_agrees, halt_agrees, run_agrees}
use Rattle.mh_layers.proofs.ReckonLemmas.{Way, by_test, by_worth, reckon, reckon_worth}

-- a service that was read, reckoned so
abbrev pub set : {A : Type 0} → Way A → (costs.Effect → A) → (v : Service) (w : Flow) (h : Heard) → IsRead v w h → Setting A
set y f v w h read = record {
  way = y;
  of = f;
  service = v;
  flow = w;
  heard = h;
  good = read.service;
  hears = read.hears;
  found = present_found v read.service read.keys;
}

-- as costs

worth_by : {K : Type 0} (f g : K → ℕ) (p : Price K) → ((k : K) → f k ≡ g k) → reckon by_worth f p ≡ worth g p
worth_by f g Nothing e = refl
worth_by f g One e = refl
worth_by f g (Node k) e = e k
worth_by f g (Plus p q) e = λ i. worth_by f g p e i + worth_by f g q e i
worth_by f g (Most p q) e = λ i. max (worth_by f g p e i) (worth_by f g q e i)

pub comes : (v : Service) (w : Flow) (h : Heard) (read : IsRead v w h) (f : costs.Costing) (n : ℕ) (p : Price CostNode) (q : Price costs.Effect) → Agrees (set by_worth f v w h read) n p q → worth (node_cost v w f) p ≡ worth f q
comes v w h read f n p q a =
    sym (worth_by (λ k. reckon by_worth f (stands_for v w k)) (node_cost v w f) p (λ k. reckon_worth f (stands_for v w k))) ∙ a.same ∙ reckon_worth f q

pub nodes_agree : NodesAgree
nodes_agree v w h read c here = record {
  emit = λ r kind d f. comes v w h read f 4 _ _ (emit_agrees (set by_worth f v w h read) c here r kind d);
  run = λ r f. comes v w h read f 5 _ _ (run_agrees (set by_worth f v w h read) c here r);
  halt = λ r f. comes v w h read f 5 _ _ (halt_agrees (set by_worth f v w h read) c here r);
  change = λ r f. comes v w h read f 4 _ _ (change_agrees (set by_worth f v w h read) 4 (omega arith) c here r);
  exchange = λ g f. comes v w h read f 6 _ _ (exchange_agrees (set by_worth f v w h read) c g);
  act = λ a f. comes v w h read f 6 _ _ (act_agrees (set by_worth f v w h read) c here a);
}

-- What is counted

any_test : costs.Effect → Bool
any_test x = true

low_met : (v : Service) (w : Flow) (h : Heard) (n : ℕ) (p : Price CostNode) → Nodes (IsLow v w h n) p → Nodes (IsMet v w h) p
low_met v w h n p low = nodes_map (IsLow v w h n) (IsMet v w h) (λ k l. l.0) p low

other_met : (v : Service) (w : Flow) (h : Heard) → IsRead v w h → (k : CostNode) → IsOther k → IsKept v w h k → Nodes (IsMet v w h) (price_of v w h k)
other_met v w h read k other kept = low_met v w h (level k) (price_of v w h k) (node_agrees (set by_test any_test v w h read) k other kept).low

pub counted_is_met : CountedIsMet
counted_is_met v w h read (Effect c r n) kept = by (on_or_nothing (set by_test any_test v w h read) c r n kept.0)
  where
    by : IsOn v w (record { config = c; object = r; number = n }) ⊎ (price_of v w h (Effect c r n) ≡ Nothing) → Nodes (IsMet v w h) (price_of v w h (Effect c r n))
    by (inl on) = low_met v w h 6 (price_of v w h (Effect c r n)) (effect_agrees (set by_test any_test v w h read) (record { config = c; object = r; number = n }) on).low
    by (inr none) = subst (λ (p : Price CostNode). Nodes (IsMet v w h) p) (sym none) tt
counted_is_met v w h read (Fired c r kind g) kept = other_met v w h read (Fired c r kind g) tt kept
counted_is_met v w h read (Entry r kind g) kept = other_met v w h read (Entry r kind g) tt kept
counted_is_met v w h read (Change c r) kept = other_met v w h read (Change c r) tt kept
counted_is_met v w h read (Leave c all) kept = other_met v w h read (Leave c all) tt kept
counted_is_met v w h read (Enter c) kept = other_met v w h read (Enter c) tt kept
counted_is_met v w h read (Taken c k) kept = other_met v w h read (Taken c k) tt kept

-- what is met may have a number
pub met_kept : (v : Service) (w : Flow) (h : Heard) → IsRead v w h → (k : CostNode) → IsMet v w h k → IsKept v w h k
met_kept v w h read (Effect c r n) met = on_kept (set by_test any_test v w h read) (record { config = c; object = r; number = n }) met.0
met_kept v w h read (Fired c r kind g) met = met
met_kept v w h read (Entry r kind g) met = met
met_kept v w h read (Change c r) met = met
met_kept v w h read (Leave c all) met = met
met_kept v w h read (Enter c) met = met
met_kept v w h read (Taken c k) met = met

-- Costs

pub nodes_cost : NodesCost
nodes_cost v w h read f cost (Effect c r n) met =
    cost (record { config = c; object = r; number = n }) met.0
    ∙ sym (comes v w h read f 6 (price_of v w h (Effect c r n)) (costs.effect_price v w (record { config = c; object = r; number = n })) (effect_agrees (set by_worth f v w h read) (record { config = c; object = r; number = n }) met.0))
nodes_cost v w h read f cost (Fired c r kind g) met = sym (comes v w h read f _ _ _ (node_agrees (set by_worth f v w h read) (Fired c r kind g) tt met))
nodes_cost v w h read f cost (Entry r kind g) met = sym (comes v w h read f _ _ _ (node_agrees (set by_worth f v w h read) (Entry r kind g) tt met))
nodes_cost v w h read f cost (Change c r) met = sym (comes v w h read f _ _ _ (node_agrees (set by_worth f v w h read) (Change c r) tt met))
nodes_cost v w h read f cost (Leave c all) met = sym (comes v w h read f _ _ _ (node_agrees (set by_worth f v w h read) (Leave c all) tt met))
nodes_cost v w h read f cost (Enter c) met = sym (comes v w h read f _ _ _ (node_agrees (set by_worth f v w h read) (Enter c) tt met))
nodes_cost v w h read f cost (Taken c k) met = sym (comes v w h read f _ _ _ (node_agrees (set by_worth f v w h read) (Taken c k) tt met))

-- what comes to this costs this
pub comes_to : {E : Type 0} (o : Option ℕ) (c : ℕ) (known : Result ℕ E) (n : ℕ) → o ≡ Some c → known ≡ Ok c → known ≡ Ok n → o ≡ Some n
comes_to o c known n e comes is =
    let both = sym comes ∙ is in
    let same : c ≡ n = cc in
    e ∙ ap Some same

pub nodes_are_exact : NodesAreExact
nodes_are_exact v w h read has cost rank named f exact k here met = down (suc (rank k)) k here met (omega arith)
  where
    down : (b : ℕ) (j : CostNode) → has j ≡ true → IsMet v w h j → rank j < b → cost j ≡ Some (min (node_cost v w f j) top)
    down zero j here met less = absurd (omega (arith, less))
    down (suc b) j here met less =
        let known = named.comes j (here, met_kept v w h read j met) in
        comes_to (cost j) known.0 (known_worth (told cost) (price_of v w h j)) (min (node_cost v w f j) top) known.1 known.2
        (known_same (told cost) (λ i. Ok (min (node_cost v w f i) top)) (price_of v w h j)
        (nodes_map (λ (i : CostNode). (IsHad v w h has i × (rank i < rank j)) × IsMet v w h i) (λ (i : CostNode). told cost i ≡ Ok (min (node_cost v w f i) top))
        (λ i l. ap (told_of i) (down b i l.0.0.0 l.1 (lower (rank i) (rank j) b l.0.1 less))) (price_of v w h j)
        (nodes_both (λ (i : CostNode). IsHad v w h has i × (rank i < rank j)) (IsMet v w h) (price_of v w h j) (named.falls j (here, met_kept v w h read j met)) (counted_is_met v w h read j (met_kept v w h read j met))))
        ∙ known_cut (node_cost v w f) (price_of v w h j)
        ∙ ap (λ (n : ℕ). Ok (min n top)) (sym (nodes_cost v w h read f exact j met)))
      where
        lower : (x y n : ℕ) → x < y → y < suc n → x < n
        lower x y n l m = omega (arith, l, m)
