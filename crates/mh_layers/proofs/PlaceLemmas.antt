-- What stands at the places of nodes.
use Rattle.std.specs.Prelude.{◌≡◌, ◌⊎◌, ◌<◌, ℕ, zero, suc, ◌+◌, Bool, true, false, cond, [], ◌∷◌, length, Option, Some, None, is_some, refl}
use Rattle.std.proofs.Common.{arith, inl, inr, ap, ◌∙◌, sym, subst}
use Rattle.indexmap.specs.IndexMap.{insert_entry}
use Rattle.mh_layers.specs.declared.laying.costs.Laid.{Laid}
use Rattle.mh_layers.specs.declared.numbered_node.NumberedNode.{NumberedNode}
use Rattle.mh_layers.specs.Layering.{Places, place_in, has_place, cost_of, node_at, free, is_free}
use Rattle.mh_layers.specs.NumberedNodes.{same_node}
use Rattle.mh_layers.specs.NumberedNodeLaws.{nodes_are_apart, node_itself}

-- what stands there once something is put at the place of a node
pub put_cases : (ts : Places) (k j : NumberedNode) (v : Option Laid) → ((j ≡ k) × (place_in (insert_entry same_node ts k v) j ≡ Some v)) ⊎ (place_in (insert_entry same_node ts k v) j ≡ place_in ts j)
put_cases [] k j v = by (same_node j k) (nodes_are_apart j k)
  where
    by : (b : Bool) → (b ≡ true → j ≡ k) → ((j ≡ k) × (cond b (Some v) None ≡ Some v)) ⊎ (cond b (Some v) None ≡ None)
    by true same = inl (same refl, refl)
    by false same = inr refl
put_cases (e ∷ ts) k j v = by (same_node k e.0) (same_node j e.0) (nodes_are_apart k e.0) (nodes_are_apart j e.0) refl (put_cases ts k j v)
  where
    rest : Places
    rest = insert_entry same_node ts k v

    by : (b c : Bool) → (b ≡ true → k ≡ e.0) → (c ≡ true → j ≡ e.0) → same_node j e.0 ≡ c → ((j ≡ k) × (place_in rest j ≡ Some v)) ⊎ (place_in rest j ≡ place_in ts j) →
        ((j ≡ k) × (place_in (cond b ((e.0, v) ∷ ts) (e ∷ rest)) j ≡ Some v)) ⊎ (place_in (cond b ((e.0, v) ∷ ts) (e ∷ rest)) j ≡ cond c (Some e.1) (place_in ts j))
    by true true s t is behind = inl (t refl ∙ sym (s refl), ap (λ (b : Bool). cond b (Some v) (place_in ts j)) is)
    by true false s t is behind = inr (ap (λ (b : Bool). cond b (Some v) (place_in ts j)) is)
    by false true s t is behind = inr (ap (λ (b : Bool). cond b (Some e.1) (place_in rest j)) is)
    by false false s t is (inl h) = inl (h.0, ap (λ (b : Bool). cond b (Some e.1) (place_in rest j)) is ∙ h.1)
    by false false s t is (inr h) = inr (ap (λ (b : Bool). cond b (Some e.1) (place_in rest j)) is ∙ h)

pub put_here : (ts : Places) (k : NumberedNode) (v : Option Laid) → place_in (insert_entry same_node ts k v) k ≡ Some v
put_here [] k v = ap (λ (b : Bool). cond b (Some v) None) (node_itself k)
put_here (e ∷ ts) k v = by (same_node k e.0) refl (put_here ts k v)
  where
    rest : Places
    rest = insert_entry same_node ts k v

    by : (b : Bool) → same_node k e.0 ≡ b → place_in rest k ≡ Some v → place_in (cond b ((e.0, v) ∷ ts) (e ∷ rest)) k ≡ Some v
    by true is behind = ap (λ (b : Bool). cond b (Some v) (place_in ts k)) is
    by false is behind = ap (λ (b : Bool). cond b (Some e.1) (place_in rest k)) is ∙ behind

-- a place is given behind all
pub put_new : (ts : Places) (k : NumberedNode) (v : Option Laid) → place_in ts k ≡ None → (length (insert_entry same_node ts k v) ≡ suc (length ts)) × (free (insert_entry same_node ts k v) ≡ is_free v + free ts)
put_new [] k v none = (refl, refl)
put_new (e ∷ ts) k v none = by (same_node k e.0) none (put_new ts k v)
  where
    rest : Places
    rest = insert_entry same_node ts k v

    by : (b : Bool) → cond b (Some e.1) (place_in ts k) ≡ None → (place_in ts k ≡ None → (length rest ≡ suc (length ts)) × (free rest ≡ is_free v + free ts)) →
        (length (cond b ((e.0, v) ∷ ts) (e ∷ rest)) ≡ suc (suc (length ts))) × (free (cond b ((e.0, v) ∷ ts) (e ∷ rest)) ≡ is_free v + (is_free e.1 + free ts))
    by true h behind = absurd cc
    by false h behind = let more = behind h in let sums = more.1 in (ap suc more.0, omega (arith, sums))

-- and what has one keeps it
pub put_old : (ts : Places) (k : NumberedNode) (u v : Option Laid) → place_in ts k ≡ Some u → (length (insert_entry same_node ts k v) ≡ length ts) × (is_free u + free (insert_entry same_node ts k v) ≡ is_free v + free ts)
put_old [] k u v some = absurd cc
put_old (e ∷ ts) k u v some = by (same_node k e.0) some (put_old ts k u v)
  where
    rest : Places
    rest = insert_entry same_node ts k v

    one : (a b : Option Laid) → Some a ≡ Some b → is_free a ≡ is_free b
    one a b h = let same : a ≡ b = cc in ap is_free same

    by : (b : Bool) → cond b (Some e.1) (place_in ts k) ≡ Some u → (place_in ts k ≡ Some u → (length rest ≡ length ts) × (is_free u + free rest ≡ is_free v + free ts)) →
        (length (cond b ((e.0, v) ∷ ts) (e ∷ rest)) ≡ suc (length ts)) × (is_free u + free (cond b ((e.0, v) ∷ ts) (e ∷ rest)) ≡ is_free v + (is_free e.1 + free ts))
    by true h behind = let same = one e.1 u h in (refl, omega (arith, same))
    by false h behind = let more = behind h in let sums = more.1 in (ap suc more.0, omega (arith, sums))

-- the node of a place has one
pub node_at_there : (ts : Places) (n : ℕ) (k : NumberedNode) → node_at ts n ≡ Some k → has_place ts k ≡ true
node_at_there [] n k e = absurd cc
node_at_there (t ∷ ts) zero k e = by t.0 e
  where
    one : (a b : NumberedNode) → Some a ≡ Some b → a ≡ b
    one a b h = cc

    by : (j : NumberedNode) → Some t.0 ≡ Some k → is_some (cond (same_node k t.0) (Some t.1) (place_in ts k)) ≡ true
    by j h = ap (λ (b : Bool). is_some (cond b (Some t.1) (place_in ts k))) (subst (λ (j : NumberedNode). same_node k j ≡ true) (sym (one t.0 k h)) (node_itself k))
node_at_there (t ∷ ts) (suc n) k e = by (same_node k t.0) (node_at_there ts n k e)
  where
    by : (b : Bool) → has_place ts k ≡ true → is_some (cond b (Some t.1) (place_in ts k)) ≡ true
    by true h = refl
    by false h = h

-- and what has one is the node of a place
pub there_node : (ts : Places) (k : NumberedNode) → has_place ts k ≡ true → (n : ℕ) × (n < length ts) × (node_at ts n ≡ Some k)
there_node [] k has = absurd cc
there_node (t ∷ ts) k has = by (same_node k t.0) (nodes_are_apart k t.0) has (there_node ts k)
  where
    by : (b : Bool) → (b ≡ true → k ≡ t.0) → is_some (cond b (Some t.1) (place_in ts k)) ≡ true → (has_place ts k ≡ true → (n : ℕ) × (n < length ts) × (node_at ts n ≡ Some k)) → (n : ℕ) × (n < suc (length ts)) × (node_at (t ∷ ts) n ≡ Some k)
    by true same h behind = (0, omega arith, ap Some (sym (same refl)))
    by false same h behind = let found = behind h in let less = found.1 in (suc found.0, omega (arith, less), found.2)

pub none_cost : (o : Option Laid) → cost_of o ≡ None → o ≡ None
none_cost None e = refl
none_cost (Some x) e = absurd cc

pub cost_laid : (o : Option Laid) (a : ℕ) → cost_of o ≡ Some a → (x : Laid) × (o ≡ Some x)
cost_laid None a e = absurd cc
cost_laid (Some x) a e = (x, refl)
