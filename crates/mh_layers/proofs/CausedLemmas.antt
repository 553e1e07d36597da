-- The nodes that a node counts, at once or by way of nodes that are no effects, are found one after another.
use Rattle.std.specs.Prelude.{◌≡◌, ◌⊎◌, ◌<◌, ◌≤◌, ◌+◌, ℕ, zero, suc, true, false, List, [], ◌∷◌, slice_get, Some, None, refl}
use Rattle.indexmap.specs.IndexSet.{insert_all}
use Rattle.std.proofs.Common.{arith, inl, inr, ap, ◌∙◌, sym, subst, true≢false}
use Rattle.mh_model.proofs.ListLemmas.{some_same}
use Rattle.mh_laws.specs.Each.{Among, Each}
use Rattle.mh_laws.proofs.EachLemmas.{among_each, each_among, got_among}
use Rattle.mh_layers.specs.declared.numbered_node.NumberedNode.{NumberedNode}
use Rattle.mh_layers.specs.CostNode.{CostNode, Effect}
use Rattle.mh_layers.specs.Successors.{Stays}
use Rattle.mh_layers.specs.Caused.{AreOpened, AreReached, IsCounted, IsNamed, IsOpened, IsPut}
use Rattle.mh_layers.specs.Causing as causing
use Rattle.mh_layers.specs.Causing.{Counts, is_effect}
use Rattle.mh_layers.specs.CostNodes.{IsKept}
use Rattle.mh_layers.specs.NumberedNodes.{same_node}
use Rattle.mh_layers.specs.NumberedNodeLaws.{node_itself}
use Rattle.mh_layers.specs.Reading.{IsReading, Reading, flow_read, heard_read, kept, name, number}
use Rattle.mh_layers.specs.Stretches.{is_effect_node}
use Rattle.mh_layers.specs.NodeGraph.{counted}
use Rattle.mh_layers.proofs.SuccessorLemmas.{among_got, any_among, each_put, stays_all, stays_among}
use Rattle.mh_layers.proofs.BridgeLemmas.{met_kept}
use Rattle.mh_layers.proofs.CausingLemmas.{counted_kept}
use Rattle.mh_layers.proofs.ChainLemmas.{counts_met, counts_more}
use Rattle.mh_layers.proofs.PositionLemmas.{put_all}
use Rattle.mh_layers.proofs.ReadingLemmas.{numbers_are_names}
use Rattle.mh_layers.proofs.ServeLemmas.{read_of}
use Rattle.mh_layers.proofs.NodeGraphLemmas.{Kept, counts_number, number_counts}

-- PLACES

pub before_or_at : (m n : ℕ) → m < n + 1 → (m < n) ⊎ (m ≡ n)
before_or_at zero zero h = inr refl
before_or_at zero (suc n) h = inl (omega arith)
before_or_at (suc m) zero h = absurd (omega (arith, h))
before_or_at (suc m) (suc n) h = by (before_or_at m n (omega (arith, h)))
  where
    by : (m < n) ⊎ (m ≡ n) → (suc m < suc n) ⊎ (suc m ≡ suc n)
    by (inl l) = inl (omega (arith, l))
    by (inr e) = inr (ap suc e)

got_before : {X : Type 0} (xs : List X) (m n : ℕ) (x : X) → slice_get xs n ≡ Some x → m ≤ n → (y : X) × (slice_get xs m ≡ Some y)
got_before [] m n x at le = absurd cc
got_before (y ∷ xs) zero n x at le = (y, refl)
got_before (y ∷ xs) (suc m) zero x at le = absurd (omega (arith, le))
got_before (y ∷ xs) (suc m) (suc n) x at le = got_before xs m n x at (omega (arith, le))

got_below : {X : Type 0} (xs : List X) (m n : ℕ) (x : X) → slice_get xs m ≡ Some x → slice_get xs n ≡ None → m < n
got_below [] m n x at past = absurd cc
got_below (y ∷ xs) zero zero x at past = absurd cc
got_below (y ∷ xs) zero (suc n) x at past = omega arith
got_below (y ∷ xs) (suc m) zero x at past = absurd cc
got_below (y ∷ xs) (suc m) (suc n) x at past = let less = got_below xs m n x at past in omega (arith, less)

-- NUMBERS OF NODES

pub same_number : (r : Reading) (y : CostNode) → is_effect_node (number r y) ≡ is_effect y
same_number r (Effect c o n) = refl
same_number r y = refl

pub counted_has : (r : Reading) → IsReading r → (root k : NumberedNode) → IsNamed r root → (is : IsCounted r root k) → Kept r is.of
counted_has r read root k named is =
    met_kept r.service (flow_read r) (heard_read r) (read_of r read) is.of
    (counts_met r.service (flow_read r) (heard_read r) (read_of r read) (name r root) is.of named.has is.counts)

-- what is counted is named
pub counted_named : (r : Reading) → IsReading r → (root k : NumberedNode) → IsNamed r root → IsCounted r root k → IsNamed r k
counted_named r read root k named is =
    let has = counted_has r read root k named is in
    let back = (numbers_are_names r read).back is.of has in
    let own : name r k ≡ is.of = ap (name r) (sym is.told) ∙ back in
    record { back = ap (number r) own ∙ is.told; has = subst (IsKept r.service (flow_read r) (heard_read r)) (sym own) has }

-- what the root counts at once
counted_once : (r : Reading) → IsReading r → (root : NumberedNode) → IsNamed r root → (j : NumberedNode) → Among (counted r root) j → IsCounted r root j
counted_once r read root named j there =
    let at = number_counts r read (name r root) named.has j (subst (λ (k : NumberedNode). Among (counted r k) j) (sym named.back) there) in
    record { of = at.0; counts = causing.once (name r root) at.0 at.1; told = at.2 }

-- and by way of one that is no effect
counted_on : (r : Reading) → IsReading r → (root k : NumberedNode) → IsNamed r root → IsCounted r root k → is_effect_node k ≡ false → (j : NumberedNode) → Among (counted r k) j → IsCounted r root j
counted_on r read root k named is quiet j there =
    let at = number_counts r read is.of (counted_has r read root k named is) j (subst (λ (i : NumberedNode). Among (counted r i) j) (sym is.told) there) in
    let other : is_effect is.of ≡ false = sym (same_number r is.of) ∙ ap is_effect_node is.told ∙ quiet in
    record {
      of = at.0;
      counts = counts_more r.service (flow_read r) (heard_read r) (name r root) is.of at.0 is.counts other at.1;
      told = at.2;
    }

-- ONE MORE

put_among : (old row new : List NumberedNode) → new ≡ insert_all same_node old row → (j : NumberedNode) → Among row j → Among new j
put_among old row new now j there =
    subst (λ (ks : List NumberedNode). Among ks j) (sym now) (any_among (insert_all same_node old row) j (put_all same_node node_itself old row j there))

each_new : (r : Reading) (root : NumberedNode) (old row new : List NumberedNode) → new ≡ insert_all same_node old row → ((j : NumberedNode) → Among old j → IsCounted r root j) → ((j : NumberedNode) → Among row j → IsCounted r root j) → (j : NumberedNode) → Among new j → IsCounted r root j
each_new r root old row new now olds rows j there =
    each_among (IsCounted r root) new j
    (subst (Each (IsCounted r root)) (sym now) (each_put (IsCounted r root) old row (among_each (IsCounted r root) old olds) (among_each (IsCounted r root) row rows))) there

pub opened_first : (r : Reading) → IsReading r → (root : NumberedNode) (old new : List NumberedNode) → IsNamed r root → old ≡ [] → IsPut r root old new → AreOpened r root new 0
opened_first r read root old new named none put = record {
  each = each_new r root old put.row new put.now (λ j there. let never : false ≡ true = subst (λ (ks : List NumberedNode). Among ks j) none there in absurd cc)
      (λ j there. counted_once r read root named j (put.are.each named.has j there));
  first = λ j there. put_among old put.row new put.now j (put.are.all named.has j there);
  opened = λ m k less. absurd (omega (arith, less));
}

opened_step : (r : Reading) (root : NumberedNode) (n : ℕ) (old new : List NumberedNode) (k : NumberedNode) → slice_get old n ≡ Some k → AreOpened r root old n → Stays old new → ((j : NumberedNode) → Among new j → IsCounted r root j)
    → (is_effect_node k ≡ false → (j : NumberedNode) → Among (counted r k) j → Among new j) → AreOpened r root new (n + 1)
opened_step r root n old new k at are stays each own = record {
  each = each;
  first = λ j there. stays_among old new stays j (are.first j there);
  opened = λ m i less here quiet j there. by m i here quiet j there (before_or_at m n less);
}
  where
    same_there : (m : ℕ) (i y : NumberedNode) → slice_get new m ≡ Some i → slice_get old m ≡ Some y → y ≡ i
    same_there m i y here before = some_same (sym (stays.each m y before) ∙ here)

    before : (m : ℕ) (i : NumberedNode) → slice_get new m ≡ Some i → m < n → slice_get old m ≡ Some i
    before m i here less =
        let got = got_before old m n k at (omega (arith, less)) in
        got.1 ∙ ap (λ (y : NumberedNode). Some y) (same_there m i got.0 here got.1)

    by : (m : ℕ) (i : NumberedNode) → slice_get new m ≡ Some i → is_effect_node i ≡ false → (j : NumberedNode) → Among (counted r i) j → (m < n) ⊎ (m ≡ n) → Among new j
    by m i here quiet j there (inl less) = stays_among old new stays j (are.opened m i less (before m i here less) quiet j there)
    by m i here quiet j there (inr same) =
        let is : k ≡ i = same_there n i k (subst (λ (l : ℕ). slice_get new l ≡ Some i) same here) at in
        own (ap is_effect_node is ∙ quiet) j (subst (λ (l : NumberedNode). Among (counted r l) j) (sym is) there)

pub opened_other : (r : Reading) → IsReading r → (n : ℕ) (old new : List NumberedNode) (k : NumberedNode) → slice_get old n ≡ Some k → is_effect_node k ≡ false → IsPut r k old new → IsOpened r n old new
opened_other r read n old new k at quiet put = record {
  more = λ root named are.
      let is = are.each k (got_among old n k at) in
      let has = (counted_named r read root k named is).has in
      opened_step r root n old new k at are (stays_all old new put.row put.now)
      (each_new r root old put.row new put.now are.each (λ j there. counted_on r read root k named is quiet j (put.are.each has j there)))
      (λ other j there. put_among old put.row new put.now j (put.are.all has j there));
}

stays_so : (ks : List NumberedNode) → Stays ks ks
stays_so ks = record { each = λ n k e. e }

pub opened_effect : (r : Reading) (n : ℕ) (old : List NumberedNode) (k : NumberedNode) → slice_get old n ≡ Some k → is_effect_node k ≡ true → IsOpened r n old old
opened_effect r n old k at effect = record {
  more = λ root named are. opened_step r root n old old k at are (stays_so old) are.each (λ quiet. absurd (true≢false (sym effect ∙ quiet)));
}

pub opened_none : (r : Reading) (n : ℕ) (old : List NumberedNode) → slice_get old n ≡ None → IsOpened r n old old
opened_none r n old past = record {
  more = λ root named are. record {
    each = are.each;
    first = are.first;
    opened = λ m k less at quiet j there. are.opened m k (got_below old m n k at past) at quiet j there;
  };
}

-- what was found so far is kept, and all that was found

pub opened_kept : (r : Reading) → IsReading r → (root : NumberedNode) (js : List NumberedNode) (n : ℕ) → IsNamed r root → AreOpened r root js n → Each (kept r) js
opened_kept r read root js n named are = among_each (kept r) js (λ j there. (counted_named r read root j named (are.each j there)).has)

pub reached_kept : (r : Reading) → IsReading r → (root : NumberedNode) (js : List NumberedNode) → IsNamed r root → AreReached r root js → Each (kept r) js
reached_kept r read root js named are = among_each (kept r) js (λ j there. (counted_named r read root j named (are.each j there)).has)

-- ALL

goes : (r : Reading) → IsReading r → (js : List NumberedNode) → ((k : NumberedNode) → Among js k → is_effect_node k ≡ false → (j : NumberedNode) → Among (counted r k) j → Among js j)
    → (k y : CostNode) → Kept r k → ((j : NumberedNode) → Among (counted r (number r k)) j → Among js j) → Counts r.service (flow_read r) (heard_read r) k y → Among js (number r y)
goes r read js opened k y has all (causing.once a b there) = all (number r y) (counts_number r read k has y there)
goes r read js opened k y has all (causing.onward a i b there quiet more) =
    goes r read js opened i y (counted_kept r.service (flow_read r) (heard_read r) (read_of r read) k i has there)
    (opened (number r i) (all (number r i) (counts_number r read k has i there)) (same_number r i ∙ quiet)) more

pub all_opened : (r : Reading) → IsReading r → (root : NumberedNode) (js : List NumberedNode) (n : ℕ) → IsNamed r root → AreOpened r root js (n + 1) → slice_get js n ≡ None → AreReached r root js
all_opened r read root js n named are past = record {
  each = are.each;
  all = λ y counts.
      goes r read js opened (name r root) y named.has
      (λ j there. are.first j (subst (λ (k : NumberedNode). Among (counted r k) j) named.back there)) counts;
}
  where
    opened : (k : NumberedNode) → Among js k → is_effect_node k ≡ false → (j : NumberedNode) → Among (counted r k) j → Among js j
    opened k there quiet =
        let at = among_got js k there in
        let less = got_below js at.0 n k at.1 past in
        are.opened at.0 k (omega (arith, less)) at.1 quiet
