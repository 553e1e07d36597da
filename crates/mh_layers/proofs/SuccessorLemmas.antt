-- The nodes that are counted, and the rows of all that are met on.
use Rattle.std.specs.Prelude.{◌≡◌, ◌⊎◌, ℕ, zero, suc, Bool, true, false, cond, List, [], ◌∷◌, ◌++◌, length, slice_get, Some, Vec, refl}
use Rattle.std.specs.List.{list_any}
use Rattle.std.specs.declared.alloc.Global.{Global}
use Rattle.std.proofs.Common.{inl, inr, ap, sym, subst}
use Rattle.indexmap.specs.IndexSet.{insert_key, insert_all}
use Rattle.mh_model.proofs.ListLemmas.{some_same}
use Rattle.mh_laws.specs.Each.{Among, Each}
use Rattle.mh_laws.specs.Price.{Price, counted_in}
use Rattle.mh_laws.proofs.EachLemmas.{among_each, each_among, each_joined, got_among}
use Rattle.mh_laws.proofs.PriceLemmas.{of_nodes}
use Rattle.mh_layers.specs.declared.numbered_node.NumberedNode.{NumberedNode}
use Rattle.mh_layers.specs.Successors.{AreCounted, AreRows, Stays}
use Rattle.mh_layers.specs.Layering.{CountsKept}
use Rattle.mh_layers.specs.NumberedNodes.{same_node}
use Rattle.mh_layers.specs.NumberedNodeLaws.{nodes_are_apart, node_itself}
use Rattle.mh_layers.proofs.PositionLemmas.{TellsOne, position_is, position_there, put_all}

-- COUNTED

-- what is told in one pass are the nodes that are counted
pub counted_so : (price : NumberedNode → Price NumberedNode) (kept : NumberedNode → Type 0) (k : NumberedNode) (js : List NumberedNode) → js ≡ counted_in (price k) → AreCounted price kept k js
counted_so price kept k js is = record {
  each = λ has j there. subst (λ (xs : List NumberedNode). Among xs j) is there;
  all = λ has j there. subst (λ (xs : List NumberedNode). Among xs j) (sym is) there;
}

-- ROWS

pub tells_nodes : TellsOne same_node
tells_nodes = record { itself = node_itself; one = nodes_are_apart }

got_left : {X : Type 0} (xs ys : List X) (n : ℕ) (x : X) → slice_get xs n ≡ Some x → slice_get (xs ++ ys) n ≡ Some x
got_left [] ys n x h = absurd cc
got_left (z ∷ xs) ys zero x h = h
got_left (z ∷ xs) ys (suc n) x h = got_left xs ys n x h

pub got_pushed : {X : Type 0} (xs : List X) (y : X) (n : ℕ) (x : X) → slice_get (xs ++ y ∷ []) n ≡ Some x → (slice_get xs n ≡ Some x) ⊎ ((n ≡ length xs) × (y ≡ x))
got_pushed [] y zero x h = inr (refl, some_same h)
got_pushed [] y (suc n) x h = absurd cc
got_pushed (z ∷ xs) y zero x h = inl h
got_pushed {X} (z ∷ xs) y (suc n) x h = by (got_pushed xs y n x h)
  where
    by : (slice_get xs n ≡ Some x) ⊎ ((n ≡ length xs) × (y ≡ x)) → (slice_get xs n ≡ Some x) ⊎ ((suc n ≡ suc (length xs)) × (y ≡ x))
    by (inl k) = inl k
    by (inr k) = inr (ap suc k.0, k.1)

pub among_got : {X : Type 0} (xs : List X) (x : X) → Among xs x → (n : ℕ) × (slice_get xs n ≡ Some x)
among_got [] x there = absurd cc
among_got (y ∷ xs) x (inl same) = (0, ap Some same)
among_got (y ∷ xs) x (inr more) = let at = among_got xs x more in (suc at.0, at.1)

pub any_among : (ks : List NumberedNode) (k : NumberedNode) → list_any (same_node k) ks ≡ true → Among ks k
any_among ks k h = let at = position_there (same_node k) ks h in got_among ks at.0 k (position_is same_node tells_nodes ks k at.0 at.1)

pub stays_same : (ks : List NumberedNode) → Stays ks ks
stays_same ks = record { each = λ n k e. e }

pub stays_on : (a b c : List NumberedNode) → Stays a b → Stays b c → Stays a c
stays_on a b c s t = record { each = λ n k e. t.each n k (s.each n k e) }

stays_one : (ks : List NumberedNode) (j : NumberedNode) → Stays ks (insert_key same_node ks j)
stays_one ks j = by (list_any (same_node j) ks)
  where
    by : (b : Bool) → Stays ks (cond b ks (ks ++ j ∷ []))
    by true = stays_same ks
    by false = record { each = λ n k e. got_left ks (j ∷ []) n k e }

stays_put : (ks js : List NumberedNode) → Stays ks (insert_all same_node ks js)
stays_put ks [] = stays_same ks
stays_put ks (j ∷ js) = stays_on ks (insert_key same_node ks j) (insert_all same_node ks (j ∷ js)) (stays_one ks j) (stays_put (insert_key same_node ks j) js)

pub stays_all : (ks new js : List NumberedNode) → new ≡ insert_all same_node ks js → Stays ks new
stays_all ks new js now = subst (λ (is : List NumberedNode). Stays ks is) (sym now) (stays_put ks js)

pub stays_among : (ks new : List NumberedNode) → Stays ks new → (k : NumberedNode) → Among ks k → Among new k
stays_among ks new stays k there = let at = among_got ks k there in got_among new at.0 k (stays.each at.0 k at.1)

each_one : (P : NumberedNode → Type 0) (ks : List NumberedNode) (j : NumberedNode) → Each P ks → P j → Each P (insert_key same_node ks j)
each_one P ks j each own = by (list_any (same_node j) ks)
  where
    by : (b : Bool) → Each P (cond b ks (ks ++ j ∷ []))
    by true = each
    by false = each_joined P ks (j ∷ []) each (own, tt)

pub each_put : (P : NumberedNode → Type 0) (ks js : List NumberedNode) → Each P ks → Each P js → Each P (insert_all same_node ks js)
each_put P ks [] each all = each
each_put P ks (j ∷ js) each all = each_put P (insert_key same_node ks j) js (each_one P ks j each all.0) all.1

pub rows_more : (price : NumberedNode → Price NumberedNode) (kept : NumberedNode → Type 0) (ks new : List NumberedNode) (rows more : List (Vec NumberedNode Global)) (k : NumberedNode) (row : Vec NumberedNode Global) → CountsKept price kept → AreRows price kept ks rows
    → slice_get ks (length rows) ≡ Some k → row.items ≡ counted_in (price k) → new ≡ insert_all same_node ks row.items → more ≡ rows ++ row ∷ [] → AreRows price kept new more
rows_more price kept ks new rows more k row counts are at told now pushed = record {
  holds = subst (λ (is : List NumberedNode). Each kept is) (sym now) (each_put kept ks row.items are.holds counted_kept);
  each = λ n r e. by n r (got_pushed rows row n r (subst (λ (rs : List (Vec NumberedNode Global)). slice_get rs n ≡ Some r) pushed e));
}
  where
    counted : AreCounted price kept k row.items
    counted = counted_so price kept k row.items told

    here : kept k
    here = each_among kept ks k are.holds (got_among ks (length rows) k at)

    counted_kept : Each kept row.items
    counted_kept = among_each kept row.items (λ j there. of_nodes kept (price k) (counts.each k here) j (counted.each here j there))

    stays : Stays ks new
    stays = stays_all ks new row.items now

    all : Each (Among new) row.items
    all =
        subst (λ (is : List NumberedNode). Each (Among is) row.items) (sym now)
        (among_each (Among (insert_all same_node ks row.items)) row.items (λ j there. any_among (insert_all same_node ks row.items) j (put_all same_node node_itself ks row.items j there)))

    by : (n : ℕ) (r : Vec NumberedNode Global) → (slice_get rows n ≡ Some r) ⊎ ((n ≡ length rows) × (row ≡ r)) → (i : NumberedNode) × (slice_get new n ≡ Some i) × AreCounted price kept i r.items × Each (Among new) r.items
    by n r (inl h) =
        let old = are.each n r h in
        (old.0, stays.each n old.0 old.1, old.2, among_each (Among new) r.items (λ j there. stays_among ks new stays j (each_among (Among ks) r.items j old.3 there)))
    by n r (inr h) =
        subst (λ (s : Vec NumberedNode Global). (i : NumberedNode) × (slice_get new n ≡ Some i) × AreCounted price kept i s.items × Each (Among new) s.items) h.1
        (k, stays.each n k (subst (λ (m : ℕ). slice_get ks m ≡ Some k) (sym h.0) at), counted, all)

pub no_rows : (price : NumberedNode → Price NumberedNode) (kept : NumberedNode → Type 0) (ks : List NumberedNode) (rows : List (Vec NumberedNode Global)) → Each kept ks → rows ≡ [] → AreRows price kept ks rows
no_rows price kept ks rows each e = subst (λ (rs : List (Vec NumberedNode Global)). AreRows price kept ks rs) (sym e) (record { holds = each; each = λ n row at. absurd cc })

-- the node that has no row yet is kept
pub next_kept : (price : NumberedNode → Price NumberedNode) (kept : NumberedNode → Type 0) (ks : List NumberedNode) (rows : List (Vec NumberedNode Global)) (k : NumberedNode) → AreRows price kept ks rows → slice_get ks (length rows) ≡ Some k → kept k
next_kept price kept ks rows k are at = each_among kept ks k are.holds (got_among ks (length rows) k at)
