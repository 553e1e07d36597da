-- The graph of the rows is the node graph of their nodes.
use Rattle.std.specs.Prelude.{◌≡◌, ◌<◌, ◌≤◌, ◌+◌, ℕ, zero, suc, Bool, true, false, ◌||◌, List, [], ◌∷◌, ◌++◌, drop, get_or, length, map, slice_get, unwrap_or, Option, Some, None, Vec, refl}
use Rattle.std.specs.List.{AllByRecursion, Contains, IsDistinct, list_any}
use Rattle.std.specs.Option.{option_map, option_map_or}
use Rattle.std.specs.declared.alloc.Global.{Global}
use Rattle.std.proofs.Common.{arith, inl, inr, ap, ◌∙◌, sym, subst, true≢false}
use Rattle.std.proofs.Math.Bool.{or-true}
use Rattle.std.proofs.Math.Seq.{append_snoc}
use Rattle.std.proofs.lemmas.List.{at_drop_more, length-map}
use Rattle.std.proofs.lemmas.Option.{slice_get-map, slice_get_within}
use Rattle.indexmap.specs.IndexSet.{insert_all}
use Rattle.mh_paths.specs.declared.graph.Arrow.{Arrow}
use Rattle.mh_paths.specs.declared.graph.Graph.{Graph}
use Rattle.mh_paths.specs.Chains.{arrows_of}
use Rattle.mh_model.proofs.ListLemmas.{some_same}
use Rattle.mh_laws.specs.Each.{Among, Each}
use Rattle.mh_laws.proofs.EachLemmas.{among_each, among_mapped, contains_of, each_among, each_contained, from_mapped, got_among}
use Rattle.mh_layers.specs.declared.numbered_node.NumberedNode.{NumberedNode}
use Rattle.mh_layers.specs.declared.cycle.effect_site.EffectSite.{EffectSite}
use Rattle.mh_layers.specs.Successors.{AreCounted, AreRows, Stays}
use Rattle.mh_layers.specs.Layered.{active_nodes}
use Rattle.mh_layers.specs.NumberedNodes.{same_node}
use Rattle.mh_layers.specs.NumberedNodeLaws.{node_itself}
use Rattle.mh_layers.specs.Reading.{Reading, kept, price}
use Rattle.mh_layers.specs.EffectSites.{AreEffectSites, arrow_by, label_at, label_in, node_index}
use Rattle.mh_layers.specs.Walk.{IsNodeGraphOf}
use Rattle.mh_layers.specs.NodeGraph.{IsArrow, IsNodeGraph, counted, label_to}
use Rattle.mh_layers.proofs.SuccessorLemmas.{any_among, each_put, stays_among, tells_nodes}
use Rattle.mh_layers.proofs.PositionLemmas.{position_is, position_there, put_all}

-- NODES AND THEIR NUMBERS

among_any : (ks : List NumberedNode) (k : NumberedNode) → Among ks k → list_any (same_node k) ks ≡ true
among_any [] k there = absurd cc
among_any (j ∷ ks) k (inl same) = ap (λ (b : Bool). b || list_any (same_node k) ks) (subst (λ (i : NumberedNode). same_node k i ≡ true) (sym same) (node_itself k))
among_any (j ∷ ks) k (inr more) = ap (λ (b : Bool). same_node k j || b) (among_any ks k more) ∙ or-true (same_node k j)

pub node_found : (ks : List NumberedNode) (k : NumberedNode) → Among ks k → slice_get ks (node_index ks k) ≡ Some k
node_found ks k there =
    let at = position_there (same_node k) ks (among_any ks k there) in
    ap (λ (o : Option ℕ). slice_get ks (unwrap_or o 0)) at.1 ∙ position_is same_node tells_nodes ks k at.0 at.1

not_behind : (j : NumberedNode) (ks : List NumberedNode) (n : ℕ) (k : NumberedNode) → AllByRecursion (λ i. same_node j i ≡ false) ks → slice_get ks n ≡ Some k → same_node j k ≡ false
not_behind j [] n k all e = absurd cc
not_behind j (i ∷ ks) zero k all e = subst (λ (x : NumberedNode). same_node j x ≡ false) (some_same e) all.0
not_behind j (i ∷ ks) (suc n) k all e = not_behind j ks n k all.1 e

twice : (j k : NumberedNode) → Some j ≡ Some k → same_node j k ≡ false → ⊥
twice j k same none = true≢false (sym (node_itself j) ∙ ap (same_node j) (some_same same) ∙ none)

distinct_once : (ks : List NumberedNode) → IsDistinct same_node ks → (m n : ℕ) (k : NumberedNode) → slice_get ks m ≡ Some k → slice_get ks n ≡ Some k → m ≡ n
unfolding IsDistinct
distinct_once [] once m n k a b = absurd cc
distinct_once (j ∷ ks) once zero zero k a b = refl
distinct_once (j ∷ ks) once zero (suc n) k a b = absurd (twice j k a (not_behind j ks n k once.0 b))
distinct_once (j ∷ ks) once (suc m) zero k a b = absurd (twice j k b (not_behind j ks m k once.0 a))
distinct_once (j ∷ ks) once (suc m) (suc n) k a b = ap suc (distinct_once ks once.1 m n k a b)

-- LENGTHS

none_far : {X : Type 0} (xs : List X) (n : ℕ) → slice_get xs n ≡ None → length xs ≤ n
none_far [] n e = omega arith
none_far (x ∷ xs) zero e = absurd cc
none_far (x ∷ xs) (suc n) e = let less = none_far xs n e in omega (arith, less)

some_within : {X : Type 0} (xs : List X) (n : ℕ) → n < length xs → (x : X) × (slice_get xs n ≡ Some x)
some_within {X} xs n less = by (slice_get xs n) refl
  where
    by : (o : Option X) → slice_get xs n ≡ o → (x : X) × (slice_get xs n ≡ Some x)
    by None e = let far = none_far xs n e in absurd (omega (arith, far, less))
    by (Some x) e = (x, e)

at_most : (a b : ℕ) → ((n : ℕ) → n < a → n < b) → a ≤ b
at_most zero b h = omega arith
at_most (suc a) b h = let less = h a (omega arith) in omega (arith, less)

same_length : (a b : ℕ) → a ≤ b → b ≤ a → a ≡ b
same_length a b h k = omega (arith, h, k)

-- ROWS OF ARROWS

pub mapped_more : {X Y : Type 0} (f : X → Y) (xs : List X) (i : ℕ) (d : X) (old new : List Y) (y : Y) → old ++ map f (drop i xs) ≡ map f xs → i < length xs → y ≡ f (get_or xs i d) → new ≡ old ++ y ∷ [] → new ++ map f (drop (i + 1) xs) ≡ map f xs
mapped_more {X} {Y} f xs i d old new y so_far less is now =
    ap (λ (zs : List Y). zs ++ map f (drop (i + 1) xs)) now ∙ append_snoc old y (map f (drop (i + 1) xs))
    ∙ ap (λ (z : Y). old ++ z ∷ map f (drop (i + 1) xs)) is ∙ sym (at_drop_more (λ (zs : List X). old ++ map f zs) xs i d less) ∙ so_far

row_at : {X Y Z : Type 0} (f : X → List Z) (g : Y → List Z) (xs : List X) (ys : List Y) (n : ℕ) → map f xs ≡ map g ys → option_map_or f (slice_get xs n) [] ≡ option_map_or g (slice_get ys n) []
row_at {X} {Y} {Z} f g xs ys n same =
    mapped f (slice_get xs n) ∙ ap (λ (o : Option (List Z)). unwrap_or o []) (sym (slice_get-map f xs n) ∙ ap (λ (zs : List (List Z)). slice_get zs n) same ∙ slice_get-map g ys n)
    ∙ sym (mapped g (slice_get ys n))
  where
    mapped : {W : Type 0} (h : W → List Z) (o : Option W) → option_map_or h o [] ≡ unwrap_or (option_map h o) []
    mapped h None = refl
    mapped h (Some w) = refl

label_found : (label : NumberedNode → ℕ) (ks : List NumberedNode) (k : NumberedNode) → Among ks k → label_at (map (label_to label) ks) (node_index ks k) ≡ label_to label k
label_found label ks k there =
    ap (λ (o : Option (Option ℕ)). unwrap_or o None) (slice_get-map (label_to label) ks (node_index ks k) ∙ ap (option_map (label_to label)) (node_found ks k there))

contained : {X : Type 0} (xs : List X) (x : X) → Contains xs x → Among xs x
contained xs x there = each_contained (Among xs) xs x (among_each (Among xs) xs (λ y h. h)) there

-- what is known of a node graph's parts
record Parts (r : Reading) (ks : List NumberedNode) (rs : List (Vec NumberedNode Global)) (mark : NumberedNode → ℕ) (g : Graph) : Type 0 where
  pub rows : AreRows (price r) (kept r) ks rs
  pub all : slice_get ks (length rs) ≡ None
  pub once : IsDistinct same_node ks
  pub nodes : map (λ (row : Vec Arrow Global). row.items) g.nodes.items ≡ map (λ (row : Vec NumberedNode Global). map (arrow_by ks (map (label_to mark) ks)) row.items) rs

module _ (r : Reading) (ks : List NumberedNode) (rows : List (Vec NumberedNode Global)) (mark : NumberedNode → ℕ) (g : Graph) (are : Parts r ks rows mark g) where
  arrows_at : (n : ℕ) → arrows_of g n ≡ option_map_or (λ (row : Vec NumberedNode Global). map (arrow_by ks (map (label_to mark) ks)) row.items) (slice_get rows n) []
  arrows_at n = row_at (λ (row : Vec Arrow Global). row.items) (λ (row : Vec NumberedNode Global). map (arrow_by ks (map (label_to mark) ks)) row.items) g.nodes.items rows n are.nodes

  long : length rows ≡ length ks
  long =
      same_length (length rows) (length ks)
      (at_most (length rows) (length ks) (λ n less. let row = some_within rows n less in let node = are.rows.each n row.0 row.1 in slice_get_within ks n node.0 node.1))
      (none_far ks (length rows) are.all)

  node_kept : (n : ℕ) (k : NumberedNode) → slice_get ks n ≡ Some k → kept r k
  node_kept n k at = each_among (kept r) ks k are.rows.holds (got_among ks n k at)

  is_arrow : (k j : NumberedNode) → Among (counted r k) j → Among ks j → IsArrow r ks mark k (arrow_by ks (map (label_to mark) ks) j)
  is_arrow k j counts there = record { to = j; counts = counts; place = node_found ks j there; label = label_found mark ks j there }

  -- of the row of a node
  of_row : (n : ℕ) (k : NumberedNode) → slice_get ks n ≡ Some k → (row : Vec NumberedNode Global) → slice_get rows n ≡ Some row → AreCounted (price r) (kept r) k row.items × Each (Among ks) row.items
  of_row n k at row here =
      let own = are.rows.each n row here in
      (subst (λ (j : NumberedNode). AreCounted (price r) (kept r) j row.items) (some_same (sym own.1 ∙ at)) own.2, own.3)

  arrow_told : (n : ℕ) (k : NumberedNode) → slice_get ks n ≡ Some k → (a : Arrow) (o : Option (Vec NumberedNode Global)) → slice_get rows n ≡ o
      → Among (option_map_or (λ (row : Vec NumberedNode Global). map (arrow_by ks (map (label_to mark) ks)) row.items) o []) a → IsArrow r ks mark k a
  arrow_told n k at a None e there = absurd cc
  arrow_told n k at a (Some row) e there =
      let own = of_row n k at row e in
      let from = from_mapped (arrow_by ks (map (label_to mark) ks)) row.items a there in
      subst (λ (x : Arrow). IsArrow r ks mark k x) from.2 (is_arrow k from.0 (own.0.each (node_kept n k at) from.0 from.1) (each_among (Among ks) row.items from.0 own.1 from.1))

  arrow_there : (n : ℕ) (k : NumberedNode) → slice_get ks n ≡ Some k → (j : NumberedNode) → Among (counted r k) j →
      (a : Arrow) × Contains (arrows_of g n) a × (slice_get ks a.to ≡ Some j) × (a.label ≡ label_to mark j)
  arrow_there n k at j counts =
      let within = slice_get_within ks n k at in
      let row = some_within rows n (subst (λ (m : ℕ). n < m) (sym long) within) in
      let own = of_row n k at row.0 row.1 in
      let here = own.0.all (node_kept n k at) j counts in
      let there = each_among (Among ks) row.0.items j own.1 here in
      let all : arrows_of g n ≡ map (arrow_by ks (map (label_to mark) ks)) row.0.items = arrows_at n ∙ ap (λ (o : Option (Vec NumberedNode Global)). option_map_or (λ (x : Vec NumberedNode Global). map (arrow_by ks (map (label_to mark) ks)) x.items) o []) row.1 in (
        arrow_by ks (map (label_to mark) ks) j,
        subst (λ (xs : List Arrow). Contains xs (arrow_by ks (map (label_to mark) ks) j)) (sym all)
            (contains_of (map (arrow_by ks (map (label_to mark) ks)) row.0.items) (arrow_by ks (map (label_to mark) ks) j) (among_mapped (arrow_by ks (map (label_to mark) ks)) row.0.items j here)),
        node_found ks j there,
        label_found mark ks j there,
      )

  is_node_graph : IsNodeGraph r ks mark g
  is_node_graph = record {
    nodes =
        sym (length-map g.nodes.items (λ (row : Vec Arrow Global). row.items)) ∙ ap length are.nodes
        ∙ length-map rows (λ (row : Vec NumberedNode Global). map (arrow_by ks (map (label_to mark) ks)) row.items) ∙ long;
    once = distinct_once ks are.once;
    kept = node_kept;
    arrows = λ n k at a there. arrow_told n k at a (slice_get rows n) refl (subst (λ (xs : List Arrow). Among xs a) (arrows_at n) (contained (arrows_of g n) a there));
    all = arrow_there;
  }

-- a node graph of roots
pub node_graph_made : (r : Reading) (roots all firsts ks : List NumberedNode) (rows : List (Vec NumberedNode Global)) (ss : List EffectSite) (ls : List (Option ℕ)) (g : Graph) → all ≡ active_nodes r → firsts ≡ insert_all same_node [] roots → Stays firsts ks → AreRows (price r) (kept r) ks rows → slice_get ks (length rows) ≡ None
    → IsDistinct same_node ks → AreEffectSites r all ss → ls ≡ map (label_to (label_in r ss)) ks
    → map (λ (row : Vec Arrow Global). row.items) g.nodes.items ≡ map (λ (row : Vec NumberedNode Global). map (arrow_by ks ls) row.items) rows → IsNodeGraphOf r roots ks g
node_graph_made r roots all firsts ks rows ss ls g every first stays are full once effect_sites labels nodes = record {
  effect_sites = ss;
  are = subst (λ (is : List NumberedNode). AreEffectSites r is ss) every effect_sites;
  node_graph = is_node_graph r ks rows (label_in r ss) g (record {
    rows = are;
    all = full;
    once = once;
    nodes = nodes ∙ ap (λ (xs : List (Option ℕ)). map (λ (row : Vec NumberedNode Global). map (arrow_by ks xs) row.items) rows) labels;
  });
  listed = among_each (Among ks) roots (λ k there. stays_among firsts ks stays k (subst (λ (is : List NumberedNode). Among is k) (sym first) (any_among (insert_all same_node [] roots) k (put_all same_node node_itself [] roots k there))));
}

pub firsts_kept : (r : Reading) (roots firsts : List NumberedNode) → Each (kept r) roots → firsts ≡ insert_all same_node [] roots → Each (kept r) firsts
firsts_kept r roots firsts each e = subst (λ (ks : List NumberedNode). Each (kept r) ks) (sym e) (each_put (kept r) [] roots tt each)
