-- Chains of the graph are moves one behind the other, and the first of the shortest chains are the first of those.
use Rattle.std.proofs.Common.{◌≡◌, ◌≢◌, ◌⊎◌, inl, inr, ℕ, zero, suc, ◌<◌, ◌≤◌, true, false, List, [], ◌∷◌, ◌++◌, map, length, replicate, Option, Some, None, Vec, refl, sym, ap, ◌∙◌, subst, arith, append-nil}
use Rattle.std.specs.Prelude.{slice_get, slice_index_or, option_and_then, position, unwrap_or}
use Rattle.std.specs.declared.alloc.Global.{Global}
use Rattle.std.specs.List.{Contains, list_any}
use Rattle.std.specs.Option.{option_map, option_to_list}
use Rattle.std.specs.declared.cmp.Ordering.TheVariants.{Less}
use Rattle.std.specs.Ordering.{nat_cmp, ordering_then}
use Rattle.std.specs.Cmp.Lexicographic.{slice_cmp}
use Rattle.std.proofs.lemmas.Grind.{flat_map-append}
use Rattle.std.proofs.lemmas.List.{length-map, map-append, length-replicate}
use Rattle.mh_model.proofs.ListLemmas.{some_same}
use Rattle.mh_paths.specs.declared.graph.Arrow.{Arrow}
use Rattle.mh_paths.specs.declared.graph.Graph.{Graph}
use Rattle.mh_paths.specs.Chains.{Chain, IsFirstShortest, NoChain, arrows_of, labels_of, labels_along}
use Rattle.mh_paths.specs.Chains as paths
use Rattle.mh_paths.specs.Found.{Table, entry, AreFirst}
use Rattle.mh_flow.specs.declared.chain.link.Link.{Link}
use Rattle.mh_flow.specs.declared.chain.moves.Holder.{Holder}
use Rattle.mh_flow.specs.declared.chain.moves.ActionSite.{ActionSite}
use Rattle.mh_flow.specs.declared.chain.moves.Move.{Move}
use Rattle.mh_flow.specs.Chains.{by_action_site}
use Rattle.mh_flow.specs.Moves.{links_at, links_by, Follows, begin, onward, IsFirstOf}
use Rattle.mh_flow.specs.Routes.{AreActionSites, same_action_site, same_holder, holder_number, holders_met, action_site_number, arrow_of, start_of, starts_of, with_move, rows_from, rows_of, link_between, link_of, links_of}
use Rattle.mh_flow.proofs.ContainsLemmas.{no_member, here, behind, first_or_behind, in_joined, joined_from}
use Rattle.mh_flow.proofs.ChainRowLemmas.{items_of, row, graph_row, arrow_length, arrow_comes, arrow_stays, arrow_or_new, no_arrows}
use Rattle.mh_flow.proofs.ChainNumberLemmas.{holder_numbered, with_its_action_site, has_to, has_source, sorted_numbers}

abbrev action_site_of : Link → ActionSite
action_site_of l = record { key = l.key; index = l.index }

-- its action site is among these
abbrev HasNumber : List ActionSite → Link → Type 0
HasNumber ss l = list_any (same_action_site (action_site_of l)) ss ≡ true

abbrev number_of : List ActionSite → Link → ℕ
number_of ss l = action_site_number ss (action_site_of l)

-- Links in the order of their numbers.

abbrev HaveNumbers : List ActionSite → List Link → Type 0
HaveNumbers ss [] = Unit {0}
HaveNumbers ss (l ∷ ls) = HasNumber ss l × HaveNumbers ss ls

numbers_joined : (ss : List ActionSite) (ls ks : List Link) → HaveNumbers ss ls → HaveNumbers ss ks → HaveNumbers ss (ls ++ ks)
numbers_joined ss [] ks h k = k
numbers_joined ss (l ∷ ls) ks h k = (h.0, numbers_joined ss ls ks h.1 k)

module _ (ms : List Move) (ss : List ActionSite) (are : AreActionSites ms ss) where
  same_order : (ls ks : List Link) → HaveNumbers ss ls → HaveNumbers ss ks → slice_cmp nat_cmp (map (number_of ss) ls) (map (number_of ss) ks) ≡ slice_cmp by_action_site ls ks
  same_order [] [] h k = refl
  same_order [] (y ∷ ks) h k = refl
  same_order (x ∷ ls) [] h k = refl
  same_order (x ∷ ls) (y ∷ ks) h k = λ i. ordering_then (sorted_numbers ms ss are (action_site_of x) (action_site_of y) h.0 k.0 i) (same_order ls ks h.1 k.1 i)

  abbrev ps : List Holder
  ps = holders_met ms

  -- A move and its arrow.

  links_numbered : (m : Move) → Contains ms m → HaveNumbers ss (links_by m)
  links_numbered m k = by m.action_site refl
    where
      by : (o : Option ActionSite) → m.action_site ≡ o → HaveNumbers ss (links_at o m.to.at)
      by None e = tt
      by (Some s) e = (are.each m s k e, tt)

  move_link : (m : Move) → Contains ms m → link_of ps ss (arrow_of ps ss m) ≡ links_by m
  move_link m k = by m.action_site refl ∙ refl
    where
      at : slice_get ps (holder_number ps m.to) ≡ Some m.to
      at = (holder_numbered ps m.to (has_to ms m k)).0

      by : (o : Option ActionSite) → m.action_site ≡ o → link_between (option_and_then (slice_get ss) (option_map (action_site_number ss) o)) (slice_get ps (holder_number ps m.to)) ≡ links_at o m.to.at
      by None e = refl
      by (Some s) e = ap (λ (x : Option ActionSite). link_between x (slice_get ps (holder_number ps m.to))) (with_its_action_site ss s (are.each m s k e)).0 ∙ ap (link_between (Some s)) at

  move_labels : (m : Move) → labels_of (arrow_of ps ss m) ≡ map (number_of ss) (links_by m)
  move_labels m = by m.action_site
    where
      by : (o : Option ActionSite) → option_to_list (option_map (action_site_number ss) o) ≡ map (number_of ss) (links_at o m.to.at)
      by None = refl
      by (Some s) = refl

  -- What leaves a holder.

  rows_length : (rows : List (List Arrow)) (m : Move) (o : Option Holder) → length (with_move ps ss rows m o) ≡ length rows
  rows_length rows m None = refl
  rows_length rows m (Some p) = arrow_length rows (holder_number ps p) (arrow_of ps ss m)

  -- the arrow is that of one of these moves, which goes from the holder with this number
  abbrev IsOfMove : List Move → ℕ → Arrow → Type 0
  IsOfMove xs u a = (m : Move) × (p : Holder) × Contains xs m × (m.from ≡ Some p) × (holder_number ps p ≡ u) × (arrow_of ps ss m ≡ a)

  in_move : (rows : List (List Arrow)) (m : Move) (o : Option Holder) → m.from ≡ o → (u : ℕ) (a : Arrow) → Contains (row (with_move ps ss rows m o) u) a → Contains (row rows u) a ⊎ IsOfMove (m ∷ []) u a
  in_move rows m None e u a k = inl k
  in_move rows m (Some p) e u a k = by (arrow_or_new rows (holder_number ps p) (arrow_of ps ss m) u a k)
    where
      by : Contains (row rows u) a ⊎ ((holder_number ps p ≡ u) × (arrow_of ps ss m ≡ a)) → Contains (row rows u) a ⊎ IsOfMove (m ∷ []) u a
      by (inl k) = inl k
      by (inr k) = inr (m, p, here m [], e, k.0, k.1)

  in_rows : (rows : List (List Arrow)) (xs : List Move) (u : ℕ) (a : Arrow) → Contains (row (rows_from ps ss rows xs) u) a → Contains (row rows u) a ⊎ IsOfMove xs u a
  in_rows rows [] u a k = inl k
  in_rows rows (m ∷ xs) u a k = by (in_rows (with_move ps ss rows m m.from) xs u a k)
    where
      first : Contains (row rows u) a ⊎ IsOfMove (m ∷ []) u a → Contains (row rows u) a ⊎ IsOfMove (m ∷ xs) u a
      first (inl k) = inl k
      first (inr k) = inr (k.0, k.1, elim (first_or_behind m [] k.0 k.2) [ inl e ↦ subst (λ (x : Move). Contains (m ∷ xs) x) e (here m xs) | inr none ↦ absurd (no_member k.0 none) ], k.3, k.4, k.5)

      by : Contains (row (with_move ps ss rows m m.from) u) a ⊎ IsOfMove xs u a → Contains (row rows u) a ⊎ IsOfMove (m ∷ xs) u a
      by (inl k) = first (in_move rows m m.from refl u a k)
      by (inr k) = inr (k.0, k.1, behind m xs k.0 k.2, k.3, k.4, k.5)

  move_stays : (rows : List (List Arrow)) (m : Move) (o : Option Holder) (u : ℕ) (a : Arrow) → Contains (row rows u) a → Contains (row (with_move ps ss rows m o) u) a
  move_stays rows m None u a k = k
  move_stays rows m (Some p) u a k = arrow_stays rows (holder_number ps p) (arrow_of ps ss m) u a k

  rows_stay : (rows : List (List Arrow)) (xs : List Move) (u : ℕ) (a : Arrow) → Contains (row rows u) a → Contains (row (rows_from ps ss rows xs) u) a
  rows_stay rows [] u a k = k
  rows_stay rows (m ∷ xs) u a k = rows_stay (with_move ps ss rows m m.from) xs u a (move_stays rows m m.from u a k)

  move_comes : (rows : List (List Arrow)) (m : Move) (o : Option Holder) (p : Holder) → o ≡ Some p → holder_number ps p < length rows → Contains (row (with_move ps ss rows m o) (holder_number ps p)) (arrow_of ps ss m)
  move_comes rows m None p e h = absurd cc
  move_comes rows m (Some x) p e h = subst (λ (o : Option Holder). Contains (row (with_move ps ss rows m o) (holder_number ps p)) (arrow_of ps ss m)) (sym e) (arrow_comes rows (holder_number ps p) (arrow_of ps ss m) h)

  rows_have : (rows : List (List Arrow)) (xs : List Move) (m : Move) (p : Holder) → Contains xs m → m.from ≡ Some p → holder_number ps p < length rows → Contains (row (rows_from ps ss rows xs) (holder_number ps p)) (arrow_of ps ss m)
  rows_have rows [] m p k e h = absurd (no_member m k)
  rows_have rows (x ∷ xs) m p k e h = by (first_or_behind x xs m k) (λ k. rows_have (with_move ps ss rows x x.from) xs m p k e (subst (λ (n : ℕ). holder_number ps p < n) (sym (rows_length rows x x.from)) h))
    where
      by : (x ≡ m) ⊎ Contains xs m → (Contains xs m → Contains (row (rows_from ps ss rows (x ∷ xs)) (holder_number ps p)) (arrow_of ps ss m)) → Contains (row (rows_from ps ss rows (x ∷ xs)) (holder_number ps p)) (arrow_of ps ss m)
      by (inl same) ih =
          rows_stay (with_move ps ss rows x x.from) xs (holder_number ps p) (arrow_of ps ss m)
          (subst (λ (y : Move). Contains (row (with_move ps ss rows x x.from) (holder_number ps p)) (arrow_of ps ss y)) same
          (move_comes rows x x.from p (ap (λ (y : Move). y.from) same ∙ e) h))
      by (inr k) ih = ih k

  -- What comes from nowhere.

  started : (m : Move) (o : Option Holder) (a : Arrow) → Contains (start_of ps ss m o) a → (o ≡ None) × (arrow_of ps ss m ≡ a)
  started m None a k = elim (first_or_behind (arrow_of ps ss m) [] a k) [ inl e ↦ (refl, e) | inr none ↦ absurd (no_member a none) ]
  started m (Some p) a k = absurd (no_member a k)

  starts_have : (m : Move) → Contains ms m → m.from ≡ None → Contains (starts_of ps ss ms) (arrow_of ps ss m)
  starts_have m k e = in_joined (λ (m : Move). start_of ps ss m m.from) ms m (arrow_of ps ss m) k (subst (λ (o : Option Holder). Contains (start_of ps ss m o) (arrow_of ps ss m)) (sym e) (here (arrow_of ps ss m) []))

  -- Chains.

  module _ (g : Graph) (is : items_of g.nodes.items ≡ rows_of ps ss ms) where
    abbrev starts : List Arrow
    starts = starts_of ps ss ms

    leaving : (u : ℕ) (a : Arrow) → Contains (arrows_of g u) a → IsOfMove ms u a
    leaving u a k = by (in_rows (replicate (length ps) []) ms u a (subst (λ (rows : List (List Arrow)). Contains (row rows u) a) is (subst (λ (xs : List Arrow). Contains xs a) (graph_row g u) k)))
      where
        by : Contains (row (replicate (length ps) []) u) a ⊎ IsOfMove ms u a → IsOfMove ms u a
        by (inl none) = absurd (no_arrows (length ps) u a none)
        by (inr k) = k

    leaves : (m : Move) (p : Holder) → Contains ms m → m.from ≡ Some p → Contains (arrows_of g (holder_number ps p)) (arrow_of ps ss m)
    leaves m p k e =
        let within : holder_number ps p < length (replicate (length ps) []) = subst (λ (n : ℕ). holder_number ps p < n) (sym (length-replicate (length ps) [])) (holder_numbered ps p (has_source ms m p k e)).1 in
        subst (λ (xs : List Arrow). Contains xs (arrow_of ps ss m)) (sym (graph_row g (holder_number ps p)))
        (subst (λ (rows : List (List Arrow)). Contains (row rows (holder_number ps p)) (arrow_of ps ss m)) (sym is) (rows_have (replicate (length ps) []) ms m p k e within))

    -- the chain is one of moves, to the holder with this number
    record IsOfMoves (c : List Arrow) (u : ℕ) : Type 0 where
      holder : Holder
      stands : slice_get ps u ≡ Some holder
      follows : Follows ms (links_of ps ss c) holder
      labels : labels_along c ≡ map (number_of ss) (links_of ps ss c)

    one_link : (m : Move) → Contains ms m → links_of ps ss (arrow_of ps ss m ∷ []) ≡ links_by m
    one_link m k = append-nil (link_of ps ss (arrow_of ps ss m)) ∙ move_link m k

    one_label : (m : Move) → Contains ms m → labels_along (arrow_of ps ss m ∷ []) ≡ map (number_of ss) (links_of ps ss (arrow_of ps ss m ∷ []))
    one_label m k = append-nil (labels_of (arrow_of ps ss m)) ∙ move_labels m ∙ ap (map (number_of ss)) (sym (one_link m k))

    more_links : (c : List Arrow) (a : Arrow) → links_of ps ss (c ++ a ∷ []) ≡ links_of ps ss c ++ links_of ps ss (a ∷ [])
    more_links c a = flat_map-append (link_of ps ss) c (a ∷ [])

    more_labels : (c : List Arrow) (a : Arrow) → labels_along c ≡ map (number_of ss) (links_of ps ss c) → labels_along (a ∷ []) ≡ map (number_of ss) (links_of ps ss (a ∷ [])) → labels_along (c ++ a ∷ []) ≡ map (number_of ss) (links_of ps ss (c ++ a ∷ []))
    more_labels c a h k =
        flat_map-append labels_of c (a ∷ []) ∙ (λ i. h i ++ k i) ∙ sym (map-append (number_of ss) (links_of ps ss c) (links_of ps ss (a ∷ []))) ∙ ap (map (number_of ss)) (sym (more_links c a))

    begun : (m : Move) → Contains ms m → m.from ≡ None → IsOfMoves (arrow_of ps ss m ∷ []) (holder_number ps m.to)
    begun m k e = record {
      holder = m.to;
      stands = (holder_numbered ps m.to (has_to ms m k)).0;
      follows = subst (λ (ls : List Link). Follows ms ls m.to) (sym (one_link m k)) (begin m k e);
      labels = one_label m k;
    }

    longer : (c : List Arrow) (u : ℕ) (m : Move) (p : Holder) → IsOfMoves c u → Contains ms m → m.from ≡ Some p → holder_number ps p ≡ u → IsOfMoves (c ++ arrow_of ps ss m ∷ []) (holder_number ps m.to)
    longer c u m p h k e at =
        let same : Some p ≡ Some h.holder = sym (holder_numbered ps p (has_source ms m p k e)).0 ∙ ap (slice_get ps) at ∙ h.stands in
        record {
          holder = m.to;
          stands = (holder_numbered ps m.to (has_to ms m k)).0;
          follows = subst (λ (ls : List Link). Follows ms ls m.to) (sym (more_links c (arrow_of ps ss m) ∙ ap (λ (ls : List Link). links_of ps ss c ++ ls) (one_link m k))) (onward (links_of ps ss c) h.holder m h.follows k (e ∙ same));
          labels = more_labels c (arrow_of ps ss m) h.labels (one_label m k);
        }

    is_of_moves : (c : List Arrow) (u : ℕ) → Chain g starts c u → IsOfMoves c u
    is_of_moves c u (paths.begin a k) =
        let found = joined_from (λ (m : Move). start_of ps ss m m.from) ms a k in
        let first = started found.0 found.0.from a found.2 in
        subst (λ (x : Arrow). IsOfMoves (x ∷ []) x.to) first.1 (begun found.0 found.1 first.0)
    is_of_moves c u (paths.onward d w a k l) =
        let m = leaving w a l in
        subst (λ (x : Arrow). IsOfMoves (d ++ x ∷ []) x.to) m.5 (longer d w m.0 m.1 (is_of_moves d w k) m.2 m.3 m.4)

    -- moves one behind the other are a chain with their links
    has_chain : (ls : List Link) (p : Holder) → Follows ms ls p → (c : List Arrow) × Chain g starts c (holder_number ps p) × (links_of ps ss c ≡ ls)
    has_chain ls p (begin m k e) = (arrow_of ps ss m ∷ [], paths.begin (arrow_of ps ss m) (starts_have m k e), one_link m k)
    has_chain ls p (onward ks o m f k e) =
        let before = has_chain ks o f in (
          before.0 ++ arrow_of ps ss m ∷ [],
          paths.onward before.0 (holder_number ps o) (arrow_of ps ss m) before.1 (leaves m o k e),
          more_links before.0 (arrow_of ps ss m) ∙ (λ i. before.2 i ++ one_link m k i),
        )

    have_numbers : (ls : List Link) (p : Holder) → Follows ms ls p → HaveNumbers ss ls
    have_numbers ls p (begin m k e) = links_numbered m k
    have_numbers ls p (onward ks o m f k e) = numbers_joined ss ks (links_by m) (have_numbers ks o f) (links_numbered m k)

    -- The first chain.

    module _ (p : Holder) (c : List Arrow) (first : IsFirstShortest g starts (holder_number ps p) c) (at : slice_get ps (holder_number ps p) ≡ Some p) where
      mine : IsOfMoves c (holder_number ps p)
      mine = is_of_moves c (holder_number ps p) first.chain

      follows_mine : Follows ms (links_of ps ss c) p
      follows_mine = subst (λ (x : Holder). Follows ms (links_of ps ss c) x) (some_same (sym mine.stands ∙ at)) mine.follows

      own_length : length (labels_along c) ≡ length (links_of ps ss c)
      own_length = ap length mine.labels ∙ length-map (links_of ps ss c) (number_of ss)

      -- another chain with these links
      module _ (ks : List Link) (f : Follows ms ks p) where
        other : (d : List Arrow) × Chain g starts d (holder_number ps p) × (links_of ps ss d ≡ ks)
        other = has_chain ks p f

        other_labels : labels_along other.0 ≡ map (number_of ss) ks
        other_labels = (is_of_moves other.0 (holder_number ps p) other.1).labels ∙ ap (map (number_of ss)) other.2

        other_length : length (labels_along other.0) ≡ length ks
        other_length = ap length other_labels ∙ length-map ks (number_of ss)

        shortest : length (links_of ps ss c) ≤ length ks
        shortest = omega (arith, own_length, other_length, first.shortest other.0 other.1)

        not_less : length ks ≡ length (links_of ps ss c) → slice_cmp by_action_site ks (links_of ps ss c) ≢ Less
        not_less e less =
            first.first other.0 other.1 (other_length ∙ e ∙ sym own_length)
            ((λ i. slice_cmp nat_cmp (other_labels i) (mine.labels i))
            ∙ same_order ks (links_of ps ss c) (have_numbers ks p f) (have_numbers (links_of ps ss c) p follows_mine)
            ∙ less)

      pub is_first : IsFirstOf ms p (links_of ps ss c)
      is_first = record { follows = follows_mine; shortest = shortest; first = not_less }

    pub none_follow : (p : Holder) → NoChain g starts (holder_number ps p) → (ls : List Link) → Follows ms ls p → ⊥
    none_follow p none ls f = let c = has_chain ls p f in none c.0 c.1

-- where no move leads there
pub none_lead : (ms : List Move) (p : Holder) → list_any (same_holder p) (holders_met ms) ≡ false → (ls : List Link) → Follows ms ls p → ⊥
none_lead ms p h ls (begin m k e) = let there = has_to ms m k in cc
none_lead ms p h ls (onward ks o m f k e) = let there = has_to ms m k in cc

-- In the words of the code.

rows_are : (ps : List Holder) (ss : List ActionSite) (rows : List (List Arrow)) (xs : List Move) → length (rows_from ps ss rows xs) ≡ length rows
rows_are ps ss rows [] = refl
rows_are ps ss rows (m ∷ xs) = rows_are ps ss (with_move ps ss rows m m.from) xs ∙ one m.from
  where
    one : (o : Option Holder) → length (with_move ps ss rows m o) ≡ length rows
    one None = refl
    one (Some p) = arrow_length rows (holder_number ps p) (arrow_of ps ss m)

module _ (ms : List Move) (goal : Holder) (ks : List Holder) (ss : List ActionSite) (g : Graph) (from : List Arrow) (n : ℕ) (are : AreActionSites ms ss) (holders : ks ≡ holders_met ms) (is : items_of g.nodes.items ≡ rows_of ks ss ms) (begins : from ≡ starts_of ks ss ms) (at : Some n ≡ position (same_holder goal) ks) where
  pub number_within : n < length ks → n < length g.nodes.items
  number_within h =
      let mapped : length (items_of g.nodes.items) ≡ length g.nodes.items = length-map g.nodes.items (λ (r : Vec Arrow Global). r.items) in
      let rows : length (items_of g.nodes.items) ≡ length ks = ap length is ∙ rows_are ks ss (replicate (length ks) []) ms ∙ length-replicate (length ks) [] in
      omega (arith, h, mapped, rows)

  number : holder_number (holders_met ms) goal ≡ n
  number = ap (λ (o : Option ℕ). unwrap_or o 0) (ap (position (same_holder goal)) (sym holders) ∙ sym at)

  graph_is : items_of g.nodes.items ≡ rows_of (holders_met ms) ss ms
  graph_is = is ∙ ap (λ (ps : List Holder). rows_of ps ss ms) holders

  starts_are : from ≡ starts_of (holders_met ms) ss ms
  starts_are = begins ∙ ap (λ (ps : List Holder). starts_of ps ss ms) holders

  pub told_first : list_any (same_holder goal) ks ≡ true → (c : List Arrow) → IsFirstShortest g from n c → (ls : List Link) → ls ≡ links_of ks ss c → IsFirstOf ms goal ls
  told_first has c first ls same =
      let there : slice_get (holders_met ms) (holder_number (holders_met ms) goal) ≡ Some goal = (holder_numbered (holders_met ms) goal (subst (λ (ps : List Holder). list_any (same_holder goal) ps ≡ true) holders has)).0 in
      let shortest = subst (λ (xs : List Arrow). IsFirstShortest g xs n c) starts_are first in
      subst (λ (xs : List Link). IsFirstOf ms goal xs) (sym (same ∙ ap (λ (ps : List Holder). links_of ps ss c) holders))
      (is_first ms ss are g graph_is goal c (subst (λ (k : ℕ). IsFirstShortest g (starts_of (holders_met ms) ss ms) k c) (sym number) shortest) there)

  pub told_none : NoChain g from n → (ls : List Link) → Follows ms ls goal → ⊥
  told_none none ls f =
      none_follow ms ss are g graph_is goal (subst (λ (k : ℕ). NoChain g (starts_of (holders_met ms) ss ms) k) (sym number) (subst (λ (xs : List Arrow). NoChain g xs n) starts_are none)) ls f
