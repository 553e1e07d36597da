-- What is laid grows, and is right.
use Rattle.std.specs.Prelude.{◌≡◌, ◌⊎◌, ◌<◌, ◌&&◌, ◌++◌, take, slice_index_or, ◌≤◌, ℕ, zero, suc, ◌+◌, ◌*◌, ◌-◌, ◌^◌, Bool, true, false, List, [], ◌∷◌, length, Option, Some, None, is_some, Ok, Err, refl}
use Rattle.std.specs.List.{list_all}
use Rattle.std.proofs.lemmas.List.{take_more}
use Rattle.std.proofs.Common.{arith, inl, inr, ap, ◌∙◌, sym, subst}
use Rattle.indexmap.specs.IndexMap.{insert_entry}
use Rattle.mh_laws.specs.Each.{Each}
use Rattle.mh_laws.specs.Price.{Price, Nodes}
use Rattle.mh_laws.proofs.PriceLemmas.{nodes_any, nodes_both, nodes_map}
use Rattle.mh_layers.specs.declared.laying.costs.Laid.{Laid}
use Rattle.mh_layers.specs.declared.numbered_node.NumberedNode.{NumberedNode}
use Rattle.mh_layers.specs.Known.{known_worth, told, told_of}
use Rattle.mh_layers.specs.Layering.{Places, AreBelow, AreLayers, AreWaiting, CountsKept, Grows, HasRoom, IsLower, IsNoted, IsPlaced, IsSettled, IsStep, IsWaiting, IsWaitingAt, NoneRanked, Waits, cost_in, cost_of, has_place, held, is_laid, node_at, laid_in, left, free, place_in}
use Rattle.mh_layers.specs.NumberedNodes.{same_node}
use Rattle.mh_model.proofs.ListLemmas.{and_left, and_right}
use Rattle.mh_layers.proofs.KnownLemmas.{all_known, known_also, known_same, one_waits}
use Rattle.mh_layers.proofs.PlaceLemmas.{cost_laid, none_cost, put_cases, put_here, put_new, put_old, there_node}

-- GROWS

pub grows_same : (ts : Places) → Grows ts ts
grows_same ts = record { stays = λ k x e. e; places = λ k has. has }

pub grows_equal : (old new : Places) → new ≡ old → Grows old new
grows_equal old new is = subst (λ (ts : Places). Grows old ts) (sym is) (grows_same old)

pub layers_equal : (price : NumberedNode → Price NumberedNode) (kept : NumberedNode → Type 0) (old new : Places) → new ≡ old → AreLayers price kept old → AreLayers price kept new
layers_equal price kept old new is layers = subst (AreLayers price kept) (sym is) layers

pub grows_on : (a b c : Places) → Grows a b → Grows b c → Grows a c
grows_on a b c g h = record { stays = λ k x e. h.stays k x (g.stays k x e); places = λ k has. h.places k (g.places k has) }

put_grows : (ts : Places) (k : NumberedNode) (v : Option Laid) → laid_in ts k ≡ None → Grows ts (insert_entry same_node ts k v)
put_grows ts k v none = record {
  stays = λ j x e. stays j x e (put_cases ts k j v);
  places = λ j has. places j has (put_cases ts k j v);
}
  where
    us : Places
    us = insert_entry same_node ts k v

    stays : (j : NumberedNode) (x : Laid) → laid_in ts j ≡ Some x → ((j ≡ k) × (place_in us j ≡ Some v)) ⊎ (place_in us j ≡ place_in ts j) → laid_in us j ≡ Some x
    stays j x e (inl is) = let never = sym none ∙ ap (λ (i : NumberedNode). laid_in ts i) (sym is.0) ∙ e in absurd cc
    stays j x e (inr same) = ap held same ∙ e

    places : (j : NumberedNode) → has_place ts j ≡ true → ((j ≡ k) × (place_in us j ≡ Some v)) ⊎ (place_in us j ≡ place_in ts j) → has_place us j ≡ true
    places j has (inl is) = ap is_some is.1
    places j has (inr same) = ap is_some same ∙ has

pub nothing_laid : (price : NumberedNode → Price NumberedNode) (kept : NumberedNode → Type 0) (ts : Places) → ts ≡ [] → AreLayers price kept ts
nothing_laid price kept ts e =
    subst (λ (us : Places). AreLayers price kept us) (sym e) (record { comes = λ k x has f. absurd cc; falls = λ k x has f. absurd cc })

-- A PLACE IS GIVEN

pub placed_laid : (old new : Places) (k : NumberedNode) (given : Bool) → IsPlaced old new k given → (j : NumberedNode) → laid_in new j ≡ laid_in old j
placed_laid old new k false placed j = ap (λ (ts : Places). laid_in ts j) (placed.same refl)
placed_laid old new k true placed j = ap (λ (ts : Places). laid_in ts j) (placed.now refl) ∙ by (put_cases old k j None)
  where
    by : ((j ≡ k) × (place_in (insert_entry same_node old k None) j ≡ Some None)) ⊎ (place_in (insert_entry same_node old k None) j ≡ place_in old j) → laid_in (insert_entry same_node old k None) j ≡ laid_in old j
    by (inl is) = ap held is.1 ∙ sym (ap held (placed.none refl)) ∙ ap (λ (i : NumberedNode). laid_in old i) (sym is.0)
    by (inr same) = ap held same

pub placed_grows : (old new : Places) (k : NumberedNode) (given : Bool) → IsPlaced old new k given → Grows old new
placed_grows old new k false placed = grows_equal old new (placed.same refl)
placed_grows old new k true placed =
    subst (λ (ts : Places). Grows old ts) (sym (placed.now refl)) (put_grows old k None (ap held (placed.none refl)))

same_layers : (price : NumberedNode → Price NumberedNode) (kept : NumberedNode → Type 0) (old new : Places) → ((j : NumberedNode) → laid_in new j ≡ laid_in old j) → AreLayers price kept old → AreLayers price kept new
same_layers price kept old new same layers = record {
  comes = λ k x has e.
      known_same (told (cost_in new)) (told (cost_in old)) (price k)
      (nodes_any (λ (j : NumberedNode). told (cost_in new) j ≡ told (cost_in old) j) (λ j. ap (λ (o : Option Laid). told_of j (cost_of o)) (same j)) (price k))
      ∙ layers.comes k x has (sym (same k) ∙ e);
  falls = λ k x has e.
      nodes_map (λ (j : NumberedNode). IsLower (laid_in old j) x.rank) (λ (j : NumberedNode). IsLower (laid_in new j) x.rank)
      (λ j low. subst (λ (o : Option Laid). IsLower o x.rank) (sym (same j)) low) (price k) (layers.falls k x has (sym (same k) ∙ e));
}

pub placed_layers : (price : NumberedNode → Price NumberedNode) (kept : NumberedNode → Type 0) (old new : Places) (k : NumberedNode) (given : Bool) → IsPlaced old new k given → AreLayers price kept old → AreLayers price kept new
placed_layers price kept old new k given placed layers = same_layers price kept old new (placed_laid old new k given placed) layers

pub placed_now : (old new : Places) (k : NumberedNode) → place_in old k ≡ None → new ≡ insert_entry same_node old k None → length new < 2 ^ 63 → IsPlaced old new k true
placed_now old new k none now short = record {
  now = λ t. now;
  none = λ t. none;
  same = λ t. absurd cc;
  there = ap (λ (ts : Places). has_place ts k) now ∙ ap is_some (put_here old k None);
  short = short;
}

pub placed_before : (ts : Places) (k : NumberedNode) → has_place ts k ≡ true → length ts < 2 ^ 63 → IsPlaced ts ts k false
placed_before ts k has short = record { now = λ t. absurd cc; none = λ t. absurd cc; same = λ t. refl; there = has; short = short }

pub below_placed : (ts : Places) (k : NumberedNode) (next : ℕ) → place_in ts k ≡ None → AreBelow ts next → AreBelow (insert_entry same_node ts k None) next
below_placed ts k next none below = record { each = λ j x e. by j x e (put_cases ts k j None) }
  where
    by : (j : NumberedNode) (x : Laid) → laid_in (insert_entry same_node ts k None) j ≡ Some x → ((j ≡ k) × (place_in (insert_entry same_node ts k None) j ≡ Some None)) ⊎ (place_in (insert_entry same_node ts k None) j ≡ place_in ts j) → x.rank < next
    by j x e (inl is) = let never = sym e ∙ ap held is.1 in absurd cc
    by j x e (inr same) = below.each j x (sym (ap held same) ∙ e)

not_some : (o p : Option (Option Laid)) → o ≡ p → is_some o ≡ false → p ≡ None
not_some o None e none = refl
not_some o (Some x) e none = let never = sym none ∙ ap is_some e in absurd cc

-- what has none yet is given one
pub below_given : (ts us : Places) (k : NumberedNode) (next : ℕ) (o : Option (Option Laid)) → o ≡ place_in ts k → is_some o ≡ false → us ≡ insert_entry same_node ts k None → AreBelow ts next → AreBelow us next
below_given ts us k next o e none now below =
    subst (λ (zs : Places). AreBelow zs next) (sym now) (below_placed ts k next (not_some o (place_in ts k) e none) below)

pub placed_given : (ts us : Places) (k : NumberedNode) (len : ℕ) (o : Option (Option Laid)) → o ≡ place_in ts k → is_some o ≡ false → us ≡ insert_entry same_node ts k None → len ≡ length us → len < 2 ^ 63 → IsPlaced ts us k true
placed_given ts us k len o e none now long short =
    placed_now ts us k (not_some o (place_in ts k) e none) now (subst (λ (n : ℕ). n < 2 ^ 63) long short)

-- what is not laid is one more
pub room_given : (ts us : Places) (k : NumberedNode) (next : ℕ) (o : Option (Option Laid)) → o ≡ place_in ts k → is_some o ≡ false → us ≡ insert_entry same_node ts k None → HasRoom ts next → HasRoom us next
room_given ts us k next o e none now room =
    let put = put_new ts k None (not_some o (place_in ts k) e none) in
    let long : length us ≡ suc (length ts) = ap (λ (zs : Places). length zs) now ∙ put.0 in
    let more : free us ≡ 1 + free ts = ap (λ (zs : Places). free zs) now ∙ put.1 in
    more_room (length ts) (length us) (free ts) (free us) next long more room
  where
    more_room : (a b c d n : ℕ) → b ≡ suc a → d ≡ 1 + c → n + c ≤ a → n + d ≤ b
    more_room a b c d n long more room = omega (arith, long, more, room)

-- and then one more of these has a place
pub placed_more : (xs : List NumberedNode) (old new : Places) (n : ℕ) (d : NumberedNode) (given : Bool) → n < length xs → list_all (has_place old) (take n xs) ≡ true → IsPlaced old new (slice_index_or xs n d) given → list_all (has_place new) (take (n + 1) xs) ≡ true
placed_more xs old new n d given less all placed =
    ap (list_all (has_place new)) (take_more xs n d less) ∙ behind (take n xs) all
  where
    behind : (ks : List NumberedNode) → list_all (has_place old) ks ≡ true → list_all (has_place new) (ks ++ slice_index_or xs n d ∷ []) ≡ true
    behind [] h = λ i. placed.there i && true
    behind (k ∷ ks) h = λ i. (placed_grows old new (slice_index_or xs n d) given placed).places k (and_left (has_place old k) (list_all (has_place old) ks) h) i && behind ks (and_right (has_place old k) (list_all (has_place old) ks) h) i

-- A NODE IS LAID

one : (x y : Laid) → Some x ≡ Some y → x ≡ y
one x y e = cc

pub below_noted : (ts : Places) (k : NumberedNode) (cost next : ℕ) → AreBelow ts next → AreBelow (insert_entry same_node ts k (Some (record { cost = cost; rank = next }))) (next + 1)
below_noted ts k cost next below = record { each = λ j y e. by j y e (put_cases ts k j (Some x)) }
  where
    x : Laid
    x = record { cost = cost; rank = next }

    by : (j : NumberedNode) (y : Laid) → laid_in (insert_entry same_node ts k (Some x)) j ≡ Some y → ((j ≡ k) × (place_in (insert_entry same_node ts k (Some x)) j ≡ Some (Some x))) ⊎ (place_in (insert_entry same_node ts k (Some x)) j ≡ place_in ts j) → y.rank < next + 1
    by j y e (inl is) =
        let same : next ≡ y.rank = ap (λ (z : Laid). z.rank) (one x y (sym (ap held is.1) ∙ e)) in
        omega (arith, same)
    by j y e (inr same) = let less = below.each j y (sym (ap held same) ∙ e) in omega (arith, less)

pub below_now : (ts us : Places) (k : NumberedNode) (cost next after : ℕ) → AreBelow ts next → us ≡ insert_entry same_node ts k (Some (record { cost = cost; rank = next })) → after ≡ next + 1 → AreBelow us after
below_now ts us k cost next after below now is =
    subst (λ (n : ℕ). AreBelow us n) (sym is) (subst (λ (zs : Places). AreBelow zs (next + 1)) (sym now) (below_noted ts k cost next below))

-- the rank that is given next is no larger than there are nodes
pub room_noted : (ts us : Places) (k : NumberedNode) (cost next : ℕ) → HasRoom ts next → laid_in ts k ≡ None → us ≡ insert_entry same_node ts k (Some (record { cost = cost; rank = next })) → HasRoom us (next + 1)
room_noted ts us k cost next room none now = by (place_in ts k) refl none
  where
    x : Laid
    x = record { cost = cost; rank = next }

    long : (n : ℕ) → length (insert_entry same_node ts k (Some x)) ≡ n → length us ≡ n
    long n e = ap (λ (zs : Places). length zs) now ∙ e

    by : (o : Option (Option Laid)) → place_in ts k ≡ o → held o ≡ None → HasRoom us (next + 1)
    by None e h =
        let put = put_new ts k (Some x) e in
        new (length ts) (length us) (free ts) (free us) (long (suc (length ts)) put.0) (ap (λ (zs : Places). free zs) now ∙ put.1) room
      where
        new : (a b c d : ℕ) → b ≡ suc a → d ≡ 0 + c → next + c ≤ a → next + 1 + d ≤ b
        new a b c d long same room = omega (arith, long, same, room)
    by (Some None) e h =
        let put = put_old ts k None (Some x) e in
        old (length ts) (length us) (free ts) (free us) (long (length ts) put.0) (ap (λ (n : ℕ). 1 + n) (ap (λ (zs : Places). free zs) now) ∙ put.1) room
      where
        old : (a b c d : ℕ) → b ≡ a → 1 + d ≡ 0 + c → next + c ≤ a → next + 1 + d ≤ b
        old a b c d long less room = omega (arith, long, less, room)
    by (Some (Some y)) e h = absurd cc

pub noted_grows : (old new : Places) (k : NumberedNode) (cost : ℕ) → laid_in old k ≡ None → IsNoted old new k cost → Grows old new
noted_grows old new k cost none noted =
    subst (λ (ts : Places). Grows old ts) (sym noted.now) (put_grows old k (Some (record { cost = cost; rank = noted.rank })) none)

lower_kept : (o u : Option Laid) (r : ℕ) → ((z : Laid) → o ≡ Some z → u ≡ Some z) → IsLower o r → IsLower u r
lower_kept None u r h low = absurd cc
lower_kept (Some z) u r h low = subst (λ (w : Option Laid). IsLower w r) (sym (h z refl)) low

told_kept : (j : NumberedNode) (o u : Option Laid) (a : ℕ) → ((z : Laid) → o ≡ Some z → u ≡ Some z) → told_of j (cost_of o) ≡ Ok a → told_of j (cost_of u) ≡ Ok a
told_kept j None u a h e = absurd cc
told_kept j (Some z) u a h e = ap (λ (w : Option Laid). told_of j (cost_of w)) (h z refl) ∙ e

-- what is known stays known
still : (old new : Places) (p : Price NumberedNode) (c : ℕ) → Grows old new → known_worth (told (cost_in old)) p ≡ Ok c → known_worth (told (cost_in new)) p ≡ Ok c
still old new p c grows e =
    known_also (told (cost_in old)) (told (cost_in new)) p c (λ j a h. told_kept j (laid_in old j) (laid_in new j) a (grows.stays j) h) e

put_layers : (price : NumberedNode → Price NumberedNode) (kept : NumberedNode → Type 0) (ts : Places) (k : NumberedNode) (cost next : ℕ) →
    AreLayers price kept ts → laid_in ts k ≡ None → AreBelow ts next → (kept k → known_worth (told (cost_in ts)) (price k) ≡ Ok cost) →
    AreLayers price kept (insert_entry same_node ts k (Some (record { cost = cost; rank = next })))
put_layers price kept ts k cost next layers none below comes = record {
  comes = λ m y has e. each m y has e (put_cases ts k m (Some x));
  falls = λ m y has e. falls m y has e (put_cases ts k m (Some x));
}
  where
    x : Laid
    x = record { cost = cost; rank = next }

    us : Places
    us = insert_entry same_node ts k (Some x)

    grows : Grows ts us
    grows = put_grows ts k (Some x) none

    here : (m : NumberedNode) → m ≡ k → kept m → known_worth (told (cost_in ts)) (price m) ≡ Ok cost
    here m is has = subst (λ (j : NumberedNode). kept j → known_worth (told (cost_in ts)) (price j) ≡ Ok cost) (sym is) comes has

    each : (m : NumberedNode) (y : Laid) → kept m → laid_in us m ≡ Some y → ((m ≡ k) × (place_in us m ≡ Some (Some x))) ⊎ (place_in us m ≡ place_in ts m) → known_worth (told (cost_in us)) (price m) ≡ Ok y.cost
    each m y has e (inl is) =
        still ts us (price m) y.cost grows (here m is.0 has ∙ ap (λ (z : Laid). Ok z.cost) (one x y (sym (ap held is.1) ∙ e)))
    each m y has e (inr same) = still ts us (price m) y.cost grows (layers.comes m y has (sym (ap held same) ∙ e))

    lower : (r : ℕ) → r ≡ next → (j : NumberedNode) → (a : ℕ) × (cost_in ts j ≡ Some a) → IsLower (laid_in us j) r
    lower r is j known =
        let h = cost_laid (laid_in ts j) known.0 known.1 in
        subst (λ (o : Option Laid). IsLower o r) (sym (grows.stays j h.0 h.1)) (subst (λ (n : ℕ). h.0.rank < n) (sym is) (below.each j h.0 h.1))

    falls : (m : NumberedNode) (y : Laid) → kept m → laid_in us m ≡ Some y → ((m ≡ k) × (place_in us m ≡ Some (Some x))) ⊎ (place_in us m ≡ place_in ts m) → Nodes (λ j. IsLower (laid_in us j) y.rank) (price m)
    falls m y has e (inl is) =
        nodes_map (λ (j : NumberedNode). (a : ℕ) × (cost_in ts j ≡ Some a)) (λ (j : NumberedNode). IsLower (laid_in us j) y.rank)
        (lower y.rank (ap (λ (z : Laid). z.rank) (one y x (sym e ∙ ap held is.1)))) (price m) (all_known (cost_in ts) (price m) cost (here m is.0 has))
    falls m y has e (inr same) =
        nodes_map (λ (j : NumberedNode). IsLower (laid_in ts j) y.rank) (λ (j : NumberedNode). IsLower (laid_in us j) y.rank)
        (λ j low. lower_kept (laid_in ts j) (laid_in us j) y.rank (grows.stays j) low) (price m) (layers.falls m y has (sym (ap held same) ∙ e))

pub noted_layers : (price : NumberedNode → Price NumberedNode) (kept : NumberedNode → Type 0) (old new : Places) (k : NumberedNode) (cost : ℕ) →
    AreLayers price kept old → laid_in old k ≡ None → (kept k → known_worth (told (cost_in old)) (price k) ≡ Ok cost) → IsNoted old new k cost → AreLayers price kept new
noted_layers price kept old new k cost layers none comes noted =
    subst (λ (ts : Places). AreLayers price kept ts) (sym noted.now) (put_layers price kept old k cost noted.rank layers none noted.below comes)

noted_less : (old new : Places) (k : NumberedNode) (cost : ℕ) → laid_in old k ≡ None → IsNoted old new k cost → has_place old k ≡ true → left new < left old
noted_less old new k cost none noted has = by (place_in old k) refl none has
  where
    x : Laid
    x = record { cost = cost; rank = noted.rank }

    by : (o : Option (Option Laid)) → place_in old k ≡ o → held o ≡ None → is_some o ≡ true → left new < left old
    by None e h some = absurd cc
    by (Some (Some y)) e h some = absurd cc
    by (Some None) e h some =
        let put = put_old old k None (Some x) e in
        let long : length new ≡ length old = ap (λ (ts : Places). length ts) noted.now ∙ put.0 in
        let same : free new ≡ free (insert_entry same_node old k (Some x)) = ap (λ (ts : Places). free ts) noted.now in
        let fewer = put.1 in
        fall (length old) (length new) (free old) (free new) (free (insert_entry same_node old k (Some x))) long same fewer
      where
        fall : (a b c d f : ℕ) → b ≡ a → d ≡ f → 1 + f ≡ 0 + c → 2 * (2 ^ 64 - b) + d < 2 * (2 ^ 64 - a) + c
        fall a b c d f long same fewer = omega (arith, long, same, fewer)

pub settled_noted : (price : NumberedNode → Price NumberedNode) (kept : NumberedNode → Type 0) (old new : Places) (k : NumberedNode) (cost : ℕ) → laid_in old k ≡ None → IsNoted old new k cost → IsSettled price kept old new k None
settled_noted price kept old new k cost none noted = record {
  less = λ t has. noted_less old new k cost none noted has;
  same = λ j e. absurd cc;
  waits = λ j e has. absurd cc;
}

pub settled_waits : (price : NumberedNode → Price NumberedNode) (kept : NumberedNode → Type 0) (ts : Places) (k j : NumberedNode) → (kept k → known_worth (told (cost_in ts)) (price k) ≡ Err j) → IsSettled price kept ts ts k (Some j)
settled_waits price kept ts k j waits = record {
  less = λ e has. absurd cc;
  same = λ i e. refl;
  waits = λ i e has. waits has ∙ ap Err (same i e);
}
  where
    same : (i : NumberedNode) → Some j ≡ Some i → j ≡ i
    same i e = cc

-- STEPS

pub same_step : (ts : Places) → IsStep ts ts false
same_step ts = record { less = λ e. absurd cc; no_more = omega arith; same = λ e. refl }

less_step : (old new : Places) → left new < left old → IsStep old new true
less_step old new less = record { less = λ e. less; no_more = weak (left new) (left old) less; same = λ e. absurd cc }
  where
    weak : (a b : ℕ) → a < b → a ≤ b
    weak a b h = omega (arith, h)

pub step_true : (a b c : Places) (x : Bool) → IsStep a b x → IsStep b c true → IsStep a c true
step_true a b c x s t = less_step a c (down (left a) (left b) (left c) s.no_more (t.less refl))
  where
    down : (l m n : ℕ) → m ≤ l → n < m → n < l
    down l m n h k = omega (arith, h, k)

pub step_false : (a b c : Places) (x : Bool) → IsStep a b x → IsStep b c false → IsStep a c x
step_false a b c x s t = subst (λ (z : Places). IsStep a z x) (sym (t.same refl)) s

pub settled_step : (price : NumberedNode → Price NumberedNode) (kept : NumberedNode → Type 0) (old new : Places) (k : NumberedNode) → IsSettled price kept old new k None → has_place old k ≡ true → IsStep old new true
settled_step price kept old new k settled has = less_step old new (settled.less refl has)

placed_step : (old new : Places) (k : NumberedNode) (given : Bool) → IsPlaced old new k given → IsStep old new given
placed_step old new k false placed = subst (λ (ts : Places). IsStep old ts false) (sym (placed.same refl)) (same_step old)
placed_step old new k true placed =
    let put = put_new old k None (placed.none refl) in
    less_step old new (fall (length old) (length new) (free old) (free new) (ap (λ (ts : Places). length ts) (placed.now refl) ∙ put.0) (ap (λ (ts : Places). free ts) (placed.now refl) ∙ put.1) placed.short)
  where
    fall : (a b c d : ℕ) → b ≡ suc a → d ≡ 1 + c → b < 2 ^ 63 → 2 * (2 ^ 64 - b) + d < 2 * (2 ^ 64 - a) + c
    fall a b c d long more short = omega (arith, long, more, short)

pub waits_step : (price : NumberedNode → Price NumberedNode) (kept : NumberedNode → Type 0) (old mid new : Places) (k j : NumberedNode) (given : Bool) (next : Option NumberedNode) → next ≡ Some j → IsSettled price kept old mid k next → IsPlaced mid new j given → IsStep old new given
waits_step price kept old mid new k j given next is settled placed =
    subst (λ (ts : Places). IsStep ts new given) (settled.same j is) (placed_step mid new j given placed)

-- WHAT WAITS

pub waiting_true : (price : NumberedNode → Price NumberedNode) (kept : NumberedNode → Type 0) (ts : Places) (k : NumberedNode) → IsWaiting price kept ts k true
waiting_true price kept ts k = record { waits = λ e. absurd cc }

pub waiting_laid : (price : NumberedNode → Price NumberedNode) (kept : NumberedNode → Type 0) (ts : Places) (k : NumberedNode) (o : Option Laid) → o ≡ laid_in ts k → is_some o ≡ true → IsWaiting price kept ts k false
waiting_laid price kept ts k o e some = record { waits = λ t has none. let never = sym some ∙ ap is_some e ∙ ap is_some none in absurd cc }

pub waiting_placed : (price : NumberedNode → Price NumberedNode) (kept : NumberedNode → Type 0) (old mid new : Places) (k j : NumberedNode) (given : Bool) → IsSettled price kept old mid k (Some j) → IsPlaced mid new j given → IsWaiting price kept old k given
waiting_placed price kept old mid new k j given settled placed = record {
  waits = λ e has none.
      (j, settled.waits j refl has, subst (λ (ts : Places). has_place ts j ≡ true) (placed.same e ∙ settled.same j refl) placed.there);
}

pub waiting_at : (price : NumberedNode → Price NumberedNode) (kept : NumberedNode → Type 0) (ts : Places) (n : ℕ) (k : NumberedNode) (changed : Bool) → node_at ts n ≡ Some k → IsWaiting price kept ts k changed → IsWaitingAt price kept ts n changed
waiting_at price kept ts n k changed e waiting = record { waits = λ t j f. subst (λ (i : NumberedNode). kept i → laid_in ts i ≡ None → Waits price ts i) (same j f) (waiting.waits t) }
  where
    same : (j : NumberedNode) → node_at ts n ≡ Some j → k ≡ j
    same j f = let both = sym e ∙ f in cc

pub waiting_past : (price : NumberedNode → Price NumberedNode) (kept : NumberedNode → Type 0) (ts : Places) (n : ℕ) (changed : Bool) → node_at ts n ≡ None → IsWaitingAt price kept ts n changed
waiting_past price kept ts n changed e = record { waits = λ t j f. let never = sym e ∙ f in absurd cc }

below_cases : (k n : ℕ) → k < n + 1 → (k < n) ⊎ (k ≡ n)
below_cases zero zero less = inr refl
below_cases zero (suc n) less = inl (omega arith)
below_cases (suc k) zero less = absurd (omega (arith, less))
below_cases (suc k) (suc n) less = more (below_cases k n (omega (arith, less)))
  where
    more : (k < n) ⊎ (k ≡ n) → (suc k < suc n) ⊎ (suc k ≡ suc n)
    more (inl h) = inl (omega (arith, h))
    more (inr h) = inr (ap suc h)

pub none_waiting : (price : NumberedNode → Price NumberedNode) (kept : NumberedNode → Type 0) (ts : Places) (changed : Bool) → AreWaiting price kept ts 0 changed
none_waiting price kept ts changed = record { each = λ e i k less. absurd (omega (arith, less)) }

pub all_changed : (price : NumberedNode → Price NumberedNode) (kept : NumberedNode → Type 0) (ts : Places) (n : ℕ) → AreWaiting price kept ts n true
all_changed price kept ts n = record { each = λ e. absurd cc }

pub waiting_more : (price : NumberedNode → Price NumberedNode) (kept : NumberedNode → Type 0) (ts us : Places) (n : ℕ) (changed : Bool) → IsStep ts us changed → AreWaiting price kept ts n changed → IsWaitingAt price kept us n false → AreWaiting price kept ts (n + 1) changed
waiting_more price kept ts us n changed step waiting last = record { each = λ e i k less. of e i k (below_cases i n less) }
  where
    of : changed ≡ false → (i : ℕ) (k : NumberedNode) → (i < n) ⊎ (i ≡ n) → node_at ts i ≡ Some k → kept k → laid_in ts k ≡ None → Waits price ts k
    of e i k (inl less) = waiting.each e i k less
    of e i k (inr is) =
        subst (λ (m : ℕ). node_at ts m ≡ Some k → kept k → laid_in ts k ≡ None → Waits price ts k) (sym is)
        (subst (λ (zs : Places). node_at zs n ≡ Some k → kept k → laid_in zs k ≡ None → Waits price zs k) (step.same e) (last.waits refl k))

pub waiting_now : (price : NumberedNode → Price NumberedNode) (kept : NumberedNode → Type 0) (ts us : Places) (n : ℕ) (changed : Bool) → IsStep ts us changed → AreWaiting price kept ts n changed → length us ≤ n → AreWaiting price kept us (length us) changed
waiting_now price kept ts us n changed step waiting past = record {
  each = λ e i k less.
      subst (λ (zs : Places). node_at zs i ≡ Some k → kept k → laid_in zs k ≡ None → Waits price zs k) (sym (step.same e)) (waiting.each e i k (within i (length us) n less past));
}
  where
    within : (a b c : ℕ) → a < b → b ≤ c → a < c
    within a b c h k = omega (arith, h, k)

-- THE END

-- where a node waits that is kept, and all do, there are no ranks: each waits for one of a lower rank
pub none_ranked : (price : NumberedNode → Price NumberedNode) (kept : NumberedNode → Type 0) (ts : Places) (k : NumberedNode) → CountsKept price kept → AreWaiting price kept ts (length ts) false → kept k → has_place ts k ≡ true → laid_in ts k ≡ None → NoneRanked price kept
none_ranked price kept ts k counted waiting has there none = record { none = λ rank falls. down rank falls (suc (rank k)) k has there none (omega arith) }
  where
    down : (rank : NumberedNode → ℕ) → ((j : NumberedNode) → kept j → Nodes (λ i. rank i < rank j) (price j)) → (b : ℕ) (j : NumberedNode) → kept j → has_place ts j ≡ true → laid_in ts j ≡ None → rank j < b → ⊥
    down rank falls zero j has there none below = omega (arith, below)
    down rank falls (suc b) j has there none below =
        let found = there_node ts j there in
        let waits = waiting.each refl found.0 j found.1 found.2 has none in
        let next = one_waits (λ (i : NumberedNode). kept i × (rank i < rank j)) (cost_in ts) (price j) waits.0 (nodes_both kept (λ (i : NumberedNode). rank i < rank j) (price j) (counted.each j has) (falls j has)) waits.1 in
        down rank falls b waits.0 next.0.0 waits.2 (none_cost (laid_in ts waits.0) next.1) (lower (rank waits.0) (rank j) b next.0.1 below)
      where
        lower : (l m n : ℕ) → l < m → m < suc n → l < n
        lower l m n s t = omega (arith, s, t)

-- one of these that is not laid waits so
pub none_found : (price : NumberedNode → Price NumberedNode) (kept : NumberedNode → Type 0) (before ts : Places) (roots : List NumberedNode) → CountsKept price kept → AreWaiting price kept ts (length ts) false → Grows before ts → Each kept roots → list_all (has_place before) roots ≡ true → list_all (is_laid ts) roots ≡ false → NoneRanked price kept
none_found price kept before ts [] counted waiting grows has there none = absurd cc
none_found price kept before ts (k ∷ ks) counted waiting grows has there none =
    by (laid_in ts k) refl (none_found price kept before ts ks counted waiting grows has.1 (and_right (has_place before k) (list_all (has_place before) ks) there))
  where
    by : (o : Option Laid) → laid_in ts k ≡ o → (list_all (is_laid ts) ks ≡ false → NoneRanked price kept) → NoneRanked price kept
    by None e behind = none_ranked price kept ts k counted waiting has.0 (grows.places k (and_left (has_place before k) (list_all (has_place before) ks) there)) e
    by (Some x) e behind = behind (ap (λ (o : Option Laid). is_some o && list_all (is_laid ts) ks) (sym e) ∙ none)
