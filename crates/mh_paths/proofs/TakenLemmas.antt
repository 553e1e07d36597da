-- Of several that wait for one node under one key, one is taken and the others are left out.
use Rattle.std.proofs.Common.{◌≡◌, ◌⊎◌, inl, inr, ℕ, suc, zero, ◌+◌, ◌<◌, false, List, [], ◌∷◌, ◌++◌, map, length, Option, Some, None, IsSome, Vec, refl, sym, ap, ◌∙◌, subst, arith, length-append}
use Rattle.std.specs.Prelude.{is_some, slice_get, slice_set}
use Rattle.std.specs.List.{All}
use Rattle.std.specs.List.Sorted.{IsPermutation}
use Rattle.std.specs.Ordering.{is_gt, ordering_reverse}
use Rattle.std.specs.declared.cmp.Ordering.{Ordering}
use Rattle.std.specs.declared.cmp.Ordering.TheVariants.{Less, Equal, Greater}
use Rattle.std.specs.declared.alloc.Global.{Global}
use Rattle.std.proofs.lemmas.List.{append_assoc}
use Rattle.std.proofs.lemmas.List.Sorted.{All-permutation, IsPermutation-refl, IsPermutation-trans, IsPermutation-cons, IsPermutation-middle, IsPermutation-append_right}
use Rattle.std.proofs.lemmas.List.Elements.{All-tail, All-cons}
use Rattle.mh_paths.specs.declared.graph.Arrow.{Arrow}
use Rattle.mh_paths.specs.declared.graph.Graph.{Graph}
use Rattle.mh_paths.specs.declared.due.Due.{Due}
use Rattle.mh_paths.specs.declared.due.Key.{Key}
use Rattle.mh_paths.specs.declared.search.Step.{Step}
use Rattle.mh_paths.specs.Order.{key_cmp}
use Rattle.mh_paths.specs.Trails.{AllTo, IsTaken, arrow_of, due_behind, mark, rank_behind}
use Rattle.mh_paths.proofs.QueueLemmas.{turned_key}
use Rattle.mh_paths.proofs.TableLemmas.{open_marks}
use Rattle.mh_paths.proofs.StateLemmas.{IsState, entered_so, left_out}

-- One is taken.

pub taken_first : (old : List Due) (d : Due) → IsTaken old d d old
taken_first old d = record { left = []; all = IsPermutation-refl (d ∷ old); key = refl; to = refl; same = tt }

pub taken_more : (old : List Due) (d x y z : Due) (now rest : List Due) → IsTaken old d x now → IsPermutation now (y ∷ rest) → y.key ≡ x.key → y.to ≡ x.to → (z ≡ x) ⊎ (z ≡ y) → IsTaken old d z rest
taken_more old d x y z now rest t h key to which = by which
  where
    both : IsPermutation (d ∷ old) (x ∷ (y ∷ (t.left ++ rest)))
    both =
        IsPermutation-trans (d ∷ old) (x ∷ (t.left ++ now)) (x ∷ (y ∷ (t.left ++ rest))) t.all
        (IsPermutation-cons x (t.left ++ now) (y ∷ (t.left ++ rest))
        (IsPermutation-trans (t.left ++ now) (t.left ++ y ∷ rest) (y ∷ (t.left ++ rest)) (IsPermutation-append_right t.left now (y ∷ rest) h) (IsPermutation-middle t.left y rest)))

    by : (z ≡ x) ⊎ (z ≡ y) → IsTaken old d z rest
    by (inl is) = subst (λ (w : Due). IsTaken old d w rest) (sym is) (record { left = y ∷ t.left; all = both; key = t.key; to = t.to; same = (to, t.same) })
    by (inr is) = subst (λ (w : Due). IsTaken old d w rest) (sym is) (record {
      left = x ∷ t.left;
      all = IsPermutation-trans (d ∷ old) (x ∷ (y ∷ (t.left ++ rest))) (y ∷ (x ∷ (t.left ++ rest))) both (IsPermutation-middle (x ∷ []) y (t.left ++ rest));
      key = key ∙ t.key;
      to = to ∙ t.to;
      same = (sym to, subst (λ (v : ℕ). AllTo v t.left) (sym to) t.same);
    })

-- The others are left out, once the node has a chain.

mark_here : (ms : List (Option ℕ)) (v n : ℕ) → v < length ms → mark (slice_set ms v (Some n)) v ≡ Some n
mark_here [] v n h = absurd (omega (arith, h))
mark_here (m ∷ ms) zero n h = refl
mark_here (m ∷ ms) (suc v) n h = mark_here ms v n (omega (arith, h))

all_left_out : (g : Graph) (from : List Arrow) (ms : List (Option ℕ)) (ss : List Step) (left now : List Due) (last : Key) (rank v : ℕ) → IsSome (mark ms v) → AllTo v left → IsState g from ms ss (left ++ now) last rank → IsState g from ms ss now last rank
all_left_out g from ms ss [] now last rank v known to s = s
all_left_out g from ms ss (d ∷ left) now last rank v known to s =
    all_left_out g from ms ss left now last rank v known to.1
    (left_out g from ms ss (d ∷ (left ++ now)) (left ++ now) last rank d s (IsPermutation-refl (d ∷ (left ++ now))) (λ h. subst (λ (w : ℕ). IsSome (mark ms w)) (sym to.0) known))

not_behind_itself : (k : Key) → is_gt (key_cmp k k) ≡ false
not_behind_itself k = by (key_cmp k k) (turned_key k k)
  where
    by : (o : Ordering) → o ≡ ordering_reverse o → is_gt o ≡ false
    by Less h = refl
    by Equal h = refl
    by Greater h = cc

pub taken_so : (g : Graph) (from : List Arrow) (ms : List (Option ℕ)) (ss : List Step) (ds rest q now : List Due) (last : Key) (rank n : ℕ) (d x : Due) (row : Vec Arrow Global) (steps : List Step) (a : Arrow) (r : ℕ) (arrows : List Arrow) → IsState g from ms ss ds last rank → IsPermutation ds (d ∷ rest) → All (λ (y : Due). is_gt (key_cmp d.key y.key) ≡ false) rest → IsTaken rest d x q → n ≡ length steps → steps ≡ ss ++ record { before = x.before; arrow = a } ∷ [] → a ≡ arrow_of x → r ≡ rank_behind rank last x.key n → arrows ≡ row.items → IsPermutation (q ++ map (due_behind x.key r n) arrows) now → x.to < length ms → mark ms x.to ≡ None → slice_get g.nodes.items x.to ≡ Some row
    → IsState g from (slice_set ms x.to (Some n)) steps now x.key r × (length now + open_marks (slice_set ms x.to (Some n)) g.nodes.items < length ds + open_marks ms g.nodes.items)
taken_so g from ms ss ds rest q now last rank n d x row steps a r arrows s popped least t count same own ranked read pushed inside none at =
    let whole : IsPermutation ds (x ∷ (t.left ++ q)) = IsPermutation-trans ds (d ∷ rest) (x ∷ (t.left ++ q)) popped t.all in
    let front : All (λ (y : Due). is_gt (key_cmp d.key y.key) ≡ false) (d ∷ rest) = All-cons (λ (y : Due). is_gt (key_cmp d.key y.key) ≡ false) d rest (not_behind_itself d.key) least in
    let all : All (λ (y : Due). is_gt (key_cmp d.key y.key) ≡ false) (t.left ++ q) = All-tail (λ (y : Due). is_gt (key_cmp d.key y.key) ≡ false) x (t.left ++ q) (All-permutation (λ (y : Due). is_gt (key_cmp d.key y.key) ≡ false) (d ∷ rest) (x ∷ (t.left ++ q)) t.all front) in
    let put : IsPermutation ((t.left ++ q) ++ map (due_behind x.key r n) arrows) (t.left ++ now) =
    subst (λ (l : List Due). IsPermutation l (t.left ++ now)) (sym (append_assoc t.left q (map (due_behind x.key r n) arrows))) (IsPermutation-append_right t.left (q ++ map (due_behind x.key r n) arrows) now pushed) in
    let both = entered_so g from ms ss ds (t.left ++ q) (t.left ++ now) last rank n x row steps a r arrows s whole (subst (λ (k : Key). All (λ (y : Due). is_gt (key_cmp k y.key) ≡ false) (t.left ++ q)) (sym t.key) all) count same own ranked read put inside none at in
    let known : IsSome (mark (slice_set ms x.to (Some n)) x.to) = ap is_some (mark_here ms x.to n inside) in
    let less = both.1 in
    let long = length-append t.left now in (
      all_left_out g from (slice_set ms x.to (Some n)) steps t.left now x.key r x.to known t.same both.0,
      omega (arith, less, long),
    )
