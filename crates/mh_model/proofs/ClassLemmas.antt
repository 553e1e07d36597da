-- What is named of what is wrong with many objects is named of the first of each class.
use Rattle.std.specs.Prelude.{◌≡◌, ◌<◌, ◌≤◌, ℕ, Bool, true, false, nat_lt, if◌then◌else◌, List, [], ◌∷◌, ◌++◌, map, Option, Some, None, refl, ◌==◌}
use Rattle.std.specs.List.{find, flat_map, list_any}
use Rattle.std.proofs.Common.{ap, sym, subst, ◌∙◌, arith, eqb-true}
use Rattle.std.proofs.lemmas.Bool.{ltb-true, ltb-false, le-ltb}
use Rattle.std.proofs.lemmas.List.Folds.{list_any-append}
use Rattle.mh_base.specs.declared.obj_ref.ObjRef.{ObjRef}
use Rattle.mh_base.specs.declared.value.Kind.{Kind}
use Rattle.mh_group.specs.declared.action_name.ActionName.{ActionName}
use Rattle.mh_group.specs.declared.class.Class.{Class}
use Rattle.mh_group.specs.declared.class.Class.TheVariants as class
use Rattle.mh_group.specs.Table.{admits, class_number}
use Rattle.mh_group.specs.Words.{classes}
use Rattle.mh_model.specs.declared.fault.Reason.{Reason}
use Rattle.mh_model.specs.declared.fault.Reason.TheVariants as reason
use Rattle.mh_model.specs.Faults.{Wrong, Ranking, rank_of, is_named, better, least, is_transition, unless, object_wrongs, target_class, admitted_wrongs, takes_object, named_wrongs, target_takes, untaken, untaken_through}
use Rattle.mh_model.specs.Known.{Known, same_class, each_class_behind, each_class}
use Rattle.mh_model.proofs.LeastLemmas.{least_append}

-- One class by its number

class_found : (c : Class) → find (λ (d : Class). class_number d == class_number c) classes ≡ Some c
class_found class.Application = refl
class_found _ = refl

pub one_class : (c d : Option Class) → same_class c d ≡ true → c ≡ d
one_class None None h = refl
one_class None (Some d) h = absurd cc
one_class (Some c) None h = absurd cc
one_class (Some c) (Some d) h =
    sym (class_found c)
    ∙ ap (λ (n : ℕ). find (λ (e : Class). class_number e == n) classes) (eqb-true (class_number c) (class_number d) h)
    ∙ class_found d

-- How late the best so far is named

abbrev pub rank_so_far : Ranking → Option Wrong → Option ℕ
rank_so_far rank None = None
rank_so_far rank (Some w) = rank_of rank w

abbrev pub is_before : Option ℕ → Option ℕ → Bool
is_before None o = false
is_before (Some n) None = true
is_before (Some n) (Some m) = nat_lt n m

named_before : (rank : Ranking) (b : Option Wrong) (o : Option ℕ) → is_named rank b o ≡ is_before o (rank_so_far rank b)
named_before rank None None = refl
named_before rank None (Some n) = refl
named_before rank (Some w) None = refl
named_before rank (Some w) (Some n) = by (rank_of rank w) refl
  where
    by : (o : Option ℕ) → rank_of rank w ≡ o → is_named rank (Some w) (Some n) ≡ is_before (Some n) (rank_of rank w)
    by None e = rw e refl
    by (Some m) e = rw e refl

abbrev pub first_of_two : Option ℕ → Option ℕ → Option ℕ
first_of_two n o = if is_before n o then n else o

rank_of_better : (rank : Ranking) (b : Option Wrong) (w : Wrong) → rank_so_far rank (better rank b w) ≡ first_of_two (rank_of rank w) (rank_so_far rank b)
rank_of_better rank b w = by (is_named rank b (rank_of rank w)) refl
  where
    by : (t : Bool) → is_named rank b (rank_of rank w) ≡ t → rank_so_far rank (better rank b w) ≡ first_of_two (rank_of rank w) (rank_so_far rank b)
    by true e =
        let before : is_before (rank_of rank w) (rank_so_far rank b) ≡ true = sym (named_before rank b (rank_of rank w)) ∙ e in
        rw (e, before) refl
    by false e =
        let before : is_before (rank_of rank w) (rank_so_far rank b) ≡ false = sym (named_before rank b (rank_of rank w)) ∙ e in
        rw (e, before) refl

-- what is before neither of the two is not before the first of them
before_neither : (n m o : Option ℕ) → is_before n o ≡ false → is_before n (first_of_two m o) ≡ false
before_neither None m o h = refl
before_neither (Some n) m None h = absurd cc
before_neither (Some n) None (Some o) h = h
before_neither (Some n) (Some m) (Some o) h = by (nat_lt m o) refl
  where
    by : (t : Bool) → nat_lt m o ≡ t → is_before (Some n) (first_of_two (Some m) (Some o)) ≡ false
    by true e =
        let lower : m < o = ltb-true m o e in
        let higher : o ≤ n = ltb-false n o h in
        rw e (le-ltb n m (omega (arith, lower, higher)))
    by false e = rw e h

before_itself : (n o : Option ℕ) → is_before n (first_of_two n o) ≡ false
before_itself None o = refl
before_itself (Some n) None = le-ltb n n (omega arith)
before_itself (Some n) (Some o) = by (nat_lt n o) refl
  where
    by : (t : Bool) → nat_lt n o ≡ t → is_before (Some n) (first_of_two (Some n) (Some o)) ≡ false
    by true e = rw e (le-ltb n n (omega arith))
    by false e = rw e e

-- none of these ranks is before that one
abbrev pub AreBehind : Option ℕ → List (Option ℕ) → Type 0
AreBehind o [] = Unit {0}
AreBehind o (n ∷ ns) = (is_before n o ≡ false) × AreBehind o ns

abbrev pub ranks : Ranking → List Wrong → List (Option ℕ)
ranks rank ws = map (rank_of rank) ws

behind_better : (rank : Ranking) (b : Option Wrong) (w : Wrong) (ns : List (Option ℕ)) → AreBehind (rank_so_far rank b) ns → AreBehind (rank_so_far rank (better rank b w)) ns
behind_better rank b w [] h = tt
behind_better rank b w (n ∷ ns) h = (
  subst (λ (o : Option ℕ). is_before n o ≡ false) (sym (rank_of_better rank b w)) (before_neither n (rank_of rank w) (rank_so_far rank b) h.0),
  behind_better rank b w ns h.1,
)

behind_least : (rank : Ranking) (b : Option Wrong) (ws : List Wrong) (ns : List (Option ℕ)) → AreBehind (rank_so_far rank b) ns → AreBehind (rank_so_far rank (least rank b ws)) ns
behind_least rank b [] ns h = h
behind_least rank b (w ∷ ws) ns h = behind_least rank (better rank b w) ws ns (behind_better rank b w ns h)

-- what was looked at is behind what is named of it
behind_own : (rank : Ranking) (b : Option Wrong) (ws : List Wrong) → AreBehind (rank_so_far rank (least rank b ws)) (ranks rank ws)
behind_own rank b [] = tt
behind_own rank b (w ∷ ws) =
    let itself : AreBehind (rank_so_far rank (better rank b w)) (rank_of rank w ∷ []) =
    (subst (λ (o : Option ℕ). is_before (rank_of rank w) o ≡ false) (sym (rank_of_better rank b w)) (before_itself (rank_of rank w) (rank_so_far rank b)), tt) in
    ((behind_least rank (better rank b w) ws (rank_of rank w ∷ []) itself).0, behind_own rank (better rank b w) ws)

-- what is behind the best so far leaves it
least_behind : (rank : Ranking) (b : Option Wrong) (ws : List Wrong) → AreBehind (rank_so_far rank b) (ranks rank ws) → least rank b ws ≡ b
least_behind rank b [] h = refl
least_behind rank b (w ∷ ws) h =
    let stays : better rank b w ≡ b = rw (named_before rank b (rank_of rank w) ∙ h.0) refl in
    ap (λ (c : Option Wrong). least rank c ws) stays ∙ least_behind rank b ws h.1

-- Objects of one class

-- what is wrong with objects of one class is of the same ranks, whichever of them it is
pub record IsByClass (rank : Ranking) (class_of : ObjRef → Option Class) (at : ObjRef → List Wrong) : Type 0 where
  pub same : (q r : ObjRef) → class_of q ≡ class_of r → map (rank_of rank) (at q) ≡ map (rank_of rank) (at r)

-- what is wrong with objects of these classes is behind the best so far
abbrev pub AreMet : Ranking → (ObjRef → Option Class) → (ObjRef → List Wrong) → Option Wrong → List (Option Class) → Type 0
AreMet rank class_of at b cs = (r : ObjRef) → list_any (same_class (class_of r)) cs ≡ true → AreBehind (rank_so_far rank b) (ranks rank (at r))

met_next : (rank : Ranking) (class_of : ObjRef → Option Class) (at : ObjRef → List Wrong) → IsByClass rank class_of at
    → (b : Option Wrong) (cs : List (Option Class)) (r : ObjRef) → AreMet rank class_of at b cs → AreMet rank class_of at (least rank b (at r)) (cs ++ class_of r ∷ [])
met_next rank class_of at by_class b cs r met q h = by (list_any (same_class (class_of q)) cs) refl (same_class (class_of q) (class_of r)) refl
  where
    by : (t : Bool) → list_any (same_class (class_of q)) cs ≡ t → (u : Bool) → same_class (class_of q) (class_of r) ≡ u → AreBehind (rank_so_far rank (least rank b (at r))) (ranks rank (at q))
    by true e u f = behind_least rank b (at r) (ranks rank (at q)) (met q e)
    by false e true f = subst (λ (ns : List (Option ℕ)). AreBehind (rank_so_far rank (least rank b (at r))) ns) (sym (by_class.same q r (one_class (class_of q) (class_of r) f))) (behind_own rank b (at r))
    by false e false f =
        let neither : list_any (same_class (class_of q)) (cs ++ class_of r ∷ []) ≡ false = list_any-append (same_class (class_of q)) cs (class_of r ∷ []) ∙ rw (e, f) refl in
        absurd (cc (h, neither))

least_each_behind : (rank : Ranking) (class_of : ObjRef → Option Class) (at : ObjRef → List Wrong) → IsByClass rank class_of at
    → (b : Option Wrong) (cs : List (Option Class)) (rs : List ObjRef) → AreMet rank class_of at b cs
    → least rank b (flat_map at (each_class_behind class_of cs rs)) ≡ least rank b (flat_map at rs)
least_each_behind rank class_of at by_class b cs [] met = refl
least_each_behind rank class_of at by_class b cs (r ∷ rs) met =
    by (λ c ds. least_each_behind rank class_of at by_class c ds rs) (list_any (same_class (class_of r)) cs) refl
  where
    by : ((c : Option Wrong) (ds : List (Option Class)) → AreMet rank class_of at c ds → least rank c (flat_map at (each_class_behind class_of ds rs)) ≡ least rank c (flat_map at rs))
        → (t : Bool) → list_any (same_class (class_of r)) cs ≡ t → least rank b (flat_map at (each_class_behind class_of cs (r ∷ rs))) ≡ least rank b (flat_map at (r ∷ rs))
    by behind true e =
        let stays : least rank b (at r) ≡ b = least_behind rank b (at r) (met r e) in
        let all : least rank b (flat_map at (r ∷ rs)) ≡ least rank b (flat_map at rs) =
        least_append rank b (at r) (flat_map at rs) ∙ ap (λ (c : Option Wrong). least rank c (flat_map at rs)) stays in
        rw e (behind b cs met ∙ sym all)
    by behind false e =
        let next = behind (least rank b (at r)) (cs ++ class_of r ∷ []) (met_next rank class_of at by_class b cs r met) in
        rw e (least_append rank b (at r) (flat_map at (each_class_behind class_of (cs ++ class_of r ∷ []) rs)) ∙ next ∙ sym (least_append rank b (at r) (flat_map at rs)))

-- What is named of all is named of the first of each class.
pub least_each_class : (rank : Ranking) (class_of : ObjRef → Option Class) (at : ObjRef → List Wrong) → IsByClass rank class_of at
    → (b : Option Wrong) (rs : List ObjRef) → least rank b (flat_map at (each_class class_of rs)) ≡ least rank b (flat_map at rs)
least_each_class rank class_of at by_class b rs = least_each_behind rank class_of at by_class b [] rs (λ r h. absurd cc)

-- Lists whose first of each class are the same are judged alike.
pub least_alike : (rank : Ranking) (class_of : ObjRef → Option Class) (at : ObjRef → List Wrong) → IsByClass rank class_of at
    → (b : Option Wrong) (qs rs : List ObjRef) → each_class class_of qs ≡ each_class class_of rs → least rank b (flat_map at qs) ≡ least rank b (flat_map at rs)
least_alike rank class_of at by_class b qs rs alike =
    sym (least_each_class rank class_of at by_class b qs)
    ∙ ap (λ (ps : List ObjRef). least rank b (flat_map at ps)) alike
    ∙ least_each_class rank class_of at by_class b rs

-- The places of an action at which the class of an object tells what is wrong with it

unless_alike : (rank : Ranking) (b : Bool) (why : Reason) (v : Option ObjRef) (q r : ObjRef) → ranks rank (unless b why v q) ≡ ranks rank (unless b why v r)
unless_alike rank true why v q r = refl
unless_alike rank false why v q r = refl

object_alike : (rank : Ranking) (is : Class → Bool) (v : Option ObjRef) (q r : ObjRef) (c : Option Class) → ranks rank (object_wrongs is v q c) ≡ ranks rank (object_wrongs is v r c)
object_alike rank is v q r None = refl
object_alike rank is v q r (Some c) = unless_alike rank (is c) reason.WrongClass v q r

pub named_by_class : (rank : Ranking) (k : Known) (n : ActionName) (v : Option ObjRef) → IsByClass rank k.class_of (named_wrongs k n v)
named_by_class rank k n v = record {
  same = λ q r e.
      object_alike rank (takes_object n) v q r (k.class_of q)
      ∙ ap (λ (c : Option Class). ranks rank (object_wrongs (takes_object n) v r c)) e;
}

-- to a transition it is the class of the group that counts
pub admitted_by_class : (rank : Ranking) (k : Known) (n : ActionName) (v : Option ObjRef) → is_transition n ≡ false → IsByClass rank k.class_of (admitted_wrongs k n v)
admitted_by_class rank k n v other = record {
  same = λ q r e.
      ap (λ (c : Option Class). ranks rank (object_wrongs (λ d. admits d n) v q c)) (by q)
      ∙ object_alike rank (λ d. admits d n) v q r (k.class_of q)
      ∙ ap (λ (c : Option Class). ranks rank (object_wrongs (λ d. admits d n) v r c)) (e ∙ sym (by r));
}
  where
    by : (q : ObjRef) → target_class k n q ≡ k.class_of q
    by q = rw other refl

pub untaken_by_class : (rank : Ranking) (k : Known) (is : Kind → Bool) (v : Option ObjRef) → IsByClass rank k.class_of (untaken k is v)
untaken_by_class rank k is v = record {
  same = λ q r e.
      unless_alike rank (target_takes is (k.class_of q)) reason.WrongKind v q r
      ∙ ap (λ (c : Option Class). ranks rank (unless (target_takes is c) reason.WrongKind v r)) e;
}

pub untaken_through_by_class : (rank : Ranking) (k : Known) (is : Kind → Bool) (v : ObjRef) → IsByClass rank k.class_of (untaken_through k is v)
untaken_through_by_class rank k is v = record {
  same = λ q r e. ap (λ (c : Option Class). ranks rank (unless (target_takes is c) reason.WrongKind None v)) e;
}
