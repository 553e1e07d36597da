-- The places of the objects that are named by their references.
use Rattle.std.specs.Prelude.{◌≡◌, ℕ, zero, suc, ◌+◌, ◌<◌, ◌≤◌, nat_eq, Bool, true, false, ◌&&◌, ◌||◌, if◌then◌else◌, List, [], ◌∷◌, ◌++◌, drop, length, slice_get, Option, Some, refl}
use Rattle.std.specs.List.{list_any, flat_map, AllByRecursion, IsDistinct}
use Rattle.std.specs.List.Sorted.{IsStrictlySortedBy}
use Rattle.std.specs.Map.{keys_of}
use Rattle.std.specs.Ordering.{nat_cmp}
use Rattle.std.specs.Str.{bytes_eq}
use Rattle.std.specs.Cmp.{nat_cmp_is}
use Rattle.std.specs.declared.cmp.Ordering.TheVariants.{Less}
use Rattle.std.proofs.Common.{ap, sym, subst, ◌∙◌, arith}
use Rattle.std.proofs.lemmas.Bool.Decides.{same_from_decides, Decides-eqb}
use Rattle.std.proofs.lemmas.Bool.{eqb-true}
use Rattle.std.proofs.lemmas.List.{append_assoc, append-nil, drop_all, length-append}
use Rattle.std.proofs.lemmas.List.Folds.{list_any-append}
use Rattle.std.proofs.lemmas.Slice.Eq.{bytes_eq-Decides}
use Rattle.mh_base.specs.declared.obj_ref.ObjRef.{ObjRef}
use Rattle.mh_model.specs.declared.object.Object.{Object}
use Rattle.mh_model.specs.Reference.{same_ref}
use Rattle.mh_model.specs.State.{Objects, all}
use Rattle.mh_store.specs.declared.ready.Ready.{Ready}
use Rattle.mh_store.specs.Bringing.{found_ready, ready_from}
use Rattle.mh_store.specs.Places.{is_among, places_from, places_at, places_under}
use Rattle.mh_store.specs.Table.{IsKeyed, IsPlace, key_of, objects_of}
use Rattle.mh_store.proofs.RisingLemmas.{same_rising}

-- They rise.

all_later : (m n : ℕ) (is : ObjRef → Bool) (os : List Object) → m < n → AllByRecursion (λ k. nat_cmp m k ≡ Less) (places_from n is os)
all_later m n is [] low = tt
all_later m n is (o ∷ os) low = by (is o.fixed.key) (all_later m (n + 1) is os (omega (arith, low)))
  where
    by : (b : Bool) → AllByRecursion (λ k. nat_cmp m k ≡ Less) (places_from (n + 1) is os) → AllByRecursion (λ k. nat_cmp m k ≡ Less) ((if b then n ∷ [] else []) ++ places_from (n + 1) is os)
    by true behind = (sym (nat_cmp_is m n Less low), behind)
    by false behind = behind

places_rise : (n : ℕ) (is : ObjRef → Bool) (os : List Object) → IsStrictlySortedBy nat_cmp (places_from n is os)
unfolding IsStrictlySortedBy
places_rise n is [] = tt
places_rise n is (o ∷ os) = by (is o.fixed.key) (places_rise (n + 1) is os)
  where
    by : (b : Bool) → IsStrictlySortedBy nat_cmp (places_from (n + 1) is os) → IsStrictlySortedBy nat_cmp ((if b then n ∷ [] else []) ++ places_from (n + 1) is os)
    by true behind = (all_later n (n + 1) is os (omega arith), behind)
    by false behind = behind

-- Those of several references are those of each.

either_place : (k n : ℕ) (is it : ObjRef → Bool) (os : List Object) → list_any (nat_eq k) (places_from n (λ r. is r || it r) os) ≡ (list_any (nat_eq k) (places_from n is os) || list_any (nat_eq k) (places_from n it os))
either_place k n is it [] = refl
either_place k n is it (o ∷ os) =
    by (is o.fixed.key) (it o.fixed.key) (either_place k (n + 1) is it os)
  where
    at : Bool → Bool → Bool → Bool
    at true e p = e || p
    at false e p = p

    joined : (a b e p q : Bool) → at (a || b) e (p || q) ≡ (at a e p || at b e q)
    joined false false e p q = refl
    joined true b true p q = refl
    joined true true false p q = refl
    joined true false false p q = refl
    joined false true true true q = refl
    joined false true true false q = refl
    joined false true false p q = refl

    placed : (a : Bool) (ks : List ℕ) → list_any (nat_eq k) ((if a then n ∷ [] else []) ++ ks) ≡ at a (nat_eq k n) (list_any (nat_eq k) ks)
    placed true ks = refl
    placed false ks = refl

    by : (a b : Bool) → list_any (nat_eq k) (places_from (n + 1) (λ r. is r || it r) os) ≡ (list_any (nat_eq k) (places_from (n + 1) is os) || list_any (nat_eq k) (places_from (n + 1) it os))
        → list_any (nat_eq k) ((if a || b then n ∷ [] else []) ++ places_from (n + 1) (λ r. is r || it r) os)
        ≡ (list_any (nat_eq k) ((if a then n ∷ [] else []) ++ places_from (n + 1) is os) || list_any (nat_eq k) ((if b then n ∷ [] else []) ++ places_from (n + 1) it os))
    by a b behind =
        placed (a || b) (places_from (n + 1) (λ r. is r || it r) os)
        ∙ ap (at (a || b) (nat_eq k n)) behind
        ∙ joined a b (nat_eq k n) (list_any (nat_eq k) (places_from (n + 1) is os)) (list_any (nat_eq k) (places_from (n + 1) it os))
        ∙ (λ i. sym (placed a (places_from (n + 1) is os)) i || sym (placed b (places_from (n + 1) it os)) i)

no_places : (n : ℕ) (os : List Object) → [] ≡ places_from n (is_among []) os
no_places n [] = refl
no_places n (o ∷ os) = no_places (n + 1) os

among_places : (k n : ℕ) (rs : List ObjRef) (os : List Object) → list_any (nat_eq k) (flat_map (places_at n os) rs) ≡ list_any (nat_eq k) (places_from n (is_among rs) os)
among_places k n [] os = ap (list_any (nat_eq k)) (no_places n os)
among_places k n (r ∷ rs) os =
    list_any-append (nat_eq k) (places_at n os r) (flat_map (places_at n os) rs)
    ∙ ap (λ (b : Bool). list_any (nat_eq k) (places_at n os r) || b) (among_places k n rs os)
    ∙ sym (either_place k n (λ x. same_ref x r) (is_among rs) os)

-- what was found of each, when all have been asked for
pub all_asked : (n k : ℕ) (rs : List ObjRef) (os : List Object) (found : List ℕ) → length rs ≤ k → found ++ flat_map (places_at n os) (drop k rs) ≡ flat_map (places_at n os) rs → found ≡ flat_map (places_at n os) rs
all_asked n k rs os found over so_far =
    sym (append-nil found) ∙ ap (λ (ss : List ObjRef). found ++ flat_map (places_at n os) ss) (sym (drop_all k rs over)) ∙ so_far

-- and brought into order
pub found_risen : (n : ℕ) (rs : List ObjRef) (os : List Object) (found risen : List ℕ) → found ≡ flat_map (places_at n os) rs → IsStrictlySortedBy nat_cmp risen → ((k : ℕ) → list_any (nat_eq k) risen ≡ list_any (nat_eq k) found)
    → risen ≡ places_from n (is_among rs) os
found_risen n rs os found risen is rises same =
    same_rising risen (places_from n (is_among rs) os) rises (places_rise n (is_among rs) os)
    (λ k. same k ∙ ap (list_any (nat_eq k)) is ∙ among_places k n rs os)

-- Those of two lists that stand one behind the other

joined_from : (n m : ℕ) (is : ObjRef → Bool) (os ps : List Object) → m ≡ n + length os → places_from n is (os ++ ps) ≡ places_from n is os ++ places_from m is ps
joined_from n m is [] ps at =
    let same : n ≡ m = omega (arith, at) in
    ap (λ (k : ℕ). places_from k is ps) same
joined_from n m is (o ∷ os) ps at = by (is o.fixed.key) (joined_from (n + 1) m is os ps (omega (arith, at)))
  where
    by : (b : Bool) → places_from (n + 1) is (os ++ ps) ≡ places_from (n + 1) is os ++ places_from m is ps → (if b then n ∷ [] else []) ++ places_from (n + 1) is (os ++ ps) ≡ ((if b then n ∷ [] else []) ++ places_from (n + 1) is os) ++ places_from m is ps
    by true behind = ap (λ (ks : List ℕ). n ∷ ks) behind
    by false behind = behind

pub both_places : (is : ObjRef → Bool) (os : Objects) (first second both : List ℕ) (m : ℕ) → m ≡ length os.application → first ≡ places_from 0 is os.application → second ≡ places_from m is os.scene → both ≡ first ++ second → both ≡ places_from 0 is (all os)
both_places is os first second both m at own others joined =
    joined ∙ (λ i. own i ++ others i) ∙ sym (joined_from 0 m is os.application os.scene (omega (arith, at)))

-- The table has at most one object under a number.

none_under : (n k : ℕ) (es : List (ℕ × Object)) → AllByRecursion (λ x. nat_eq k x ≡ false) (keys_of es) → places_under n k es ≡ []
none_under n k [] none = refl
none_under n k (e ∷ es) none =
    ap (λ (b : Bool). (if b then n ∷ [] else []) ++ places_under (n + 1) k es) none.0 ∙ none_under (n + 1) k es none.1

pub place_under : (n k i : ℕ) (es : List (ℕ × Object)) → IsDistinct nat_eq (keys_of es) → IsPlace k es i → i < length es → places_under n k es ≡ (n + i) ∷ []
unfolding IsDistinct
place_under n k i [] distinct at inside = absurd (omega (arith, inside))
place_under n k zero (e ∷ es) distinct at inside =
    let here : k ≡ e.0 = eqb-true k e.0 at in
    let same : n ≡ n + zero = omega arith in
    ap (λ (b : Bool). (if b then n ∷ [] else []) ++ places_under (n + 1) k es) at
    ∙ ap (λ (ks : List ℕ). n ∷ ks) (none_under (n + 1) k es (subst (λ (x : ℕ). AllByRecursion (λ y. nat_eq x y ≡ false) (keys_of es)) (sym here) distinct.0))
    ∙ ap (λ (j : ℕ). j ∷ []) same
place_under n k (suc i) (e ∷ es) distinct at inside =
    let next : (n + 1) + i ≡ n + suc i = omega arith in
    ap (λ (b : Bool). (if b then n ∷ [] else []) ++ places_under (n + 1) k es) at.0
    ∙ place_under (n + 1) k i es distinct.1 at.1 (omega (arith, inside))
    ∙ ap (λ (j : ℕ). j ∷ []) next

pub behind_under : (n k i : ℕ) (es : List (ℕ × Object)) → IsPlace k es i → length es ≤ i → places_under n k es ≡ []
behind_under n k i [] at past = refl
behind_under n k zero (e ∷ es) at past = absurd (omega (arith, past))
behind_under n k (suc i) (e ∷ es) at past =
    ap (λ (b : Bool). (if b then n ∷ [] else []) ++ places_under (n + 1) k es) at.0
    ∙ behind_under (n + 1) k i es at.1 (omega (arith, past))

-- A reference that names the group leads to what stands under its number, and any other to nothing.

flip_bytes : (a b : List ℕ) → bytes_eq a b ≡ bytes_eq b a
flip_bytes a b =
    same_from_decides (bytes_eq a b) (bytes_eq b a) (bytes_eq-Decides a b)
    (λ e. sym ((bytes_eq-Decides b a).0 e), λ e. (bytes_eq-Decides b a).1 (sym e))

flip_numbers : (a b : ℕ) → nat_eq a b ≡ nat_eq b a
flip_numbers a b =
    same_from_decides (nat_eq a b) (nat_eq b a) (Decides-eqb a b)
    (λ e. sym ((Decides-eqb b a).0 e), λ e. (Decides-eqb b a).1 (sym e))

named_here : (r : ObjRef) (g : List ℕ) (e : ℕ × Object) → e.1.fixed.key ≡ key_of g e.0 → same_ref e.1.fixed.key r ≡ (bytes_eq r.group g && nat_eq r.number e.0)
named_here r g e keyed = ap (λ (k : ObjRef). same_ref k r) keyed ∙ (λ i. flip_bytes g r.group i && flip_numbers e.0 r.number i)

pub places_here : (n : ℕ) (r : ObjRef) (g : List ℕ) (es : List (ℕ × Object)) → bytes_eq r.group g ≡ true → IsKeyed g es → places_under n r.number es ≡ places_at n (objects_of es) r
places_here n r g [] own keyed = refl
places_here n r g (e ∷ es) own keyed =
    let one : nat_eq r.number e.0 ≡ same_ref e.1.fixed.key r =
    sym (named_here r g e keyed.0 ∙ ap (λ (b : Bool). b && nat_eq r.number e.0) own) in
    λ i. (if one i then n ∷ [] else []) ++ places_here (n + 1) r g es own keyed.1 i

pub places_elsewhere : (n : ℕ) (r : ObjRef) (g : List ℕ) (es : List (ℕ × Object)) → bytes_eq r.group g ≡ false → IsKeyed g es → places_at n (objects_of es) r ≡ []
places_elsewhere n r g [] other keyed = refl
places_elsewhere n r g (e ∷ es) other keyed =
    let none : same_ref e.1.fixed.key r ≡ false =
    named_here r g e keyed.0 ∙ ap (λ (b : Bool). b && nat_eq r.number e.0) other in
    ap (λ (b : Bool). (if b then n ∷ [] else []) ++ places_at (n + 1) (objects_of es) r) none
    ∙ places_elsewhere (n + 1) r g es other keyed.1

-- Objects that are gone over by their places

-- what comes of those that are meant, the first of which stands at this place
abbrev pub told_from : {X : Type 0} → ℕ → (ℕ → Option Object → List X) → (ObjRef → Bool) → List Object → List X
told_from n f is [] = []
told_from n f is (o ∷ os) = (if is o.fixed.key then f n (Some o) else []) ++ told_from (n + 1) f is os

seam : (ps os : List Object) (o : Object) (n : ℕ) → n ≡ length ps → slice_get (ps ++ o ∷ os) n ≡ Some o
seam [] os o zero at = refl
seam [] os o (suc n) at = absurd (omega (arith, at))
seam (p ∷ ps) os o zero at = absurd (omega (arith, at))
seam (p ∷ ps) os o (suc n) at = seam ps os o n (omega (arith, at))

pub told_by_places : {X : Type 0} (f : ℕ → Option Object → List X) (is : ObjRef → Bool) (os ps : List Object) (n : ℕ) → n ≡ length ps → flat_map (λ k. f k (slice_get (ps ++ os) k)) (places_from n is os) ≡ told_from n f is os
told_by_places f is [] ps n at = refl
told_by_places f is (o ∷ os) ps n at =
    by (is o.fixed.key)
    (ap (λ (xs : List Object). flat_map (λ k. f k (slice_get xs k)) (places_from (n + 1) is os)) (sym (append_assoc ps (o ∷ []) os))
    ∙ told_by_places f is os (ps ++ o ∷ []) (n + 1) (omega (arith, at, length-append ps (o ∷ []))))
  where
    by : (b : Bool) → flat_map (λ k. f k (slice_get (ps ++ o ∷ os) k)) (places_from (n + 1) is os) ≡ told_from (n + 1) f is os
        → flat_map (λ k. f k (slice_get (ps ++ o ∷ os) k)) ((if b then n ∷ [] else []) ++ places_from (n + 1) is os) ≡ (if b then f n (Some o) else []) ++ told_from (n + 1) f is os
    by true behind = λ i. f n (seam ps os o n at i) ++ behind i
    by false behind = behind

told_ready : (n : ℕ) (is : ObjRef → Bool) (text : List ℕ) (os : List Object) → told_from n (λ k o. found_ready k text o) is os ≡ ready_from n is text os
told_ready n is text [] = refl
told_ready n is text (o ∷ os) = ap (λ (rs : List Ready). (if is o.fixed.key then found_ready n text (Some o) else []) ++ rs) (told_ready (n + 1) is text os)

pub ready_by_places : (is : ObjRef → Bool) (text : List ℕ) (os : List Object) (places : List ℕ) (made : List Ready) → made ≡ [] → places ≡ places_from 0 is os → made ++ flat_map (λ k. found_ready k text (slice_get os k)) places ≡ ready_from 0 is text os
ready_by_places is text os places made none found =
    (λ i. none i ++ flat_map (λ k. found_ready k text (slice_get os k)) (found i))
    ∙ told_by_places (λ k o. found_ready k text o) is os [] 0 refl
    ∙ told_ready 0 is text os
