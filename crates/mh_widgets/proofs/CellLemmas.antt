-- Cells: two parts of a list's items as one list of the objects that they are.
use Rattle.std.specs.Prelude.{◌≡◌, ℕ, zero, suc, ◌-◌, ◌<◌, ◌≤◌, slice_get, Bool, true, false, ◌||◌, if◌then◌else◌, List, [], ◌∷◌, ◌++◌, length, take, drop, map, refl}
use Rattle.std.proofs.Common.{rules, ap, ◌∙◌, sym, arith, append_assoc}
use Rattle.std.specs.List.{zip, drop-map, take-map}
use Rattle.std.proofs.lemmas.List.{length-map, append-nil}
use Rattle.std.proofs.lemmas.List.Folds.{list_any-append}
use Rattle.mh_base.specs.declared.obj_ref.ObjRef.{ObjRef}
use Rattle.mh_group.specs.declared.written.Position.{Position}
use Rattle.mh_model.specs.declared.object.listing.Entry.{Entry}
use Rattle.mh_model.specs.ListItems.{has_item}
use Rattle.mh_model.specs.Reference.{same_ref}
use Rattle.mh_model.specs.Lists.{objects_of, is_shown}

-- What is in the cells

abbrev object_of : Entry → ObjRef
object_of e = e.object

pub take_both : {X : Type 0} (n : ℕ) (xs ys : List X) → take n (xs ++ ys) ≡ take n xs ++ take (n - length (take n xs)) ys
take_both zero xs ys = refl
take_both {X = X} (suc n) [] ys =
    let all : suc n - 0 ≡ suc n = omega arith in
    ap (λ (m : ℕ). take m ys) (sym all)
take_both {X = X} (suc n) (x ∷ xs) ys =
    let less : suc n - length (x ∷ take n xs) ≡ n - length (take n xs) = omega arith in
    ap (λ (t : List X). x ∷ t) (take_both n xs ys ∙ ap (λ (m : ℕ). take n xs ++ take m ys) (sym less))

pub cells_of : (n k : ℕ) (w : Bool) (es some wrapped : List Entry) → some ≡ take n (drop k es) → wrapped ≡ (if w then take (n - length some) (take k es) else []) → objects_of some ++ objects_of wrapped ≡ take n (drop k (objects_of es) ++ (if w then take k (objects_of es) else []))
cells_of n k true es some wrapped front back =
    rw (drop-map object_of k es, take-map object_of k es, take_both n (map object_of (drop k es)) (map object_of (take k es)), take-map object_of n (drop k es), ← front, length-map some object_of, take-map object_of (n - length some) (take k es), back) refl
cells_of n k false es some wrapped front back =
    rw (drop-map object_of k es, append-nil (map object_of (drop k es)), take-map object_of n (drop k es), ← front, back) (append-nil (map object_of some))

-- Whether one is in a cell

shown_among : (r : ObjRef) (es : List Entry) → is_shown r (objects_of es) ≡ has_item r es
shown_among r [] = refl
shown_among r (e ∷ es) = ap (λ (t : Bool). same_ref r e.object || t) (shown_among r es)

shown_in_both : (r : ObjRef) (es fs : List Entry) → is_shown r (objects_of es ++ objects_of fs) ≡ (has_item r es || has_item r fs)
shown_in_both r es fs = list_any-append (same_ref r) (objects_of es) (objects_of fs) ∙ rw (shown_among r es, shown_among r fs) refl

pub shown_first : (r : ObjRef) (es fs : List Entry) (b : Bool) → b ≡ true → b ≡ has_item r es → b ≡ is_shown r (objects_of es ++ objects_of fs)
shown_first r es fs true is found = rw (shown_in_both r es fs, ← found) refl
shown_first r es fs false is found = absurd cc

pub shown_second : (r : ObjRef) (es fs : List Entry) (x b : Bool) → x ≡ false → x ≡ has_item r es → b ≡ has_item r fs → b ≡ is_shown r (objects_of es ++ objects_of fs)
shown_second r es fs x b is other found = rw (shown_in_both r es fs, ← other, is) found

-- What is placed of both parts

pub zip-both : {K X : Type 0} (rs ss : List K) (ps : List X) → zip (rs ++ ss) ps ≡ zip rs ps ++ zip ss (drop (length rs) ps)
zip-both [] ss ps = refl
zip-both (r ∷ rs) [] [] = refl
zip-both (r ∷ rs) (s ∷ ss) [] = refl
zip-both {K = K} {X = X} (r ∷ rs) ss (p ∷ ps) = ap (λ (t : List (K × X)). (r, p) ∷ t) (zip-both rs ss ps)

pub placed_both : (es fs : List Entry) (ps left : List Position) (before middle after : List (ObjRef × Position)) → left ≡ drop (length es) ps → middle ≡ before ++ zip (objects_of es) ps → after ≡ middle ++ zip (objects_of fs) left → after ≡ before ++ zip (objects_of es ++ objects_of fs) ps
placed_both es fs ps left before middle after behind one two =
    let both : zip (objects_of es ++ objects_of fs) ps ≡ zip (objects_of es) ps ++ zip (objects_of fs) left =
    zip-both (objects_of es) (objects_of fs) ps
    ∙ ap (λ (n : ℕ). zip (objects_of es) ps ++ zip (objects_of fs) (drop n ps)) (length-map es object_of)
    ∙ ap (λ (t : List Position). zip (objects_of es) ps ++ zip (objects_of fs) t) (sym behind) in
    two ∙ ap (λ (t : List (ObjRef × Position)). t ++ zip (objects_of fs) left) one
    ∙ append_assoc before (zip (objects_of es) ps) (zip (objects_of fs) left)
    ∙ ap (λ (t : List (ObjRef × Position)). before ++ t) (sym both)

-- a member of two lists of objects, by its place: in the one, or behind it in the other

pub got_front : (es : List Entry) (ys : List ObjRef) (k : ℕ) → k < length es → slice_get (objects_of es ++ ys) k ≡ slice_get (objects_of es) k
got_front [] ys k h = absurd (search (rules, h))
got_front (e ∷ es) ys zero h = refl
got_front (e ∷ es) ys (suc k) h = got_front es ys k (search (rules, h))

pub got_behind : (es : List Entry) (ys : List ObjRef) (k : ℕ) → length es ≤ k → slice_get (objects_of es ++ ys) k ≡ slice_get ys (k - length es)
got_behind [] ys k h = ap (slice_get ys) (same k)
  where
    same : (n : ℕ) → n ≡ n - 0
    same n = omega arith
got_behind (e ∷ es) ys zero h = absurd (search (rules, h))
got_behind (e ∷ es) ys (suc k) h = got_behind es ys k (search (rules, h)) ∙ ap (slice_get ys) (less k (length es))
  where
    less : (n m : ℕ) → n - m ≡ suc n - suc m
    less n m = omega arith
