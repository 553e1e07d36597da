-- How often a reference stands in a list, and in what a list shows and becomes.
use Rattle.std.specs.Prelude.{◌≡◌, ◌⊎◌, ℕ, zero, suc, ◌+◌, ◌-◌, ◌≤◌, ◌==◌, Bool, true, false, ◌&&◌, ◌||◌, not, nat_le, nat_lt, if◌then◌else◌, cond, List, [], ◌∷◌, ◌++◌, length, take, drop, filter, slice_get, Option, Some, None, refl, ℤ, pos, negsuc}
use Rattle.std.specs.List.{position}
use Rattle.std.specs.Option.{option_map}
use Rattle.std.proofs.Common.{arith, inl, inr, ap, sym, subst}
use Rattle.mh_base.specs.declared.obj_ref.ObjRef.{ObjRef}
use Rattle.mh_base.specs.declared.value.Value.{Value}
use Rattle.mh_base.specs.declared.value.Value.TheVariants as value
use Rattle.mh_group.specs.declared.action_name.ActionName.{ActionName}
use Rattle.mh_group.specs.declared.action_name.ActionName.TheVariants as action
use Rattle.mh_model.specs.declared.object.listing.Entry.{Entry}
use Rattle.mh_model.specs.declared.object.Fixed.{Fixed}
use Rattle.mh_model.specs.Listed.{Listed}
use Rattle.mh_model.specs.Lists.{objects_of, wraps, before_first, shows, inserted, removed, first_set, scrolled_to, relisted}
use Rattle.mh_model.specs.Limits.{most_items}
use Rattle.mh_model.specs.ListItems.{has_item}
use Rattle.mh_model.specs.Reference.{same_ref}
use Rattle.mh_model.specs.Tokens.{positions}
use Rattle.mh_laws.specs.Ways.{once, count_of, IsNoMore}
use Rattle.mh_model.proofs.ServiceLemmas.{same_ref-same}

pub count_append : (q : ObjRef) (xs ys : List ObjRef) → count_of q (xs ++ ys) ≡ count_of q xs + count_of q ys
count_append q [] ys = omega arith
count_append q (x ∷ xs) ys =
    let more = count_append q xs ys in
    omega (arith, more)

pub count_filter : (q : ObjRef) (p : ObjRef → Bool) (xs : List ObjRef) → count_of q (filter p xs) ≤ count_of q xs
count_filter q p [] = omega arith
count_filter q p (x ∷ xs) = by (p x) (count_filter q p xs)
  where
    by : (b : Bool) → count_of q (filter p xs) ≤ count_of q xs → count_of q (cond b (x ∷ filter p xs) (filter p xs)) ≤ once (same_ref q x) + count_of q xs
    by true h = omega (arith, h)
    by false h = omega (arith, h)

count_take : (q : ObjRef) (n : ℕ) (xs : List ObjRef) → count_of q (take n xs) ≤ count_of q xs
count_take q zero xs = omega arith
count_take q (suc n) [] = omega arith
count_take q (suc n) (x ∷ xs) = let h = count_take q n xs in omega (arith, h)

count_both : (q : ObjRef) (n : ℕ) (xs : List ObjRef) → count_of q (take n xs) + count_of q (drop n xs) ≡ count_of q xs
count_both q zero xs = omega arith
count_both q (suc n) [] = omega arith
count_both q (suc n) (x ∷ xs) = let h = count_both q n xs in omega (arith, h)

-- what is shown are items, each as often
pub count_shown : (q : ObjRef) (running : Bool) (p : Fixed) (l : Listed) → count_of q (shows running p l).items ≤ count_of q (objects_of l.entries)
count_shown q false p l = omega arith
count_shown q true p l = by (wraps p)
  where
    k : ℕ
    k = before_first l

    os : List ObjRef
    os = objects_of l.entries

    by : (b : Bool) → count_of q (take (length (positions p)) (drop k os ++ (if b then take k os else []))) ≤ count_of q os
    by true =
        let one = count_take q (length (positions p)) (drop k os ++ take k os) in
        let two = count_append q (drop k os) (take k os) in
        let both = count_both q k os in
        omega (arith, one, two, both)
    by false =
        let one = count_take q (length (positions p)) (drop k os ++ []) in
        let two = count_append q (drop k os) [] in
        let both = count_both q k os in
        omega (arith, one, two, both)

-- entries

count_entries : (q : ObjRef) (es : List Entry) → ℕ
count_entries q es = count_of q (objects_of es)

pub entries_append : (q : ObjRef) (es fs : List Entry) → count_of q (objects_of (es ++ fs)) ≡ count_of q (objects_of es) + count_of q (objects_of fs)
entries_append q [] fs = omega arith
entries_append q (e ∷ es) fs = let h = entries_append q es fs in omega (arith, h)

entries_both : (q : ObjRef) (n : ℕ) (es : List Entry) → count_of q (objects_of (take n es)) + count_of q (objects_of (drop n es)) ≡ count_of q (objects_of es)
entries_both q zero es = omega arith
entries_both q (suc n) [] = omega arith
entries_both q (suc n) (e ∷ es) = let h = entries_both q n es in omega (arith, h)

entries_behind : (q : ObjRef) (n : ℕ) (es : List Entry) → count_of q (objects_of (drop (suc n) es)) ≤ count_of q (objects_of (drop n es))
entries_behind q zero [] = omega arith
entries_behind q zero (e ∷ es) = omega arith
entries_behind q (suc n) [] = omega arith
entries_behind q (suc n) (e ∷ es) = entries_behind q n es

entries_drop : (q : ObjRef) (n : ℕ) (es : List Entry) → count_of q (objects_of (drop (n + 1) es)) ≤ count_of q (objects_of (drop n es))
entries_drop q n es =
    let next : suc n ≡ n + 1 = omega arith in
    subst (λ (m : ℕ). count_of q (objects_of (drop m es)) ≤ count_of q (objects_of (drop n es))) next (entries_behind q n es)

-- what is not among them stands there no time
pub count_none : (q : ObjRef) (es : List Entry) → has_item q es ≡ false → count_of q (objects_of es) ≡ 0
count_none q [] h = refl
count_none q (e ∷ es) h = by (same_ref q e.object) h (λ k. count_none q es k)
  where
    by : (b : Bool) → (b || has_item q es) ≡ false → (has_item q es ≡ false → count_of q (objects_of es) ≡ 0) → once b + count_of q (objects_of es) ≡ 0
    by true h none = absurd cc
    by false h none = let k = none h in omega (arith, k)

-- What an action makes of a list

abbrev pub NoMoreIf : List Value → List Entry → ObjRef → Option Listed → Type 0
NoMoreIf vs es q None = Unit {0}
NoMoreIf vs es q (Some l) = IsNoMore vs (count_of q (objects_of es)) q (count_of q (objects_of l.entries))

first_no_more : (vs : List Value) (l : Listed) (q : ObjRef) (n : ℤ) → NoMoreIf vs l.entries q (first_set n l)
first_no_more vs l q (negsuc n) = tt
first_no_more vs l q (pos n) = by (nat_le 1 n && nat_le n (length l.entries) && not (n == l.first))
  where
    by : (b : Bool) → NoMoreIf vs l.entries q (if b then Some (record l { first = n }) else None)
    by true = inl (omega arith)
    by false = tt

removed_no_more : (vs : List Value) (l : Listed) (q : ObjRef) (m : Option ℕ) → NoMoreIf vs l.entries q (option_map (removed l) m)
removed_no_more vs l q None = tt
removed_no_more vs l q (Some k) =
    let joined = entries_append q (take k l.entries) (drop (k + 1) l.entries) in
    let less = entries_drop q k l.entries in
    let both = entries_both q k l.entries in
    inl (omega (arith, joined, less, both))

inserted_no_more : (vs : List Value) (l : Listed) (q : ObjRef) (i : ℕ) (r : ObjRef) → slice_get vs 1 ≡ Some (value.Object r) → NoMoreIf vs l.entries q (inserted i r l)
inserted_no_more vs l q i r given = by (nat_le 1 i && nat_le i (length l.entries + 1) && nat_lt (length l.entries) most_items) (has_item r l.entries) refl
  where
    front : List Entry
    front = take (i - 1) l.entries

    back : List Entry
    back = drop (i - 1) l.entries

    one : Entry
    one = record { object = r; selected = false }

    told : (b : Bool) → same_ref q r ≡ b → count_of q (objects_of l.entries) ≡ 0 ⊎ (same_ref q r ≡ false) → IsNoMore vs (count_of q (objects_of l.entries)) q (count_of q (objects_of (front ++ one ∷ back)))
    told true e (inl none) =
        let same : q ≡ r = same_ref-same q r e in
        let given_it : slice_get vs 1 ≡ Some (value.Object q) = subst (λ (x : ObjRef). slice_get vs 1 ≡ Some (value.Object x)) (sym same) given in
        let joined = entries_append q front (one ∷ back) in
        let both = entries_both q (i - 1) l.entries in
        let itself : once (same_ref q r) ≡ 1 = ap once e in
        inr (given_it, omega (arith, none, joined, both, itself))
    told true e (inr other) = absurd cc
    told false e k =
        let joined = entries_append q front (one ∷ back) in
        let both = entries_both q (i - 1) l.entries in
        let itself : once (same_ref q r) ≡ 0 = ap once e in
        inl (omega (arith, joined, both, itself))

    none_of : (b : Bool) → same_ref q r ≡ b → has_item r l.entries ≡ false → count_of q (objects_of l.entries) ≡ 0 ⊎ (same_ref q r ≡ false)
    none_of true e h = inl (count_none q l.entries (subst (λ (x : ObjRef). has_item x l.entries ≡ false) (sym (same_ref-same q r e)) h))
    none_of false e h = inr e

    by : (b c : Bool) → has_item r l.entries ≡ c → NoMoreIf vs l.entries q (if b && not c then Some (record { entries = front ++ one ∷ back; first = if nat_lt i l.first then l.first + 1 else l.first }) else None)
    by true false e = told (same_ref q r) refl (none_of (same_ref q r) refl e)
    by true true e = tt
    by false c e = tt

pub relisted_no_more : (n : ActionName) (vs : List Value) (p : Fixed) (l : Listed) (q : ObjRef) → NoMoreIf vs l.entries q (relisted n vs p l)
relisted_no_more action.AddItem (value.Int (pos i) ∷ value.Object r ∷ []) p l q = inserted_no_more (value.Int (pos i) ∷ value.Object r ∷ []) l q i r refl
relisted_no_more action.AddItem _ p l q = tt
relisted_no_more action.DelItem (value.Object r ∷ []) p l q = removed_no_more (value.Object r ∷ []) l q (position (λ (e : Entry). same_ref r e.object) l.entries)
relisted_no_more action.DelItem _ p l q = tt
relisted_no_more action.ScrollItems (value.Int n ∷ []) p l q = first_no_more (value.Int n ∷ []) l q (scrolled_to (wraps p) n l)
relisted_no_more action.ScrollItems _ p l q = tt
relisted_no_more action.SetFirstItem (value.Int n ∷ []) p l q = first_no_more (value.Int n ∷ []) l q n
relisted_no_more action.SetFirstItem _ p l q = tt
relisted_no_more _ vs p l q = tt
