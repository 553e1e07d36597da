-- Lists of references, one for sets that are alike.
use Rattle.std.proofs.Common.{◌≡◌, ℕ, zero, suc, ◌+◌, ◌<◌, Bool, List, [], ◌∷◌, ◌++◌, length, map, Option, Some, None, refl, ap, sym, ◌∙◌, arith, length-append}
use Rattle.std.specs.Prelude.{get_or, slice_get, take, unwrap_or}
use Rattle.std.proofs.lemmas.List.{map-append}
use Rattle.mh_base.specs.declared.obj_ref.ObjRef.{ObjRef}
use Rattle.mh_laws.specs.Each.{Each}
use Rattle.mh_flow.specs.Rows.{row}
use Rattle.mh_flow.specs.Sets.{members_of}
use Rattle.mh_flow.specs.Solved.{AreWithin, list_at, named, named_in}

-- Rows that are taken

take_next : {X : Type 0} (rows : List (List X)) (n : ℕ) → n < length rows → take (suc n) rows ≡ take n rows ++ row rows n ∷ []
take_next [] n less = absurd (omega (arith, less))
take_next (r ∷ rows) zero less = refl
take_next {X} (r ∷ rows) (suc n) less = ap (λ (t : List (List X)). r ∷ t) (take_next rows n (omega (arith, less)))

-- the next list behind those of all before
pub next_list : {X Y : Type 0} (f : List X → Y) (old new : List Y) (y : Y) (rows : List (List X)) (n : ℕ) → old ≡ map f (take n rows) → n < length rows → new ≡ old ++ y ∷ [] → y ≡ f (row rows n) → new ≡ map f (take (n + 1) rows)
next_list {X} {Y} f old new y rows n before less put is =
    put
    ∙ (λ i. before i ++ is i ∷ [])
    ∙ sym (map-append f (take n rows) (row rows n ∷ []))
    ∙ ap (map f) (sym (take_next rows n less))
    ∙ ap (λ (m : ℕ). map f (take m rows)) one
  where
    one : suc n ≡ n + 1
    one = omega arith

-- the list of an earlier row
pub earlier_list : {X : Type 0} (f : List X → List ObjRef) (old : List (List ObjRef)) (rows : List (List X)) (n m : ℕ) → old ≡ map f (take n rows) → n < length rows → m < n → unwrap_or (slice_get old m) [] ≡ f (row rows m)
earlier_list {X} f old rows n m before less first = ap (λ (t : List (List ObjRef)). unwrap_or (slice_get t m) []) before ∙ by rows n m less first
  where
    by : (rs : List (List X)) (n m : ℕ) → n < length rs → m < n → unwrap_or (slice_get (map f (take n rs)) m) [] ≡ f (row rs m)
    by [] n m less first = absurd (omega (arith, less))
    by (r ∷ rs) zero m less first = absurd (omega (arith, first))
    by (r ∷ rs) (suc n) zero less first = refl
    by (r ∷ rs) (suc n) (suc m) less first = by rs n m (omega (arith, less)) (omega (arith, first))

pub taken_length : {X Y : Type 0} (f : List X → Y) (old : List Y) (rows : List (List X)) (n m : ℕ) → old ≡ map f (take n rows) → n < length rows → m < n → m < length old
taken_length {X} f old rows n m before less first = omega (arith, ap length before, by rows n less, first)
  where
    by : (rs : List (List X)) (n : ℕ) → n < length rs → length (map f (take n rs)) ≡ n
    by [] n less = absurd (omega (arith, less))
    by (r ∷ rs) zero less = refl
    by (r ∷ rs) (suc n) less = ap suc (by rs n (omega (arith, less)))

pub all_taken : {X Y : Type 0} (f : List X → Y) (rows : List (List X)) (n : ℕ) → n ≡ length rows → map f (take n rows) ≡ map f rows
all_taken {X} f rows n e = ap (λ (m : ℕ). map f (take m rows)) e ∙ ap (map f) (by rows)
  where
    by : (rs : List (List X)) → take (length rs) rs ≡ rs
    by [] = refl
    by (r ∷ rs) = ap (λ (t : List (List X)). r ∷ t) (by rs)

-- the list of a set; one that is not there has none
pub list_of_set : (qs : List ObjRef) (rows : List (List Bool)) (u : ℕ) → unwrap_or (slice_get (map (named_in qs) rows) u) [] ≡ named qs (members_of rows u)
list_of_set qs [] u = refl
list_of_set qs (r ∷ rows) zero = refl
list_of_set qs (r ∷ rows) (suc u) = list_of_set qs rows u

-- Lists under numbers

pub mapped_length : {X Y : Type 0} (f : X → Y) (xs : List X) → length (map f xs) ≡ length xs
mapped_length f [] = refl
mapped_length f (x ∷ xs) = ap suc (mapped_length f xs)

-- the list of one that is there already
pub again : (ls : List (List ObjRef)) (ns : List ℕ) (m d : ℕ) → m < length ns → list_at ls (get_or ns m d) ≡ unwrap_or (slice_get (map (list_at ls) ns) m) []
again ls [] m d less = absurd (omega (arith, less))
again ls (n ∷ ns) zero d less = refl
again ls (n ∷ ns) (suc m) d less = again ls ns m d (omega (arith, less))

-- all numbers lie within, and this one too
pub within_more : (ls : List (List ObjRef)) (ns : List ℕ) (n : ℕ) → AreWithin ls ns → n < length ls → AreWithin ls (ns ++ n ∷ [])
within_more ls [] n all this = (this, all)
within_more ls (m ∷ ns) n all this = (all.0, within_more ls ns n all.1 this)

-- they lie within more lists, too
pub within_longer : (ls : List (List ObjRef)) (x : List ObjRef) (ns : List ℕ) → AreWithin ls ns → AreWithin (ls ++ x ∷ []) ns
within_longer ls x [] all = all
within_longer ls x (n ∷ ns) all = (omega (arith, length-append ls (x ∷ []), all.0), within_longer ls x ns all.1)

-- the list behind all
list_behind : (ls : List (List ObjRef)) (x : List ObjRef) → list_at (ls ++ x ∷ []) (length ls) ≡ x
list_behind [] x = refl
list_behind (l ∷ ls) x = list_behind ls x

-- a list that is there stays, whatever is put behind
list_stays : (ls : List (List ObjRef)) (x : List ObjRef) (n : ℕ) → n < length ls → list_at (ls ++ x ∷ []) n ≡ list_at ls n
list_stays [] x n this = absurd (omega (arith, this))
list_stays (l ∷ ls) x zero this = refl
list_stays (l ∷ ls) x (suc n) this = list_stays ls x n (omega (arith, this))

lists_stay : (ls : List (List ObjRef)) (x : List ObjRef) (ns : List ℕ) → AreWithin ls ns → map (list_at (ls ++ x ∷ [])) ns ≡ map (list_at ls) ns
lists_stay ls x [] all = refl
lists_stay ls x (n ∷ ns) all = λ i. list_stays ls x n all.0 i ∷ lists_stay ls x ns all.1 i

-- a list more, under its number
pub list_put : (ls : List (List ObjRef)) (x : List ObjRef) (ns : List ℕ) (n : ℕ) → AreWithin ls ns → n ≡ length ls → map (list_at (ls ++ x ∷ [])) (ns ++ n ∷ []) ≡ map (list_at ls) ns ++ x ∷ []
list_put ls x ns n all last =
    map-append (list_at (ls ++ x ∷ [])) ns (n ∷ [])
    ∙ (λ i. lists_stay ls x ns all i ++ (ap (list_at (ls ++ x ∷ [])) last ∙ list_behind ls x) i ∷ [])
