-- Where one more goes: behind all whose place is before its own.
use Rattle.std.specs.Prelude.{◌≡◌, ℕ, ◌<◌, ◌≤◌, ◌+◌, suc, Bool, true, false, cond, not, List, [], ◌∷◌, ◌++◌, drop, length, slice_index_or, take, Some, None, refl}
use Rattle.std.specs.declared.cmp.Ordering.{Ordering}
use Rattle.std.specs.declared.cmp.Ordering.TheVariants.{Less, Equal, Greater}
use Rattle.std.specs.List.{insert, position, position_or_len, remove}
use Rattle.std.specs.Ordering.{is_eq, is_gt}
use Rattle.std.proofs.Common.{◌∙◌, ap, arith, subst, sym}
use Rattle.std.proofs.lemmas.List.{drop_at, take_at}
use Rattle.std.proofs.Math.Seq.{get_or-append_seam}
use Rattle.mh_verify.specs.declared.refusal.Found.{Found}
use Rattle.mh_verify.specs.Least.{lesser}
use Rattle.mh_verify.specs.Order.{by_place, is_before}
use Rattle.mh_refusals.specs.Places.{is_at_place, placed, reaches, with_one}
use Rattle.mh_base.proofs.PathLemmas.{position-none, position-some}

-- what stands before the place, what stands there, and what stands behind it
record IsParted (x : Found) (ys : List Found) (at : ℕ) : Type 0 where
  before : List Found
  there : Found
  behind : List Found
  is : ys ≡ before ++ there ∷ behind
  size : length before ≡ at
  reached : reaches x there ≡ true
  passed : (zs : List Found) → with_one x (before ++ zs) ≡ before ++ with_one x zs

abbrev reached_by : (o : Ordering) → Bool
reached_by o = not (is_gt o)

-- one more in front, whose place is before that
one_before : (x y : Found) (ys : List Found) (n : ℕ) → by_place x.place y.place ≡ Greater → IsParted x ys n → IsParted x (y ∷ ys) (suc n)
one_before x y ys n e tail = record {
  before = y ∷ tail.before;
  there = tail.there;
  behind = tail.behind;
  is = ap (λ (zs : List Found). y ∷ zs) tail.is;
  size = ap (λ (n : ℕ). suc n) tail.size;
  reached = tail.reached;
  passed = λ zs. λ i. placed (e i) x y (tail.before ++ zs) (tail.passed zs i);
}

parted : (x : Found) (ys : List Found) → position_or_len (reaches x) ys < length ys → IsParted x ys (position_or_len (reaches x) ys)
parted x [] inside = absurd (omega (arith, inside))
parted x (y ∷ ys) inside = by (λ shorter. parted x ys shorter) (by_place x.place y.place) refl
  where
    first : reaches x y ≡ true → IsParted x (y ∷ ys) (position_or_len (reaches x) (y ∷ ys))
    first e =
        let start : position_or_len (reaches x) (y ∷ ys) ≡ 0 = rw e refl in
        subst (λ (n : ℕ). IsParted x (y ∷ ys) n) (sym start)
        (record { before = []; there = y; behind = ys; is = refl; size = refl; reached = e; passed = λ zs. refl })

    by : (position_or_len (reaches x) ys < length ys → IsParted x ys (position_or_len (reaches x) ys)) → (o : Ordering) → by_place x.place y.place ≡ o → IsParted x (y ∷ ys) (position_or_len (reaches x) (y ∷ ys))
    by below Less e = first (ap reached_by e)
    by below Equal e = first (ap reached_by e)
    by below Greater e =
        let passes : reaches x y ≡ false = ap reached_by e in
        let one : position_or_len (reaches x) (y ∷ ys) ≡ 1 + position_or_len (reaches x) ys = rw passes refl in
        let next : position_or_len (reaches x) (y ∷ ys) ≡ suc (position_or_len (reaches x) ys) = omega (arith, one) in
        subst (λ (n : ℕ). IsParted x (y ∷ ys) n) (sym next)
        (one_before x y ys (position_or_len (reaches x) ys) e (below (omega (arith, inside, next))))

passed_all : (x : Found) (ys : List Found) → length ys ≤ position_or_len (reaches x) ys → with_one x ys ≡ ys ++ x ∷ []
passed_all x [] past = refl
passed_all x (y ∷ ys) past = by (λ shorter. passed_all x ys shorter) (by_place x.place y.place) refl
  where
    never : reaches x y ≡ true → ⊥
    never e = let start : position_or_len (reaches x) (y ∷ ys) ≡ 0 = rw e refl in omega (arith, past, start)

    by : (length ys ≤ position_or_len (reaches x) ys → with_one x ys ≡ ys ++ x ∷ []) → (o : Ordering) → by_place x.place y.place ≡ o → with_one x (y ∷ ys) ≡ y ∷ ys ++ x ∷ []
    by below Less e = absurd (never (ap reached_by e))
    by below Equal e = absurd (never (ap reached_by e))
    by below Greater e =
        let passes : reaches x y ≡ false = ap reached_by e in
        let one : position_or_len (reaches x) (y ∷ ys) ≡ 1 + position_or_len (reaches x) ys = rw passes refl in
        ap (λ (o : Ordering). placed o x y ys (with_one x ys)) e
        ∙ ap (λ (ws : List Found). y ∷ ws) (below (omega (arith, past, one)))

-- where none is reached it goes last
pub put_last : (x : Found) (ys : List Found) → position (reaches x) ys ≡ None → with_one x ys ≡ ys ++ x ∷ []
put_last x ys none = passed_all x ys (position-none (reaches x) ys none)

parted_at : (x : Found) (ys : List Found) (at : ℕ) → position (reaches x) ys ≡ Some at → IsParted x ys at
parted_at x ys at some =
    let found = position-some (reaches x) ys at some in
    subst (λ (n : ℕ). IsParted x ys n) found.0 (parted x ys (subst (λ (n : ℕ). n < length ys) (sym found.0) found.1))

there_is : (x : Found) (ys : List Found) (at : ℕ) (d : Found) (p : IsParted x ys at) → slice_index_or ys at d ≡ p.there
there_is x ys at d p =
    ap (λ (zs : List Found). slice_index_or zs at d) p.is
    ∙ ap (λ (n : ℕ). slice_index_or (p.before ++ p.there ∷ p.behind) n d) (sym p.size)
    ∙ get_or-append_seam p.before p.there p.behind d

-- what comes of one that has another place than what it reaches, and of one that has the same

apart_less : (o : Ordering) → not (is_gt o) ≡ true → is_eq o ≡ false → o ≡ Less
apart_less Less r e = refl
apart_less Equal r e = absurd cc
apart_less Greater r e = absurd cc

same_equal : (o : Ordering) → is_eq o ≡ true → o ≡ Equal
same_equal Less e = absurd cc
same_equal Equal e = refl
same_equal Greater e = absurd cc

-- another place: in front of what it reaches
pub put_between : (x : Found) (ys : List Found) (at : ℕ) → position (reaches x) ys ≡ Some at → ((d : Found) → false ≡ is_at_place x (slice_index_or ys at d)) → with_one x ys ≡ insert ys at x
put_between x ys at some other =
    let p = parted_at x ys at some in
    let apart : is_at_place x p.there ≡ false = ap (is_at_place x) (sym (there_is x ys at x p)) ∙ sym (other x) in
    let less : by_place x.place p.there.place ≡ Less = apart_less (by_place x.place p.there.place) p.reached apart in
    let front : take at ys ≡ p.before = ap (take at) p.is ∙ take_at p.before (p.there ∷ p.behind) at p.size in
    let back : drop at ys ≡ p.there ∷ p.behind = ap (drop at) p.is ∙ drop_at p.before (p.there ∷ p.behind) at p.size in
    ap (with_one x) p.is
    ∙ p.passed (p.there ∷ p.behind)
    ∙ ap (λ (o : Ordering). p.before ++ placed o x p.there p.behind (with_one x p.behind)) less
    ∙ (λ i. sym front i ++ x ∷ sym back i)

at_its_place : (x : Found) (ys : List Found) (at : ℕ) (p : IsParted x ys at) → ((d : Found) → true ≡ is_at_place x (slice_index_or ys at d)) → with_one x ys ≡ p.before ++ lesser (Some p.there) x ∷ p.behind
at_its_place x ys at p same =
    let equal : by_place x.place p.there.place ≡ Equal = same_equal (by_place x.place p.there.place) (ap (is_at_place x) (sym (there_is x ys at x p)) ∙ sym (same x)) in
    ap (with_one x) p.is
    ∙ p.passed (p.there ∷ p.behind)
    ∙ ap (λ (o : Ordering). p.before ++ placed o x p.there p.behind (with_one x p.behind)) equal

-- the same place: what was there stays
pub put_behind : (x : Found) (ys : List Found) (at : ℕ) → position (reaches x) ys ≡ Some at → ((d : Found) → true ≡ is_at_place x (slice_index_or ys at d)) → ((d : Found) → false ≡ is_before x (slice_index_or ys at d)) → with_one x ys ≡ ys
put_behind x ys at some same later =
    let p = parted_at x ys at some in
    let stays : is_before x p.there ≡ false = ap (is_before x) (sym (there_is x ys at x p)) ∙ sym (later x) in
    at_its_place x ys at p same
    ∙ ap (λ (b : Bool). p.before ++ cond b x p.there ∷ p.behind) stays
    ∙ sym p.is

-- or it takes its place
pub put_in_place : (x : Found) (ys : List Found) (at : ℕ) → position (reaches x) ys ≡ Some at → ((d : Found) → true ≡ is_at_place x (slice_index_or ys at d)) → ((d : Found) → true ≡ is_before x (slice_index_or ys at d)) → with_one x ys ≡ insert (remove ys at) at x
put_in_place x ys at some same sooner =
    let p = parted_at x ys at some in
    let comes : is_before x p.there ≡ true = ap (is_before x) (sym (there_is x ys at x p)) ∙ sym (sooner x) in
    let front : take at ys ≡ p.before = ap (take at) p.is ∙ take_at p.before (p.there ∷ p.behind) at p.size in
    let back : drop (suc at) ys ≡ p.behind = ap (drop (suc at)) p.is ∙ drop_behind p.before p.there p.behind at p.size in
    let removed : remove ys at ≡ p.before ++ p.behind = λ i. front i ++ back i in
    at_its_place x ys at p same
    ∙ ap (λ (b : Bool). p.before ++ cond b x p.there ∷ p.behind) comes
    ∙ (λ i. sym (take_at p.before p.behind at p.size) i ++ x ∷ sym (drop_at p.before p.behind at p.size) i)
    ∙ ap (λ (zs : List Found). insert zs at x) (sym removed)
  where
    drop_behind : (xs : List Found) (y : Found) (zs : List Found) (n : ℕ) → length xs ≡ n → drop (suc n) (xs ++ y ∷ zs) ≡ zs
    drop_behind [] y zs n e = subst (λ (k : ℕ). drop (suc k) (y ∷ zs) ≡ zs) e refl
    drop_behind (w ∷ xs) y zs n e = subst (λ (k : ℕ). drop (suc k) (w ∷ xs ++ y ∷ zs) ≡ zs) e (drop_behind xs y zs (length xs) refl)
