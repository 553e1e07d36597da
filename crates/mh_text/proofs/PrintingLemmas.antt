-- What the printer rests on: lists in two parts, octets, and groups that pass a limit.
use Rattle.std.proofs.Common.{◌≡◌, ℕ, ◌+◌, ◌<◌, ◌≤◌, Bool, true, false, ◌&&◌, ◌||◌, not, nat_lt, List, ◌∷◌, ◌++◌, length, get_or, drop, Result, Ok, Err, OnOk, IfErr, refl, ap, sym, ◌∙◌, arith, append_assoc, append-nil}
use Rattle.std.specs.List.{list_all, flat_map}
use Rattle.std.proofs.lemmas.Bool.Decides.{nat_tests}
use Rattle.std.proofs.lemmas.List.{drop_all}
use Rattle.mh_base.specs.Limits.{largest_file}
use Rattle.mh_group.specs.declared.written.Written.{Written}
use Rattle.mh_group.specs.Holdable.{is_holdable}
use Rattle.mh_text.specs.declared.text_error.TextError.{TextError}
use Rattle.mh_text.specs.Printed.{printed, passes_limit, Refuses, Puts}
use Rattle.mh_text.proofs.ListLemmas.{at_place}

-- where the part in front fits, the whole fits or is refused as the part behind is
pub whole_fits : {X : Type 0} (r : Result X TextError) (old new printed : List ℕ) (front behind : Bool) → front ≡ true → Puts r old new printed behind
    → OnOk r ((front && behind) ≡ true)
whole_fits (Ok x) old new printed front behind f b = rw (f, b.1) refl
whole_fits (Err e) old new printed front behind f b = tt

pub whole_refused : {X : Type 0} (r : Result X TextError) (old new printed : List ℕ) (front behind others : Bool) → front ≡ true → Puts r old new printed behind
    → IfErr r (Refuses ((front && behind) && others))
whole_refused (Ok x) old new printed front behind others f b = tt
whole_refused (Err e) old new printed front behind others f b = λ other. ((b other).0, rw (f, (b other).1) refl)

-- one more of the members was printed
pub one_printed : {A : Type 0} (f : A → List ℕ) (xs : List A) (i : ℕ) (x d : A) (before after all : List ℕ) → i < length xs → x ≡ get_or xs i d → after ≡ before ++ f x
    → before ++ flat_map f (drop i xs) ≡ all → after ++ flat_map f (drop (i + 1) xs) ≡ all
one_printed f xs i x d before after all below is printed rest =
    let left : drop i xs ≡ x ∷ drop (i + 1) xs = at_place xs i d below ∙ ap (λ y. y ∷ drop (i + 1) xs) (sym is) in
    ap (λ l. l ++ flat_map f (drop (i + 1) xs)) printed ∙ append_assoc before (f x) (flat_map f (drop (i + 1) xs))
    ∙ ap (λ l. before ++ flat_map f l) (sym left) ∙ rest

pub one_passed : {A : Type 0} (p : A → Bool) (xs : List A) (i : ℕ) (x d : A) (all : Bool) → i < length xs → x ≡ get_or xs i d → p x ≡ true → list_all p (drop i xs) ≡ all → list_all p (drop (i + 1) xs) ≡ all
one_passed p xs i x d all below is passed rest =
    let left : drop i xs ≡ x ∷ drop (i + 1) xs = at_place xs i d below ∙ ap (λ y. y ∷ drop (i + 1) xs) (sym is) in
    sym (ap (λ b. b && list_all p (drop (i + 1) xs)) passed) ∙ ap (λ l. list_all p l) (sym left) ∙ rest

-- no more members are left
pub all_printed : {A : Type 0} (f : A → List ℕ) (xs : List A) (i : ℕ) (out all : List ℕ) → length xs ≤ i → out ++ flat_map f (drop i xs) ≡ all → out ≡ all
all_printed f xs i out all past rest = sym (append-nil out) ∙ ap (λ l. out ++ flat_map f l) (sym (drop_all i xs past)) ∙ rest

pub all_passed : {A : Type 0} (p : A → Bool) (xs : List A) (i : ℕ) (all : Bool) → length xs ≤ i → list_all p (drop i xs) ≡ all → all ≡ true
all_passed p xs i all past rest = sym rest ∙ ap (λ l. list_all p l) (drop_all i xs past)

-- a group passes a limit where it cannot be held, or where its printed form is too long

pub unheld_passes : (g : Written) → is_holdable g ≡ false → passes_limit g ≡ true
unfolding passes_limit
unheld_passes g h = rw h refl

is_above : (n m : ℕ) → n < m → nat_lt n m ≡ true
is_above n m h = grind (arith, nat_tests)

is_not_above : (n m : ℕ) → m ≤ n → nat_lt n m ≡ false
is_not_above n m h = grind (arith, nat_tests)

or_true : (b : Bool) → (b || true) ≡ true
or_true true = refl
or_true false = refl

pub long_passes : (g : Written) (text : List ℕ) → text ≡ printed g → largest_file < length text → passes_limit g ≡ true
unfolding passes_limit
long_passes g text e h =
    let same : length text ≡ length (printed g) = ap (λ l. length l) e in
    let above : nat_lt largest_file (length (printed g)) ≡ true = is_above largest_file (length (printed g)) (omega (arith, same, h)) in
    rw above (or_true (not (is_holdable g)))

pub within_limit : (g : Written) (text : List ℕ) → text ≡ printed g → length text ≤ largest_file → is_holdable g ≡ true → passes_limit g ≡ false
unfolding passes_limit
within_limit g text e h fits =
    let same : length text ≡ length (printed g) = ap (λ l. length l) e in
    let below : nat_lt largest_file (length (printed g)) ≡ false = is_not_above largest_file (length (printed g)) (omega (arith, same, h)) in
    rw (fits, below) refl
