-- A text's paragraphs and lines, from the front.
use Rattle.std.specs.Prelude.{◌≡◌, ◌≢◌, ℕ, zero, suc, ◌+◌, ◌==◌, ◌<◌, ◌≤◌, Bool, true, false, List, [], ◌∷◌, ◌++◌, length, take, drop, map, Option, slice_index, slice_get, refl}
use Rattle.std.specs.Option.{is_none}
use Rattle.std.specs.List.{flat_map}
use Rattle.std.proofs.Common.{ap, ◌∙◌, sym, arith, add-one, inl, inr}
use Rattle.std.proofs.lemmas.Bool.Decides.{eqb_tells, nat_tests}
use Rattle.std.proofs.lemmas.List.{drop_all, get_or-drop, length-drop}
use Rattle.mh_model.specs.declared.picture.line.Form.{Form}
use Rattle.mh_model.specs.Lines.{paragraphs}
use Rattle.mh_model.specs.Layout.{placed, lines_in_form, text_lines}

-- none of the first n scalars parts paragraphs
abbrev pub HasNoReturn : ℕ → List ℕ → Type 0
HasNoReturn n xs = (k : ℕ) → k < n → slice_index xs k ≢ 0x0D

-- so many scalars were read, these are left, and none of those parts paragraphs
pub record IsRead (xs : List ℕ) (n : ℕ) (rest : List ℕ) : Type 0 where
  pub inside : n ≤ length xs
  pub behind : rest ≡ drop n xs
  pub none : HasNoReturn n xs

drop_next : {X : Type 0} (n : ℕ) (xs : List X) → drop 1 (drop n xs) ≡ drop (suc n) xs
drop_next zero xs = refl
drop_next (suc n) [] = refl
drop_next (suc n) (x ∷ xs) = drop_next n xs

pub drop_one : {X : Type 0} (n : ℕ) (xs : List X) → drop 1 (drop n xs) ≡ drop (n + 1) xs
drop_one n xs = drop_next n xs ∙ ap (λ (k : ℕ). drop k xs) (sym (add-one n))

-- behind the end there is nothing
pub stays_empty : {X : Type 0} (m n : ℕ) (xs : List X) → drop m xs ≡ [] → m ≤ n → drop n xs ≡ []
stays_empty m n xs empty far = drop_all n xs (omega (arith, ap length empty, length-drop m xs, far))

-- behind what has no first member there is nothing
pub none_behind : {X : Type 0} (m n : ℕ) (all xs rest : List X) (o : Option X) → xs ≡ drop m all → o ≡ slice_get xs 0 → is_none o ≡ true → rest ≡ drop 1 xs → m ≤ n → rest ≡ drop n all
none_behind m n all [] rest o here first none left far = left ∙ sym (stays_empty m n all (sym here) far)
none_behind m n all (x ∷ xs) rest o here first none left far = absurd (never (sym (ap is_none first) ∙ none))
  where
    never : false ≡ true → ⊥
    never same = cc

-- what is read next stands behind what was read
pub next_is : (xs rest : List ℕ) (n x : ℕ) → IsRead xs n (x ∷ rest) → slice_index xs n ≡ x
next_is xs rest n x read =
    let same : n + 0 ≡ n = omega arith in
    ap (slice_index xs) (sym same) ∙ sym (get_or-drop n xs 0 0) ∙ ap (λ (l : List ℕ). slice_index l 0) (sym read.behind)

pub more_inside : (xs rest : List ℕ) (n x : ℕ) → IsRead xs n (x ∷ rest) → n + 1 ≤ length xs
more_inside xs rest n x read =
    let some_left : length (drop n xs) ≡ suc (length rest) = ap length (sym read.behind) in
    omega (arith, some_left, length-drop n xs)

pub left_behind : (xs rest : List ℕ) (n x : ℕ) → IsRead xs n (x ∷ rest) → rest ≡ drop (n + 1) xs
left_behind xs rest n x read = ap (drop 1) read.behind ∙ drop_one n xs

pub read_more : (xs rest : List ℕ) (n x : ℕ) → IsRead xs n (x ∷ rest) → x ≢ 0x0D → IsRead xs (n + 1) rest
read_more xs rest n x read other = record {
  inside = more_inside xs rest n x read;
  behind = left_behind xs rest n x read;
  none = λ k below. elim (eqb_tells k n) [
    | inl h ↦ λ is. other (sym (next_is xs rest n x read) ∙ ap (slice_index xs) (sym h.1) ∙ is)
    | inr h ↦ read.none k (apart k n below h.1)
  ];
}
  where
    apart : (k n : ℕ) → k < n + 1 → k ≢ n → k < n
    apart k n below other = omega (arith, below, other)

pub read_all : (xs rest : List ℕ) (n : ℕ) → IsRead xs n rest → length xs ≤ n → IsRead xs n []
read_all xs rest n read all = record { inside = read.inside; behind = sym (drop_all n xs all); none = read.none }

-- A number tested against another one.

pub is_so : (a b : ℕ) → a ≡ b → (a == b) ≡ true
is_so a b same = grind (arith, nat_tests, same)

pub is_not : (a b : ℕ) → a ≢ b → (a == b) ≡ false
is_not a b other = elim (eqb_tells a b) [ inl h ↦ absurd (other h.1) | inr h ↦ h.0 ]

-- Paragraphs.

-- there is a first paragraph
pub record HasFirst (xs : List ℕ) : Type 0 where
  pub paragraph : List ℕ
  pub others : List (List ℕ)
  pub parts : paragraphs xs ≡ paragraph ∷ others

first_with : (x : ℕ) (xs : List ℕ) (b : Bool) → (x == 0x0D) ≡ b → HasFirst xs → HasFirst (x ∷ xs)
first_with x xs true same behind = record { paragraph = []; others = paragraphs xs; parts = rw same refl }
first_with x xs false other behind = record { paragraph = x ∷ behind.paragraph; others = behind.others; parts = rw (other, behind.parts) refl }

pub first_of : (xs : List ℕ) → HasFirst xs
first_of [] = record { paragraph = []; others = []; parts = refl }
first_of (x ∷ xs) = first_with x xs (x == 0x0D) refl (first_of xs)

-- without a return in front of it, what stands there belongs to the first paragraph
pub front_kept : (n : ℕ) (xs p : List ℕ) (ps : List (List ℕ)) → HasNoReturn n xs → n ≤ length xs → paragraphs (drop n xs) ≡ p ∷ ps → paragraphs xs ≡ (take n xs ++ p) ∷ ps
front_kept zero xs p ps none inside parts = parts
front_kept (suc n) [] p ps none inside parts = absurd (omega (arith, inside))
front_kept (suc n) (x ∷ xs) p ps none inside parts =
    let own : (x == 0x0D) ≡ false = is_not x 0x0D (none 0 (omega arith)) in
    let behind : paragraphs xs ≡ (take n xs ++ p) ∷ ps = front_kept n xs p ps (λ k below. none (suc k) (omega (arith, below))) (omega (arith, inside)) parts in
    rw (own, behind) refl

-- with no column a wrapped text has no lines
none_each : (f : Form) (ps : List (List ℕ)) → f.wraps ≡ true → (f.width == 0) ≡ true → flat_map (lines_in_form f) ps ≡ []
none_each f [] wraps narrow = refl
none_each f (p ∷ ps) wraps narrow = rw (wraps, narrow) (none_each f ps wraps narrow)

pub no_column : (f : Form) (xs : List ℕ) → f.wraps ≡ true → (f.width == 0) ≡ true → text_lines f xs ≡ []
no_column f xs wraps narrow = ap (map (placed f)) (none_each f (paragraphs xs) wraps narrow)
