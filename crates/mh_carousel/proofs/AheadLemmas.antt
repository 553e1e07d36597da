-- The files that will be there, counted by their names.
use Rattle.std.proofs.Common.{◌≡◌, ℕ, zero, suc, ◌+◌, ◌<◌, ◌≤◌, Bool, true, false, ◌||◌, ◌&&◌, not, if◌then◌else◌, List, [], ◌∷◌, length, drop, take, Option, Some, None, refl, ap, sym, ◌∙◌, add-one, arith}
use Rattle.std.specs.Prelude.{nat_le, slice_get}
use Rattle.std.specs.List.{list_any}
use Rattle.std.specs.Option.{option_map_or}
use Rattle.std.specs.Str.{bytes_eq}
use Rattle.std.proofs.lemmas.Bool.Decides.{nat_tests}
use Rattle.std.proofs.lemmas.List.{take_all}
use Rattle.std.proofs.lemmas.Slice.Eq.{bytes_eq-Decides}
use Rattle.mh_model.specs.declared.file.File.{File}
use Rattle.mh_model.specs.declared.input.Waiting.{Waiting}
use Rattle.mh_model.specs.Files.{is_named, is_too_many, with_file}
use Rattle.mh_model.specs.Limits.{most_files}
use Rattle.mh_model.specs.Step.{file_in, files_ahead, stored_by}
use Rattle.mh_carousel.specs.Ahead.{brings, file_at, has, is_for, number_with}

-- Names

or_assoc : (a b c : Bool) → ((a || b) || c) ≡ (a || (b || c))
or_assoc true b c = refl
or_assoc false b c = refl

or_none : (a : Bool) → (a || false) ≡ a
or_none true = refl
or_none false = refl

or_twice : (a b : Bool) → (a || b) ≡ ((a || b) || a)
or_twice true b = refl
or_twice false true = refl
or_twice false false = refl

-- a file that is put has its name there, and keeps those of the others
has-put : (name : List ℕ) (f : File) (fs : List File) → has name (with_file f fs) ≡ (has name fs || is_named name f)
has-put name f [] = or_none (is_named name f)
has-put name f (g ∷ fs) = by (is_named f.name g) refl (has-put name f fs)
  where
    by : (t : Bool) → is_named f.name g ≡ t → has name (with_file f fs) ≡ (has name fs || is_named name f) → has name (if t then f ∷ fs else g ∷ with_file f fs) ≡ ((is_named name g || has name fs) || is_named name f)
    by true is below =
        let same : g.name ≡ f.name = (bytes_eq-Decides g.name f.name).0 is in
        or_twice (is_named name f) (has name fs)
        ∙ ap (λ (n : List ℕ). (bytes_eq n name || has name fs) || is_named name f) (sym same)
    by false is below = ap (λ (b : Bool). is_named name g || b) below ∙ sym (or_assoc (is_named name g) (has name fs) (is_named name f))

has-stored : (name : List ℕ) (f : Option File) (fs : List File) → has name (stored_by f fs) ≡ (has name fs || is_for name f)
has-stored name None fs = sym (or_none (has name fs))
has-stored name (Some f) fs = has-put name f fs

pub has-ahead : (name : List ℕ) (fs : List File) (ws : List Waiting) → has name (files_ahead fs ws) ≡ (has name fs || list_any (brings name) ws)
has-ahead name fs [] = sym (or_none (has name fs))
has-ahead name fs (w ∷ ws) =
    has-ahead name (stored_by (file_in w) fs) ws
    ∙ ap (λ (b : Bool). b || list_any (brings name) ws) (has-stored name (file_in w) fs)
    ∙ or_assoc (has name fs) (brings name w) (list_any (brings name) ws)

pub there_ahead : (name : List ℕ) (fs : List File) (ws : List Waiting) → true ≡ has name fs → true ≡ has name (files_ahead fs ws)
there_ahead name fs ws there = ap (λ (b : Bool). b || list_any (brings name) ws) there ∙ sym (has-ahead name fs ws)

pub brought_ahead : (name : List ℕ) (fs : List File) (ws : List Waiting) (b : Bool) → false ≡ has name fs → b ≡ list_any (brings name) ws → b ≡ has name (files_ahead fs ws)
brought_ahead name fs ws b none is = is ∙ ap (λ (c : Bool). c || list_any (brings name) ws) none ∙ sym (has-ahead name fs ws)

-- Numbers

length-put : (f : File) (fs : List File) → length (with_file f fs) ≡ (if has f.name fs then length fs else length fs + 1)
length-put f [] = omega arith
length-put f (g ∷ fs) = by (is_named f.name g) (has f.name fs) (length-put f fs)
  where
    by : (t b : Bool) → length (with_file f fs) ≡ (if b then length fs else length fs + 1) → length (if t then f ∷ fs else g ∷ with_file f fs) ≡ (if t || b then length (g ∷ fs) else length (g ∷ fs) + 1)
    by true b below = refl
    by false true below = ap suc below
    by false false below = omega (arith, below)

pub length-stored : (f : Option File) (fs : List File) → length (stored_by f fs) ≡ number_with f fs
length-stored None fs = refl
length-stored (Some f) fs = length-put f fs

number_within : (f : Option File) (fs : List File) → number_with f fs ≤ length fs + 1
number_within None fs = omega arith
number_within (Some f) fs = by (has f.name fs)
  where
    by : (b : Bool) → (if b then length fs else length fs + 1) ≤ length fs + 1
    by true = omega arith
    by false = omega arith

-- what waits brings no more files than it is long
ahead_within : (fs : List File) (ws : List Waiting) → length (files_ahead fs ws) ≤ length fs + length ws
ahead_within fs [] = omega arith
ahead_within fs (w ∷ ws) =
    let rest : length (files_ahead (stored_by (file_in w) fs) ws) ≤ length (stored_by (file_in w) fs) + length ws = ahead_within (stored_by (file_in w) fs) ws in
    let front : length (stored_by (file_in w) fs) ≡ number_with (file_in w) fs = length-stored (file_in w) fs in
    let one : number_with (file_in w) fs ≤ length fs + 1 = number_within (file_in w) fs in
    omega (arith, rest, front, one)

-- One by one

ahead_last : (fs : List File) (ws : List Waiting) (n : ℕ) → files_ahead fs (take (suc n) ws) ≡ stored_by (file_at (slice_get ws n)) (files_ahead fs (take n ws))
ahead_last fs [] zero = refl
ahead_last fs [] (suc n) = refl
ahead_last fs (w ∷ ws) zero = refl
ahead_last fs (w ∷ ws) (suc n) = ahead_last (stored_by (file_in w) fs) ws n

-- a step of the counting
pub counted_more : (fs : List File) (ws : List Waiting) (n count more : ℕ) → length (files_ahead fs (take n ws)) + more ≡ number_with (file_at (slice_get ws n)) (files_ahead fs (take n ws)) → count ≡ length (files_ahead fs (take n ws)) → count + more ≡ length (files_ahead fs (take (n + 1) ws))
counted_more fs ws n count more is so_far =
    ap (λ (k : ℕ). k + more) so_far
    ∙ is
    ∙ sym (length-stored (file_at (slice_get ws n)) (files_ahead fs (take n ws)))
    ∙ ap length (sym (ahead_last fs ws n))
    ∙ ap (λ (k : ℕ). length (files_ahead fs (take k ws))) (sym (add-one n))

pub counted_all : (fs : List File) (ws : List Waiting) (n count : ℕ) → length ws ≤ n → count ≡ length (files_ahead fs (take n ws)) → count ≡ length (files_ahead fs ws)
counted_all fs ws n count all so_far = so_far ∙ ap (λ (xs : List Waiting). length (files_ahead fs xs)) (take_all n ws all)

-- What waits, one by one

any_at : (p : Waiting → Bool) (ws : List Waiting) (n k : ℕ) → n < k → list_any p (drop n (take k ws)) ≡ (option_map_or p (slice_get ws n) false || list_any p (drop (suc n) (take k ws)))
any_at p ws n zero inside = absurd (omega (arith, inside))
any_at p [] zero (suc k) inside = refl
any_at p [] (suc n) (suc k) inside = refl
any_at p (w ∷ ws) zero (suc k) inside = refl
any_at p (w ∷ ws) (suc n) (suc k) inside = any_at p ws n k (omega (arith, inside))

is_for-at : (name : List ℕ) (w : Option Waiting) → is_for name (file_at w) ≡ option_map_or (brings name) w false
is_for-at name None = refl
is_for-at name (Some w) = refl

pub one_brings : (name : List ℕ) (ws : List Waiting) (n k : ℕ) (w : Option Waiting) → n < k → w ≡ slice_get ws n → true ≡ is_for name (file_at w) → list_any (brings name) (drop n (take k ws)) ≡ list_any (brings name) (take k ws) → true ≡ list_any (brings name) (take k ws)
one_brings name ws n k w inside here is so_far =
    ap (λ (b : Bool). b || list_any (brings name) (drop (suc n) (take k ws))) (is ∙ is_for-at name w ∙ ap (λ (x : Option Waiting). option_map_or (brings name) x false) here)
    ∙ sym (any_at (brings name) ws n k inside)
    ∙ so_far

pub none_brings : (name : List ℕ) (ws : List Waiting) (n k : ℕ) (w : Option Waiting) → n < k → w ≡ slice_get ws n → false ≡ is_for name (file_at w) → list_any (brings name) (drop n (take k ws)) ≡ list_any (brings name) (take k ws) → list_any (brings name) (drop (n + 1) (take k ws)) ≡ list_any (brings name) (take k ws)
none_brings name ws n k w inside here is so_far =
    ap (λ (m : ℕ). list_any (brings name) (drop m (take k ws))) (add-one n)
    ∙ ap (λ (b : Bool). b || list_any (brings name) (drop (suc n) (take k ws))) (is ∙ is_for-at name w ∙ ap (λ (x : Option Waiting). option_map_or (brings name) x false) here)
    ∙ sym (any_at (brings name) ws n k inside)
    ∙ so_far

none_left : (p : Waiting → Bool) (ws : List Waiting) (n k : ℕ) → k ≤ n → list_any p (drop n (take k ws)) ≡ false
none_left p ws zero zero past = refl
none_left p ws (suc n) zero past = refl
none_left p [] zero (suc k) past = absurd (omega (arith, past))
none_left p [] (suc n) (suc k) past = refl
none_left p (w ∷ ws) zero (suc k) past = absurd (omega (arith, past))
none_left p (w ∷ ws) (suc n) (suc k) past = none_left p ws n k (omega (arith, past))

pub none_brought : (name : List ℕ) (ws : List Waiting) (n k : ℕ) → k ≤ n → list_any (brings name) (drop n (take k ws)) ≡ list_any (brings name) (take k ws) → false ≡ list_any (brings name) (take k ws)
none_brought name ws n k past so_far = sym (none_left (brings name) ws n k past) ∙ so_far

-- Too many

pub few : (f : File) (fs : List File) (ws : List Waiting) (total : ℕ) → total ≡ length fs + length ws → total < most_files → false ≡ is_too_many f (files_ahead fs ws)
few f fs ws total is small = by (length (files_ahead fs ws)) (has f.name (files_ahead fs ws)) (ahead_within fs ws)
  where
    below : (n : ℕ) → n ≤ length fs + length ws → nat_le most_files n ≡ false
    below n within = grind (arith, nat_tests)

    by : (n : ℕ) (b : Bool) → n ≤ length fs + length ws → false ≡ (nat_le most_files n && not b)
    by n b within = ap (λ (t : Bool). t && not b) (sym (below n within))

pub there_already : (f : File) (fs : List File) → true ≡ has f.name fs → false ≡ is_too_many f fs
there_already f fs there = sym (and_false (nat_le most_files (length fs))) ∙ ap (λ (b : Bool). nat_le most_files (length fs) && not b) there
  where
    and_false : (a : Bool) → (a && false) ≡ false
    and_false true = refl
    and_false false = refl

pub many_new : (f : File) (fs : List File) (count : ℕ) → false ≡ has f.name fs → count ≡ length fs → nat_le most_files count ≡ is_too_many f fs
many_new f fs count none is =
    sym (and_true (nat_le most_files count))
    ∙ λ i. nat_le most_files (is i) && not (none i)
  where
    and_true : (a : Bool) → (a && true) ≡ a
    and_true true = refl
    and_true false = refl
