-- The first line of a text.
use Rattle.std.specs.Prelude.{◌≡◌, ◌≢◌, ◌⊎◌, ◌&&◌, nat_lt, ℕ, zero, suc, ◌+◌, ◌-◌, ◌==◌, ◌<◌, ◌≤◌, min, Bool, true, false, if◌then◌else◌, List, [], ◌∷◌, ◌++◌, length, take, drop, map, Some, None, slice_index, refl}
use Rattle.std.specs.List.{flat_map}
use Rattle.std.proofs.Common.{add-one, ap, ◌∙◌, sym, subst, append-nil, arith, inl, inr}
use Rattle.std.proofs.lemmas.Bool.Decides.{eqb_tells, leb_tells, nat_tests}
use Rattle.std.proofs.lemmas.List.{get_or-take, length-append, length-take, length-take-le, take-append-le, take_all}
use Rattle.std.proofs.Math.ListN.{get_or-append}
use Rattle.std.proofs.Math.Seq.{drop-append_seam}
use Rattle.mh_model.specs.declared.picture.line.Form.{Form}
use Rattle.mh_model.specs.Lines.{paragraphs, last_space, cut_at, next_at, lines_of}
use Rattle.mh_model.specs.Layout.{placed, lines_in_form, text_lines}
use Rattle.mh_layout.specs.Left.{IsHead, broken_length, broken_rest}
use Rattle.mh_layout.proofs.LineLemmas.{breaks, cut_is_within, next_is_within, one_line, last_space_more}
use Rattle.mh_layout.proofs.TextLemmas.{HasNoReturn, IsRead, first_of, front_kept, is_so, left_behind, more_inside, next_is, read_more}

take_twice : {X : Type 0} (m n : ℕ) (xs : List X) → m ≤ n → take m (take n xs) ≡ take m xs
take_twice zero n xs few = refl
take_twice (suc m) zero xs few = absurd (omega (arith, few))
take_twice (suc m) (suc n) [] few = refl
take_twice (suc m) (suc n) (x ∷ xs) few = ap (λ (t : List _). x ∷ t) (take_twice m n xs (omega (arith, few)))

take_least : (m n : ℕ) (xs : List ℕ) → take m (take n xs) ≡ take (min m n) xs
take_least m n xs = elim (le_or_more m n) [
  | inl few ↦ take_twice m n xs few ∙ ap (λ (k : ℕ). take k xs) (least_left m n few)
  | inr more ↦ take_all m (take n xs) (short m n xs more) ∙ ap (λ (k : ℕ). take k xs) (least_right m n more)
]
  where
    le_or_more : (m n : ℕ) → (m ≤ n) ⊎ (n ≤ m)
    le_or_more m n = elim (leb_tells m n) [ inl h ↦ inl h.1 | inr h ↦ inr (omega (arith, h.1)) ]

    least_left : (m n : ℕ) → m ≤ n → m ≡ min m n
    least_left m n few = omega (arith, few)

    least_right : (m n : ℕ) → n ≤ m → n ≡ min m n
    least_right m n more = omega (arith, more)

    short : (m n : ℕ) (xs : List ℕ) → n ≤ m → length (take n xs) ≤ m
    short m n xs more = omega (arith, length-take n xs, more)

-- the paragraph that ends with the text, and the one that ends with a return
ended : (xs : List ℕ) (n : ℕ) → IsRead xs n [] → paragraphs xs ≡ take n xs ∷ []
ended xs n read =
    front_kept n xs [] [] read.none read.inside (ap paragraphs (sym read.behind)) ∙ ap (λ (p : List ℕ). p ∷ []) (append-nil (take n xs))

returned : (xs rest : List ℕ) (n x : ℕ) → IsRead xs n (x ∷ rest) → x ≡ 0x0D → paragraphs xs ≡ take n xs ∷ paragraphs rest
returned xs rest n x read is =
    let parts : paragraphs (x ∷ rest) ≡ [] ∷ paragraphs rest = rw (is_so x 0x0D is) refl in
    front_kept n xs [] (paragraphs rest) read.none read.inside (ap paragraphs (sym read.behind) ∙ parts)
    ∙ ap (λ (p : List ℕ). p ∷ paragraphs rest) (append-nil (take n xs))

-- the lines of a text whose first paragraph is one line
one_lined : (f : Form) (xs p line : List ℕ) (ps : List (List ℕ)) → paragraphs xs ≡ p ∷ ps → lines_in_form f p ≡ line ∷ [] → text_lines f xs ≡ placed f line ∷ map (placed f) (flat_map (lines_in_form f) ps)
one_lined f xs p line ps parts one =
    ap (λ (qs : List (List ℕ)). map (placed f) (flat_map (lines_in_form f) qs)) parts
    ∙ ap (λ (ls : List (List ℕ)). map (placed f) (ls ++ flat_map (lines_in_form f) ps)) one

-- Lines that are cut at the width.

cut_line : (f : Form) (p : List ℕ) → f.wraps ≡ false → lines_in_form f p ≡ take f.width p ∷ []
cut_line f p cuts = rw cuts refl

pub cut_ended : (f : Form) (xs : List ℕ) (n m : ℕ) → f.wraps ≡ false → IsRead xs n [] → m ≡ min f.width n → IsHead f xs m None
cut_ended f xs n m cuts read least = record {
  inside = omega (arith, least, read.inside);
  fits = omega (arith, least);
  lines = one_lined f xs (take n xs) (take f.width (take n xs)) [] (ended xs n read) (cut_line f (take n xs) cuts)
      ∙ ap (λ (l : List ℕ). placed f l ∷ []) (take_least f.width n xs ∙ ap (λ (k : ℕ). take k xs) (sym least));
}

pub cut_returned : (f : Form) (xs rest : List ℕ) (n m x : ℕ) → f.wraps ≡ false → IsRead xs n (x ∷ rest) → x ≡ 0x0D → m ≡ min f.width n → IsHead f xs m (Some rest)
cut_returned f xs rest n m x cuts read is least = record {
  inside = omega (arith, least, read.inside);
  fits = omega (arith, least);
  lines = one_lined f xs (take n xs) (take f.width (take n xs)) (paragraphs rest) (returned xs rest n x read is) (cut_line f (take n xs) cuts)
      ∙ ap (λ (l : List ℕ). placed f l ∷ text_lines f rest) (take_least f.width n xs ∙ ap (λ (k : ℕ). take k xs) (sym least));
}

-- Lines that are broken.

wrapped_lines : (f : Form) (p : List ℕ) → f.wraps ≡ true → 0 < f.width → lines_in_form f p ≡ lines_of f.width p
wrapped_lines f p wraps wide =
    let some : (f.width == 0) ≡ false = grind (arith, nat_tests, wide) in
    rw (wraps, some) refl

short_line : (f : Form) (xs : List ℕ) (n : ℕ) → f.wraps ≡ true → 0 < f.width → n ≤ f.width → n ≤ length xs → lines_in_form f (take n xs) ≡ take n xs ∷ []
short_line f xs n wraps wide fits inside =
    wrapped_lines f (take n xs) wraps wide ∙ one_line f.width (take n xs) (omega (arith, fits, length-take-le n xs inside))

pub wrap_ended : (f : Form) (xs : List ℕ) (n : ℕ) → f.wraps ≡ true → 0 < f.width → n ≤ f.width → IsRead xs n [] → IsHead f xs n None
wrap_ended f xs n wraps wide fits read = record {
  inside = read.inside;
  fits = fits;
  lines = one_lined f xs (take n xs) (take n xs) [] (ended xs n read) (short_line f xs n wraps wide fits read.inside);
}

pub wrap_returned : (f : Form) (xs rest : List ℕ) (n x : ℕ) → f.wraps ≡ true → 0 < f.width → n ≤ f.width → IsRead xs n (x ∷ rest) → x ≡ 0x0D → IsHead f xs n (Some rest)
wrap_returned f xs rest n x wraps wide fits read is = record {
  inside = read.inside;
  fits = fits;
  lines = one_lined f xs (take n xs) (take n xs) (paragraphs rest) (returned xs rest n x read is) (short_line f xs n wraps wide fits read.inside);
}

same_last_space : (w : ℕ) (xs ys : List ℕ) → ((k : ℕ) → k ≤ w → slice_index xs k ≡ slice_index ys k) → last_space w xs ≡ last_space w ys
same_last_space zero xs ys same = refl
same_last_space (suc w) xs ys same =
    let behind : last_space w xs ≡ last_space w ys = same_last_space w xs ys (λ k below. same k (omega (arith, below))) in
    ap (λ (x : ℕ). if x == 0x20 then suc w else last_space w xs) (same (suc w) (omega arith))
    ∙ ap (λ (l : ℕ). if slice_index ys (suc w) == 0x20 then suc w else l) behind

cut_before_next : (w space : ℕ) → cut_at w space ≤ next_at w space
cut_before_next w space = by_test (space == 0)
  where
    by_test : (b : Bool) → (if b then w else space) ≤ (if b then w else space + 1)
    by_test true = omega arith
    by_test false = omega arith

heads : {p q : List ℕ} {ps qs : List (List ℕ)} → p ∷ ps ≡ q ∷ qs → p ≡ q
heads same = cc

longer_than : (w : ℕ) (xs q p : List ℕ) → suc w ≤ length xs → p ≡ take (suc w) xs ++ q → w < length p
longer_than w xs q p long same = omega (arith, ap length same, length-append (take (suc w) xs) q, length-take-le (suc w) xs long)

agree : (w : ℕ) (xs q p : List ℕ) → suc w ≤ length xs → p ≡ take (suc w) xs ++ q → (k : ℕ) → k ≤ w → slice_index p k ≡ slice_index xs k
agree w xs q p long same k below =
    ap (λ (l : List ℕ). slice_index l k) same
    ∙ get_or-append (take (suc w) xs) q 0 k (omega (arith, below, length-take-le (suc w) xs long))
    ∙ get_or-take (suc w) xs k 0 (omega (arith, below))

-- a paragraph that is longer than a line breaks
longer : (f : Form) (xs : List ℕ) → f.wraps ≡ true → 0 < f.width → suc f.width ≤ length xs → HasNoReturn (suc f.width) xs → text_lines f xs ≡ placed f (take (cut_at f.width (last_space f.width xs)) xs) ∷ text_lines f (drop (next_at f.width (last_space f.width xs)) xs)
longer f xs wraps wide long none = broken_at (last_space f.width xs) refl
  where
    broken_at : (space : ℕ) → last_space f.width xs ≡ space → text_lines f xs ≡ placed f (take (cut_at f.width space) xs) ∷ text_lines f (drop (next_at f.width space) xs)
    broken_at space is =
        let w = f.width in
        let n = next_at w space in
        let c = cut_at w space in
        let near : n ≤ w + 1 = subst (λ (s : ℕ). next_at w s ≤ w + 1) is (next_is_within w xs) in
        let inside : n ≤ length xs = omega (arith, near, long) in
        let own = first_of (drop n xs) in
        let far = first_of (drop (suc w) xs) in
        let parts : paragraphs xs ≡ (take n xs ++ own.paragraph) ∷ own.others = front_kept n xs own.paragraph own.others (λ k below. none k (omega (arith, below, near))) inside own.parts in
        let others : paragraphs xs ≡ (take (suc w) xs ++ far.paragraph) ∷ far.others = front_kept (suc w) xs far.paragraph far.others none long far.parts in
        let same : take n xs ++ own.paragraph ≡ take (suc w) xs ++ far.paragraph = heads (sym parts ∙ others) in
        let size : w < length (take n xs ++ own.paragraph) = longer_than w xs far.paragraph (take n xs ++ own.paragraph) long same in
        let space_is : last_space w (take n xs ++ own.paragraph) ≡ space = same_last_space w (take n xs ++ own.paragraph) xs (agree w xs far.paragraph (take n xs ++ own.paragraph) long same) ∙ is in
        let line : take c (take n xs ++ own.paragraph) ≡ take c xs = take-append-le c (take n xs) own.paragraph (omega (arith, cut_before_next w space, length-take-le n xs inside)) ∙ take_twice c n xs (cut_before_next w space) in
        let behind : drop n (take n xs ++ own.paragraph) ≡ own.paragraph = ap (λ (k : ℕ). drop k (take n xs ++ own.paragraph)) (sym (length-take-le n xs inside)) ∙ drop-append_seam (take n xs) own.paragraph in
        let divided : lines_of w (take n xs ++ own.paragraph) ≡ take c xs ∷ lines_of w own.paragraph =
        breaks w (take n xs ++ own.paragraph) wide size
        ∙ ap (λ (s : ℕ). take (cut_at w s) (take n xs ++ own.paragraph) ∷ lines_of w (drop (next_at w s) (take n xs ++ own.paragraph))) space_is
        ∙ ap (λ (l : List ℕ). l ∷ lines_of w (drop n (take n xs ++ own.paragraph))) line
        ∙ ap (λ (t : List ℕ). take c xs ∷ lines_of w t) behind in
        ap (λ (ps : List (List ℕ)). map (placed f) (flat_map (lines_in_form f) ps)) parts
        ∙ ap (λ (ls : List (List ℕ)). map (placed f) (ls ++ flat_map (lines_in_form f) own.others)) (wrapped_lines f (take n xs ++ own.paragraph) wraps wide ∙ divided ∙ ap (λ (ls : List (List ℕ)). take c xs ∷ ls) (sym (wrapped_lines f own.paragraph wraps wide)))
        ∙ ap (λ (ps : List (List ℕ)). placed f (take c xs) ∷ map (placed f) (flat_map (lines_in_form f) ps)) (sym own.parts)

-- A line is full, and its paragraph goes on.

breaks_on : (f : Form) (xs : List ℕ) (space : ℕ) → f.wraps ≡ true → 0 < f.width → suc f.width ≤ length xs → HasNoReturn (suc f.width) xs → last_space f.width xs ≡ space → IsHead f xs (cut_at f.width space) (Some (drop (next_at f.width space) xs))
breaks_on f xs space wraps wide long none is = record {
  inside = omega (arith, within, long);
  fits = within;
  lines = longer f xs wraps wide long none ∙ ap (λ (s : ℕ). placed f (take (cut_at f.width s) xs) ∷ text_lines f (drop (next_at f.width s) xs)) is;
}
  where
    within : cut_at f.width space ≤ f.width
    within = subst (λ (s : ℕ). cut_at f.width s ≤ f.width) is (cut_is_within f.width xs)

unbroken : (w x : ℕ) (xs : List ℕ) → slice_index xs (w + 1) ≡ x → (x == 0x20) ≡ false → last_space (w + 1) xs ≡ last_space w xs
unbroken w x xs is other = last_space_more w xs ∙ ap (λ (y : ℕ). if y == 0x20 then w + 1 else last_space w xs) is ∙ ap (λ (b : Bool). if b then w + 1 else last_space w xs) other

spaced : (w x : ℕ) (xs : List ℕ) → slice_index xs (w + 1) ≡ x → (x == 0x20) ≡ true → last_space (w + 1) xs ≡ w + 1
spaced w x xs is same = last_space_more w xs ∙ ap (λ (y : ℕ). if y == 0x20 then w + 1 else last_space w xs) is ∙ ap (λ (b : Bool). if b then w + 1 else last_space w xs) same

not_zero : (w : ℕ) → 0 < w → (w == 0) ≡ false
not_zero w wide = grind (arith, nat_tests, wide)

at_space : (w : ℕ) → 0 < w → cut_at w w ≡ w
at_space w wide = rw (not_zero w wide) refl

behind_space : (w : ℕ) → 0 < w → next_at w w ≡ w + 1
behind_space w wide = rw (not_zero w wide) refl

-- the line that is full, where the next scalar is a space
full_at_space : (f : Form) (xs rest : List ℕ) (x : ℕ) → f.wraps ≡ true → 0 < f.width → IsRead xs f.width (x ∷ rest) → x ≢ 0x0D → last_space f.width xs ≡ f.width → IsHead f xs f.width (Some rest)
full_at_space f xs rest x wraps wide read other last =
    let found = breaks_on f xs f.width wraps wide (omega (arith, more_inside xs rest f.width x read)) (λ k below. (read_more xs rest f.width x read other).none k (omega (arith, below))) last in
    let behind : drop (next_at f.width f.width) xs ≡ rest = ap (λ (k : ℕ). drop k xs) (behind_space f.width wide) ∙ sym (left_behind xs rest f.width x read) in
    subst (λ (l : List ℕ). IsHead f xs f.width (Some l)) behind (subst (λ (k : ℕ). IsHead f xs k (Some (drop (next_at f.width f.width) xs))) (at_space f.width wide) found)

-- and where it is another one
full_at_other : (f : Form) (xs rest next : List ℕ) (space x : ℕ) → f.wraps ≡ true → 0 < f.width → IsRead xs f.width (x ∷ rest) → x ≢ 0x0D → last_space f.width xs ≡ space → (0 < space → next ≡ drop (space + 1) xs)
    → IsHead f xs (if space == 0 then f.width else space) (if space == 0 then Some (x ∷ rest) else Some next)
full_at_other f xs rest next space x wraps wide read other last following = by_zero (space == 0) refl head
  where
    head : IsHead f xs (cut_at f.width space) (Some (drop (next_at f.width space) xs))
    head = breaks_on f xs space wraps wide (omega (arith, more_inside xs rest f.width x read)) (λ k below. (read_more xs rest f.width x read other).none k (omega (arith, below))) last

    some : (space == 0) ≡ false → 0 < space
    some not_none = grind (arith, nat_tests, not_none)

    by_zero : (b : Bool) → (space == 0) ≡ b → IsHead f xs (if b then f.width else space) (Some (drop (if b then f.width else space + 1) xs)) → IsHead f xs (if b then f.width else space) (if b then Some (x ∷ rest) else Some next)
    by_zero true is found = subst (λ (l : List ℕ). IsHead f xs f.width (Some l)) (sym read.behind) found
    by_zero false is found = subst (λ (l : List ℕ). IsHead f xs space (Some l)) (sym (following (some is))) found

-- the line that is full, whatever comes next
pub full : (f : Form) (xs rest next : List ℕ) (space w : ℕ) → f.wraps ≡ true → f.width ≡ w + 1 → IsRead xs f.width rest → space ≡ last_space w xs → (0 < space → next ≡ drop (space + 1) xs) → IsHead f xs (broken_length f.width space rest) (broken_rest space next rest)
full f xs [] next space w wraps wide read spaces following = wrap_ended f xs f.width wraps (omega (arith, wide)) (omega arith) read
full f xs (x ∷ rest) next space w wraps wide read spaces following =
    elim (eqb_tells x 0x0D) [
      | inl h ↦ rw h.0 (wrap_returned f xs rest f.width x wraps some (omega arith) read h.1)
      | inr h ↦ rw h.0 (by_space (x == 0x20) refl h.1)
    ]
  where
    some : 0 < f.width
    some = omega (arith, wide)

    there : slice_index xs (w + 1) ≡ x
    there = ap (slice_index xs) (sym wide) ∙ next_is xs rest f.width x read

    last : (n : ℕ) → last_space (w + 1) xs ≡ n → last_space f.width xs ≡ n
    last n is = ap (λ (k : ℕ). last_space k xs) wide ∙ is

    by_space : (b : Bool) → (x == 0x20) ≡ b → x ≢ 0x0D → IsHead f xs (if b then f.width else (if space == 0 then f.width else space)) (if b then Some rest else (if space == 0 then Some (x ∷ rest) else Some next))
    by_space true is other = full_at_space f xs rest x wraps some read other (last f.width (spaced w x xs there is ∙ sym wide))
    by_space false is other = full_at_other f xs rest next space x wraps some read other (last space (unbroken w x xs there is ∙ sym spaces)) following

-- One more scalar of a line is read.

pub space_kept : (xs rest : List ℕ) (n x space : ℕ) → IsRead xs n (x ∷ rest) → (x == 0x20 && nat_lt 0 n) ≡ false → space ≡ last_space (n - 1) xs → space ≡ last_space (n + 1 - 1) xs
space_kept xs rest zero x space read not_one is = is
space_kept xs rest (suc n) x space read not_one is =
    let before : suc n - 1 ≡ n = omega arith in
    let now : suc n + 1 - 1 ≡ n + 1 = omega arith in
    let there : slice_index xs (n + 1) ≡ x = ap (slice_index xs) (add-one n) ∙ next_is xs rest (suc n) x read in
    let other : (x == 0x20) ≡ false = not_both (x == 0x20) not_one in
    is ∙ ap (λ (k : ℕ). last_space k xs) before ∙ sym (unbroken n x xs there other) ∙ ap (λ (k : ℕ). last_space k xs) (sym now)
  where
    not_both : (b : Bool) → (b && nat_lt 0 (suc n)) ≡ false → b ≡ false
    not_both true same = let above : nat_lt 0 (suc n) ≡ true = grind (arith, nat_tests) in sym above ∙ same
    not_both false same = refl

pub space_found : (xs rest : List ℕ) (n x : ℕ) → IsRead xs n (x ∷ rest) → (x == 0x20 && nat_lt 0 n) ≡ true → n ≡ last_space (n + 1 - 1) xs
space_found xs rest zero x read one = never (x == 0x20) one
  where
    never : (b : Bool) → (b && nat_lt 0 zero) ≡ true → zero ≡ last_space (zero + 1 - 1) xs
    never true same = cc
    never false same = cc
space_found xs rest (suc n) x read one =
    let now : suc n + 1 - 1 ≡ n + 1 = omega arith in
    let there : slice_index xs (n + 1) ≡ x = ap (slice_index xs) (add-one n) ∙ next_is xs rest (suc n) x read in
    let same : (x == 0x20) ≡ true = both (x == 0x20) one in
    sym (add-one n) ∙ sym (spaced n x xs there same) ∙ ap (λ (k : ℕ). last_space k xs) (sym now)
  where
    both : (b : Bool) → (b && nat_lt 0 (suc n)) ≡ true → b ≡ true
    both true same = refl
    both false same = same
