-- A paragraph has one division into lines.
use Rattle.std.specs.Prelude.{◌≡◌, ◌≢◌, ℕ, zero, suc, ◌+◌, ◌<◌, ◌≤◌, List, ◌∷◌, ◌++◌, length, take, drop, slice_index, refl}
use Rattle.std.proofs.Common.{inl, inr, ap, ◌∙◌, sym, subst, arith}
use Rattle.std.proofs.lemmas.Bool.Decides.{leb_tells}
use Rattle.std.proofs.lemmas.List.{length-drop, length-take-le, take-append-drop, drop-drop, drop_more, take_at, drop_at, get_or_at}
use Rattle.mh_model.specs.Lines.{last_space, cut_at, next_at, lines_in, lines_of, IsAtSpace, IsCut, IsBreak, AreLines, last, more}
use Rattle.mh_layout.specs.Laws.{OneDivision}
use Rattle.mh_layout.proofs.LineLemmas.{is_or_not, last_space_within, no_space_behind, no_last_space, next_is_behind, one_line_in, one_line, breaks}

-- There is one.

at_last_space : (w : ℕ) (xs : List ℕ) → last_space w xs ≢ 0 → slice_index xs (last_space w xs) ≡ 0x20
at_last_space zero xs some = absurd (some refl)
at_last_space (suc n) xs some =
    is_or_not (slice_index xs (last_space (suc n) xs) ≡ 0x20) (slice_index xs (suc n)) 0x20
    (λ e same. let at : last_space (suc n) xs ≡ suc n = rw e refl in ap (slice_index xs) at ∙ same)
    (λ e other.
    let before : last_space (suc n) xs ≡ last_space n xs = rw e refl in
    ap (slice_index xs) before ∙ at_last_space n xs (λ none. some (before ∙ none)))

break_at_space : (w : ℕ) (xs : List ℕ) → w < length xs → last_space w xs ≢ 0 → IsBreak w xs (take (last_space w xs) xs) (drop (last_space w xs + 1) xs)
break_at_space w xs long some =
    let within : last_space w xs ≤ w = last_space_within w xs in
    let inside : last_space w xs < length xs = omega (arith, within, long) in
    let size : length (take (last_space w xs) xs) ≡ last_space w xs = length-take-le (last_space w xs) xs (omega (arith, inside)) in
    record {
      longer = long;
      place = inl (record {
        begins = omega (arith, size, some);
        fits = omega (arith, size, within);
        parts = sym (take-append-drop (last_space w xs) xs)
            ∙ ap (λ (t : List ℕ). take (last_space w xs) xs ++ t) (drop_more xs (last_space w xs) 0 inside ∙ ap (λ (x : ℕ). x ∷ drop (last_space w xs + 1) xs) (at_last_space w xs some));
        none_behind = λ k low high. no_space_behind w xs k (omega (arith, low, size)) high;
      });
    }

break_at_width : (w : ℕ) (xs : List ℕ) → w < length xs → last_space w xs ≡ 0 → IsBreak w xs (take w xs) (drop w xs)
break_at_width w xs long none = record {
  longer = long;
  place = inr (record {
    full = length-take-le w xs (omega (arith, long));
    parts = sym (take-append-drop w xs);
    none_inside = λ k low high. no_space_behind w xs k (omega (arith, low, none)) high;
  });
}

break_here : (w : ℕ) (xs : List ℕ) → w < length xs → IsBreak w xs (take (cut_at w (last_space w xs)) xs) (drop (next_at w (last_space w xs)) xs)
break_here w xs long =
    is_or_not (IsBreak w xs (take (cut_at w (last_space w xs)) xs) (drop (next_at w (last_space w xs)) xs)) (last_space w xs) 0
    (λ e none.
    let cut : cut_at w (last_space w xs) ≡ w = rw e refl in
    let next : next_at w (last_space w xs) ≡ w = rw e refl in
    subst (λ (n : ℕ). IsBreak w xs (take n xs) (drop (next_at w (last_space w xs)) xs)) (sym cut)
    (subst (λ (n : ℕ). IsBreak w xs (take w xs) (drop n xs)) (sym next) (break_at_width w xs long none)))
    (λ e some.
    let cut : cut_at w (last_space w xs) ≡ last_space w xs = rw e refl in
    let next : next_at w (last_space w xs) ≡ last_space w xs + 1 = rw e refl in
    subst (λ (n : ℕ). IsBreak w xs (take n xs) (drop (next_at w (last_space w xs)) xs)) (sym cut)
    (subst (λ (n : ℕ). IsBreak w xs (take (last_space w xs) xs) (drop n xs)) (sym next) (break_at_space w xs long some)))

are_lines_in : (n w : ℕ) (xs : List ℕ) → 0 < w → length xs ≤ n → AreLines w xs (lines_in n w xs)
unfolding lines_in
are_lines_in zero w xs wide few = last (omega (arith, few))
are_lines_in (suc n) w xs wide few = elim (leb_tells (length xs) w) [
  | inl h ↦ subst (AreLines w xs) (sym (one_line_in (suc n) w xs h.1)) (last h.1)
  | inr h ↦
      let next : 1 ≤ next_at w (last_space w xs) = next_is_behind w (last_space w xs) wide in
      let shorter : length (drop (next_at w (last_space w xs)) xs) ≤ n = omega (arith, few, next, h.1, length-drop (next_at w (last_space w xs)) xs) in
      let broken : lines_in (suc n) w xs ≡ take (cut_at w (last_space w xs)) xs ∷ lines_in n w (drop (next_at w (last_space w xs)) xs) = rw h.0 refl in
      subst (AreLines w xs) (sym broken) (more (break_here w xs h.1) (are_lines_in n w (drop (next_at w (last_space w xs)) xs) wide shorter))
]

-- There is no other one.

is_last : (w s : ℕ) (xs : List ℕ) → 1 ≤ s → s ≤ w → slice_index xs s ≡ 0x20 → ((k : ℕ) → s < k → k ≤ w → slice_index xs k ≢ 0x20) → last_space w xs ≡ s
is_last zero s xs low high here none = absurd (omega (arith, low, high))
is_last (suc n) s xs low high here none =
    is_or_not (last_space (suc n) xs ≡ s) (slice_index xs (suc n)) 0x20
    (λ e same.
    let at : last_space (suc n) xs ≡ suc n = rw e refl in
    is_or_not (last_space (suc n) xs ≡ s) s (suc n)
    (λ _ is. at ∙ sym is)
    (λ _ other. absurd (none (suc n) (omega (arith, high, other)) (omega arith) same)))
    (λ e other.
    let before : last_space (suc n) xs ≡ last_space n xs = rw e refl in
    let below : s ≢ suc n = λ is. other (ap (slice_index xs) (sym is) ∙ here) in
    before ∙ is_last n s xs low (omega (arith, high, below)) here (λ k past most. none k past (omega (arith, most))))

-- where a rest breaks
pub record BreaksHere (w : ℕ) (rest line next : List ℕ) : Type 0 where
  pub line_is : line ≡ take (cut_at w (last_space w rest)) rest
  pub next_is : next ≡ drop (next_at w (last_space w rest)) rest

at_space : (w : ℕ) (rest line next : List ℕ) → IsAtSpace w rest line next → BreaksHere w rest line next
at_space w rest line next is =
    let here : slice_index rest (length line) ≡ 0x20 = ap (λ (t : List ℕ). slice_index t (length line)) is.parts ∙ get_or_at line 0x20 next 0 (length line) refl in
    let place : last_space w rest ≡ length line = is_last w (length line) rest is.begins is.fits here is.none_behind in
    let cut : cut_at w (length line) ≡ length line = is_or_not (cut_at w (length line) ≡ length line) (length line) 0 (λ e none. absurd (omega (arith, is.begins, none))) (λ e some. rw e refl) in
    let behind : next_at w (length line) ≡ length line + 1 = is_or_not (next_at w (length line) ≡ length line + 1) (length line) 0 (λ e none. absurd (omega (arith, is.begins, none))) (λ e some. rw e refl) in
    let front : take (length line) rest ≡ line = ap (take (length line)) is.parts ∙ take_at line (0x20 ∷ next) (length line) refl in
    let tail : drop (length line + 1) rest ≡ next = ap (drop (length line + 1)) is.parts ∙ sym (drop-drop 1 (length line) (line ++ 0x20 ∷ next)) ∙ ap (drop 1) (drop_at line (0x20 ∷ next) (length line) refl) in
    record {
      line_is = sym front ∙ ap (λ (n : ℕ). take n rest) (sym (ap (cut_at w) place ∙ cut));
      next_is = sym tail ∙ ap (λ (n : ℕ). drop n rest) (sym (ap (next_at w) place ∙ behind));
    }

at_width : (w : ℕ) (rest line next : List ℕ) → IsCut w rest line next → BreaksHere w rest line next
at_width w rest line next is =
    let place : last_space w rest ≡ 0 = no_last_space w rest is.none_inside in
    let front : take w rest ≡ line = ap (take w) is.parts ∙ take_at line next w is.full in
    let tail : drop w rest ≡ next = ap (drop w) is.parts ∙ drop_at line next w is.full in
    record {
      line_is = sym front ∙ ap (λ (n : ℕ). take n rest) (sym (ap (cut_at w) place));
      next_is = sym tail ∙ ap (λ (n : ℕ). drop n rest) (sym (ap (next_at w) place));
    }

where_it_breaks : (w : ℕ) (rest line next : List ℕ) → IsBreak w rest line next → BreaksHere w rest line next
where_it_breaks w rest line next is = elim is.place [ inl s ↦ at_space w rest line next s | inr c ↦ at_width w rest line next c ]

only_lines : (w : ℕ) (xs : List ℕ) (all : List (List ℕ)) → 0 < w → AreLines w xs all → all ≡ lines_of w xs
only_lines w xs all wide (last {line} short) = sym (one_line w line short)
only_lines w xs all wide (more {rest} {line} {next} {lines} is tail) =
    let found : BreaksHere w rest line next = where_it_breaks w rest line next is in
    ap (λ (t : List (List ℕ)). line ∷ t) (only_lines w next lines wide tail)
    ∙ ap (λ (t : List ℕ). t ∷ lines_of w next) found.line_is
    ∙ ap (λ (t : List ℕ). take (cut_at w (last_space w rest)) rest ∷ lines_of w t) found.next_is
    ∙ sym (breaks w rest wide is.longer)

pub one_division : OneDivision
one_division w xs wide = (are_lines_in (length xs) w xs wide (omega arith), λ lines are. only_lines w xs lines wide are)
