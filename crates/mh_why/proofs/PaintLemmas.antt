-- Colours are all that is added: what is painted is put together of orders, which stand for no text, and of pieces of the text.
use Rattle.std.specs.Prelude.{◌≡◌, ℕ, ◌==◌, Bool, true, false, ◌&&◌, nat_lt, ◌-◌, cond, if◌then◌else◌, List, [], ◌∷◌, ◌++◌, codes, drop, take, length, slice_index, refl}
use Rattle.std.specs.List.{concat, flat_map, prefix_len}
use Rattle.std.proofs.Common.{ap, sym, subst, ◌∙◌, append-nil, append_assoc, take-append-drop, drop_at}
use Rattle.std.proofs.lemmas.List.Concat.{flat_map-append}
use Rattle.bstr.specs.Text.{lines_of, no_cr, without_terminator}
use Rattle.bstr.proofs.lemmas.RestLemmas.{concat-lines_of}
use Rattle.mh_why.specs.Painting.{IsPainted, Given, Written, stroke_bytes, written_bytes, order_bytes, coloured, coloured_from, is_space, behind_spaces, begins_with, painted_line, painted_whole, painted}
use Rattle.mh_why.specs.declared.paint.Order.{Order}
use Rattle.mh_why.specs.declared.paint.Order.TheVariants as order

-- Pieces

given : (o : Order) → IsPainted [] (order_bytes o)
given o = record { strokes = Given o ∷ []; all = sym (append-nil (order_bytes o)); same = refl }

written : (bs : List ℕ) → IsPainted bs bs
written bs = record { strokes = Written bs ∷ []; all = sym (append-nil bs); same = append-nil bs }

-- one behind the other, as an operator that groups as `++` does
infixl 65 ◌⌢◌
◌⌢◌ : {s t bs cs : List ℕ} → IsPainted s bs → IsPainted t cs → IsPainted (s ++ t) (bs ++ cs)
◌⌢◌ {s} {t} {bs} {cs} front behind = record {
  strokes = front.strokes ++ behind.strokes;
  all =
      ap (λ (xs : List ℕ). xs ++ cs) front.all ∙ ap (λ (xs : List ℕ). flat_map stroke_bytes front.strokes ++ xs) behind.all
      ∙ sym (flat_map-append stroke_bytes front.strokes behind.strokes);
  same =
      flat_map-append written_bytes front.strokes behind.strokes ∙ ap (λ (xs : List ℕ). xs ++ flat_map written_bytes behind.strokes) front.same
      ∙ ap (λ (xs : List ℕ). s ++ xs) behind.same;
}

-- the same of what is the same text
of_text : {s t bs : List ℕ} → s ≡ t → IsPainted s bs → IsPainted t bs
of_text {s} {t} {bs} same is = subst (λ (xs : List ℕ). IsPainted xs bs) same is

-- Lines

in_colour : (o : Order) (bs : List ℕ) → IsPainted bs (coloured o bs)
in_colour o bs = of_text (append-nil bs) (given o ⌢ written bs ⌢ given order.Back)

in_part : (first size : ℕ) (o : Order) (bs : List ℕ) → IsPainted bs (coloured_from first size o bs)
in_part first size o bs =
    let behind : List ℕ = drop first bs in
    of_text
    (append_assoc (take first bs) (take size behind) (drop size behind)
    ∙ ap (λ (xs : List ℕ). take first bs ++ xs) (take-append-drop size behind) ∙ take-append-drop first bs)
    (written (take first bs) ⌢ in_colour o (take size behind) ⌢ written (drop size behind))

either : {text : List ℕ} (b : Bool) (xs ys : List ℕ) → IsPainted text xs → IsPainted text ys → IsPainted text (if b then xs else ys)
either true xs ys first second = first
either false xs ys first second = second

line_painted : (bs : List ℕ) → IsPainted bs (painted_line bs)
unfolding painted_line
line_painted bs =
    let mend = either (begins_with (codes "  Mend:") bs) _ _ (in_part 2 5 order.Green bs) (written bs) in
    let cause = either (begins_with (codes "  Cause:") bs) _ _ (in_part 2 6 order.Yellow bs) mend in
    let caret = either (begins_with (codes "|") (behind_spaces bs)) _ _ (in_colour order.Red bs) cause in
    either (prefix_len is_space bs == 0) _ _ (in_colour order.Bold bs) caret

-- Ends of lines: a line without its end is its front

record IsFront (front bs : List ℕ) : Type 0 where
  rest : List ℕ
  whole : front ++ rest ≡ bs

part_of : (b : Bool) (n : ℕ) (bs front : List ℕ) → IsFront front bs → IsFront (cond b (take n front) front) bs
part_of false n bs front is = is
part_of true n bs front is = record {
  rest = drop n front ++ is.rest;
  whole =
      sym (append_assoc (take n front) (drop n front) is.rest) ∙ ap (λ (xs : List ℕ). xs ++ is.rest) (take-append-drop n front)
      ∙ is.whole;
}

line_front : (bs : List ℕ) → IsFront (without_terminator bs) bs
line_front bs = by (nat_lt 0 (length bs) && slice_index bs (length bs - 1) == 10)
  where
    all : IsFront bs bs
    all = record { rest = []; whole = append-nil bs }

    by : (b : Bool) → IsFront (cond b (no_cr (take (length bs - 1) bs)) bs) bs
    by false = all
    by true =
        let front : List ℕ = take (length bs - 1) bs in
        part_of (nat_lt 0 (length front) && slice_index front (length front - 1) == 13) (length front - 1) bs front (part_of true (length bs - 1) bs bs all)

front_and_rest : (front bs : List ℕ) → IsFront front bs → front ++ drop (length front) bs ≡ bs
front_and_rest front bs is =
    ap (λ (xs : List ℕ). front ++ drop (length front) xs) (sym is.whole) ∙ ap (λ (xs : List ℕ). front ++ xs) (drop_at front is.rest (length front) refl)
    ∙ is.whole

whole_painted : (l : List ℕ) → IsPainted l (painted_whole l)
whole_painted l =
    let front : List ℕ = without_terminator l in
    of_text (front_and_rest front l (line_front l)) (line_painted front ⌢ written (drop (length front) l))

-- All lines

lines_painted : (ls : List (List ℕ)) → IsPainted (concat ls) (flat_map painted_whole ls)
lines_painted [] = written []
lines_painted (l ∷ ls) = whole_painted l ⌢ lines_painted ls

pub text_painted : (text : List ℕ) → IsPainted text (painted text)
unfolding painted
text_painted text = of_text (concat-lines_of text) (lines_painted (lines_of text))
