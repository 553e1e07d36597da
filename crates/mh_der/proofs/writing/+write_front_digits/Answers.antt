-- The last digit stands behind those of the front.
use Rattle.std.proofs.Common.{ℕ, ◌+◌, ◌/◌, ◌%◌, List, [], ◌∷◌, ◌++◌, map, arith, ap, ◌∙◌, append_assoc}
use Rattle.std.specs.Int.Digits.{digits_of}
use Rattle.mh_der.proofs.DigitLemmas.{marked_more}
use Rattle.mh_der.proofs.writing.+write_front_digits.Goals as goal

pub returns-then-number-gt0-clause-items : goal.returns-then-number-gt0-clause-items
returns-then-number-gt0-clause-items t c =
    let front = (map (λ d. 128 + d) (digits_of 128 (c.args.number / 128))) in
    let last = (128 + c.args.number % 128) ∷ [] in
    rw (marked_more c.args.number (omega arith))
    (c.push_reserved.ensures.items ∙ ap (λ (l : List ℕ). l ++ last) c.write_front_digits.ensures.items ∙ append_assoc c.args.out.now.items front last)
