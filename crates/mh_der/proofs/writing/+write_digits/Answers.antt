-- The last digit stands behind those of the front.
use Rattle.std.proofs.Common.{ℕ, ◌/◌, ◌%◌, List, [], ◌∷◌, ◌++◌, arith, ap, ◌∙◌, append_assoc}
use Rattle.std.specs.Int.Digits.{digits_of}
use Rattle.mh_der.proofs.DigitLemmas.{bytes_more}
use Rattle.mh_der.proofs.writing.+write_digits.Goals as goal

pub returns-then-number-gt0-clause-items : goal.returns-then-number-gt0-clause-items
returns-then-number-gt0-clause-items t c =
    let front = (digits_of 256 (c.args.number / 256)) in
    let last = c.args.number % 256 ∷ [] in
    rw (bytes_more c.args.number (omega arith))
    (c.push_reserved.ensures.items ∙ ap (λ (l : List ℕ). l ++ last) c.write_digits.ensures.items ∙ append_assoc c.args.out.now.items front last)
