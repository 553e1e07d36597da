-- The last digit goes in first.
use Rattle.std.proofs.Common.{ℕ, ◌/◌, ◌≤◌, List, ◌++◌, take, drop, subst, ap, ◌∙◌}
use Rattle.std.specs.Int.Digits.{digits_of}
use Rattle.mh_der.proofs.WritingLemmas.{digits_inserted}
use Rattle.mh_der.proofs.writing.+insert_digits.Goals as goal

pub returns-in-Ok : goal.returns-in-Ok
returns-in-Ok t c =
    let at = c.args.at in
    let front : List ℕ = digits_of 256 (c.args.number / 256) in
    record {
      items = digits_inserted at c.args.number c.args.out.now.items c.insert_digits.new.out.items
          (subst (λ (n : ℕ). at ≤ n) c.args.out.now.ok.0 c.requires.within) c.if-number-gt0.true
          (c.insert_digits.ensures.items ∙ ap (λ (l : List ℕ). take at l ++ (front ++ drop at l)) c.in-Ok.ensures.items);
    }
