-- The octet that was kept free tells the count of the digits.
use Rattle.std.proofs.Common.{ℕ, ◌+◌, ◌-◌, ◌≤◌, List, slice_set, subst, ap, ◌∙◌}
use Rattle.mh_der.proofs.WritingLemmas.{length_inserted}
use Rattle.mh_der.proofs.writing.insert_length.Goals as goal

pub returns-clause-inserted : goal.returns-clause-inserted
returns-clause-inserted c =
    let start = c.args.start in
    let xs : List ℕ = c.args.out.now.items in
    length_inserted start c.args.size xs (slice_set c.reserve.new.self.items (start - 1) (128 + c.digit_count.result)) c.insert_digits.new.out.items
    c.requires.begun (subst (λ (n : ℕ). start ≤ n) c.args.out.now.ok.0 c.requires.within) c.requires.long
    (ap (λ (l : List ℕ). slice_set l (start - 1) (128 + c.digit_count.result)) c.in_ok-reserve.ensures.items
    ∙ ap (λ (n : ℕ). slice_set xs (start - 1) (128 + n)) c.digit_count.ensures.exact)
    c.insert_digits.ensures.items
