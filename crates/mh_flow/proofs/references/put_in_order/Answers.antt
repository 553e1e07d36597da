use Rattle.std.proofs.Common.{rules, ◌≡◌, sym}
use Rattle.std.specs.Ordering.{is_lt}
use Rattle.std.proofs.lemmas.Fn.{always_returns_same}
use Rattle.std.proofs.lemmas.List.Sorted.{list_any-IsPermutation, ranks_by}
use Rattle.mh_model.specs.Reference.{same_ref}
use Rattle.mh_laws.specs.Least.{by_reference}
use Rattle.mh_flow.proofs.OrderLemmas.{ascending, reference_total}
use Rattle.mh_flow.proofs.references.put_in_order.Goals as goal

pub returns-clause-ascending : goal.returns-clause-ascending
returns-clause-ascending c =
    ascending c.sort_by.new.self.keys
    (c.in_ok-sort_by.ensures.sorted (λ x y. is_lt (by_reference x y)) (ranks_by reference_total (λ q. q)) (always_returns_same _ (λ a r. is_lt r ≡ is_lt (by_reference a.0.now a.1.0.now)) _ (λ a r f' k. (search rules, search rules))))
    c.in_ok-sort_by.ensures.unique

pub returns-clause-same : goal.returns-clause-same
returns-clause-same c = λ q. sym (list_any-IsPermutation (same_ref q) c.args.references.now.keys c.sort_by.new.self.keys c.in_ok-sort_by.ensures.reordered.0)
