use Rattle.std.proofs.Common.{◌≡◌, ◌++◌, drop, filter}
use Rattle.mh_verify.specs.Naming.{is_wrong_item}
use Rattle.mh_verify.proofs.candidates.push_items.Given as goal

abbrev pub invariant-loop-at : goal.invariant-loop-at
invariant-loop-at g l =
    l.list.items ++ filter (is_wrong_item g.R.Rank.order l.scope.present l.key) (drop l.at-index l.items)
    ≡ l.initial.list.items ++ filter (is_wrong_item g.R.Rank.order l.scope.present l.key) l.items
