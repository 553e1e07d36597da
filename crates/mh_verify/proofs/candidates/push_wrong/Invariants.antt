use Rattle.std.proofs.Common.{◌≡◌, ◌++◌, drop, filter}
use Rattle.mh_verify.specs.Naming.{is_wrong_alone}
use Rattle.mh_verify.proofs.candidates.push_wrong.Given as goal

abbrev pub invariant-loop-at : goal.invariant-loop-at
invariant-loop-at g l =
    l.list.items ++ filter (is_wrong_alone g.R.Rank.order l.known.service.now l.known.present.now l.act l.variable) (drop l.at-index l.all)
    ≡ l.initial.list.items ++ filter (is_wrong_alone g.R.Rank.order l.known.service.now l.known.present.now l.act l.variable) l.all
