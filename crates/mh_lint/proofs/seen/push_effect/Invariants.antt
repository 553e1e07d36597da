use Rattle.std.proofs.Common.{◌≡◌, ◌++◌, drop, false}
use Rattle.mh_lint.specs.Notes.{seen_from}
use Rattle.mh_lint.proofs.seen.push_effect.Given as goal

abbrev pub invariant-loop-act : goal.invariant-loop-act
invariant-loop-act l =
    l.seen.items ++ seen_from l.late l.is_behind (drop l.act-index l.acts) ≡ l.initial.seen.items ++ seen_from l.late false l.acts
