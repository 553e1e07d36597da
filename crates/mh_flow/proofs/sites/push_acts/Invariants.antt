use Rattle.std.proofs.Common.{◌≡◌, ◌++◌, drop, suc, length}
use Rattle.mh_flow.specs.Sites.{numbered}
use Rattle.mh_flow.proofs.sites.push_acts.Given as goal

abbrev pub invariant-loop-act : goal.invariant-loop-act
invariant-loop-act l = l.sites.items ++ numbered l.key l.first (suc (length l.sites.items)) (drop l.act-index l.acts) ≡ l.initial.sites.items ++ numbered l.key l.first (suc (length l.initial.sites.items)) l.acts
