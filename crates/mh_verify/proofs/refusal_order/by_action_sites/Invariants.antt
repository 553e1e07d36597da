use Rattle.std.proofs.Common.{◌≡◌, length}
use Rattle.std.specs.Cmp.Lexicographic.{slice_cmp}
use Rattle.mh_flow.specs.Chains.{by_action_site}
use Rattle.mh_verify.proofs.refusal_order.by_action_sites.Given as goal

abbrev pub invariant-loop-link : goal.invariant-loop-link
invariant-loop-link l = slice_cmp by_action_site l.first l.second ≡ slice_cmp by_action_site l.fn.first l.fn.second

abbrev pub decreases-loop-link : goal.decreases-loop-link
decreases-loop-link l = length l.first
