use Rattle.std.proofs.Common.{◌≡◌, ◌++◌, drop}
use Rattle.mh_flow.specs.Solved.{held_by}
use Rattle.mh_verify.specs.Naming.{candidates_of_parts}
use Rattle.mh_verify.proofs.candidates.push_parts.Given as goal

abbrev pub invariant-loop-part : goal.invariant-loop-part
invariant-loop-part g l =
    let ps = l.scope.present in let h = held_by ps l.scope.held in
    l.list.items ++ candidates_of_parts g.R.Rank.order ps h l.key l.place (drop l.part-index l.parts)
    ≡ l.initial.list.items ++ candidates_of_parts g.R.Rank.order ps h l.key l.place l.parts
