use Rattle.std.proofs.Common.{◌≡◌, ◌++◌, drop}
use Rattle.mh_flow.specs.Solved.{held_by}
use Rattle.mh_verify.specs.Naming.{candidates_of_sites}
use Rattle.mh_verify.proofs.candidates.push_sites.Given as goal

abbrev pub invariant-loop-site : goal.invariant-loop-site
invariant-loop-site g l =
    let s = l.scope.service.now in let ps = l.scope.present in let h = held_by ps l.scope.held in
    l.list.items ++ candidates_of_sites g.R.Rank.order s ps h l.variable l.place (drop l.site-index l.sites)
    ≡ l.initial.list.items ++ candidates_of_sites g.R.Rank.order s ps h l.variable l.place l.sites
