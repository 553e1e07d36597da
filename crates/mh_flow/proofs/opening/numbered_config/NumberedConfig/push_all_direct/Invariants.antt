use Rattle.std.proofs.Common.{◌≡◌, ◌++◌, drop}
use Rattle.std.specs.List.{flat_map}
use Rattle.mh_flow.specs.Opening.{does_direct}
use Rattle.mh_flow.proofs.opening.numbered_config.NumberedConfig.push_all_direct.Given as goal

abbrev pub invariant-loop-site : goal.invariant-loop-site
invariant-loop-site l =
    l.items.items ++ flat_map (λ x. does_direct l.self.service l.self.chart l.self.number l.self.config l.self.bases x.act x.act.target) (drop l.site-index l.sites)
    ≡ l.initial.items.items ++ flat_map (λ x. does_direct l.self.service l.self.chart l.self.number l.self.config l.self.bases x.act x.act.target) l.sites
