use Rattle.std.proofs.Common.{◌≡◌, ◌++◌, map, drop}
use Rattle.std.specs.List.{list_all}
use Rattle.mh_service.specs.Resolved.{act_leads, act_of}
use Rattle.mh_service.proofs.acts.effect.Given as goal

abbrev pub invariant-loop-action : goal.invariant-loop-action
invariant-loop-action l = record {
  found : l.acts ++ map (act_of l.from) (drop l.action-index l.actions) ≡ map (act_of l.from) l.actions;
  good : list_all (act_leads l.from) (drop l.action-index l.actions) ≡ list_all (act_leads l.from) l.actions;
}
