use Rattle.std.proofs.Common.{List, reverse, [], ap, ◌∙◌}
use Rattle.std.specs.List.{flat_map}
use Rattle.indexmap.specs.IndexSet.{insert_all}
use Rattle.mh_model.specs.declared.config.Config.{Config}
use Rattle.mh_laws.specs.Costs.{TimerKey, same_timer}
use Rattle.mh_flow.specs.Solved.{flow_in}
use Rattle.mh_layers.specs.SetTimers.{set_in}
use Rattle.mh_layers.proofs.numbered.timers.TimerSet.of.Goals as goal

pub returns : goal.returns
returns c =
    c.in_ok-set.ensures
    ∙ ap (insert_all same_timer []) (c.as_slice.ensures.value ∙ c.reverse.ensures.items)
    ∙ ap (λ (ts : List TimerKey). insert_all same_timer [] (reverse ts)) c.in_ok-timers.ensures
    ∙ ap (λ (cs : List Config). insert_all same_timer [] (reverse (flat_map (set_in c.args.service.now (flow_in c.args.service.now c.args.flow.now)) cs))) c.requires.all
