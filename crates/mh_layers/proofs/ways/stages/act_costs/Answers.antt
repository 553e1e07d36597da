use Rattle.std.specs.Prelude.{ℕ, ◌+◌, List, ◌++◌, drop, map}
use Rattle.std.proofs.Common.{arith, ap, ◌∙◌}
use Rattle.mh_model.specs.declared.act.Act.{Act}
use Rattle.mh_layers.specs.Staging.{IsKnown, act_worth, all_known}
use Rattle.mh_layers.proofs.NamesLemmas.{item_is}
use Rattle.mh_layers.proofs.StageLemmas.{one_known}
use Rattle.mh_layers.proofs.ways.stages.act_costs.Goals as goal

pub act_cost-requires : goal.act_cost-requires
act_cost-requires c =
    let s = c.args.here.now in
    item_is (λ (a : Act). IsKnown (act_worth s.reading c.args.costs.now s.config a)) c.args.acts.now c.loop-each.each-index c.each-item.result c.loop-each-test.true c.each-item.is c.requires

pub loop-each-preserved : goal.loop-each-preserved
loop-each-preserved c =
    let s = c.args.here.now in
    let f = act_worth s.reading c.args.costs.now s.config in
    let xs = c.args.acts.now in
    let n = c.loop-each.each-index in
    ap (λ (ns : List ℕ). all_known ns ++ map f (drop (n + 1) xs)) c.in_ok-push.ensures.items
    ∙ one_known f xs n c.each-item.result c.loop-each.found.items c.in_ok-act_cost.field-0 (map f xs)
    (omega (arith, c.loop-each-test.true)) c.each-item.is c.in_ok-act_cost.ensures c.loop-each.invariant
