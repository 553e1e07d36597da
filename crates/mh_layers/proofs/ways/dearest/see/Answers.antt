use Rattle.std.proofs.Common.{arith, rules, refl}
use Rattle.mh_layers.specs.declared.ways.dearest.Dearest.{Dearest}
use Rattle.mh_layers.proofs.DearestLemmas.{seen_best}
use Rattle.mh_layers.proofs.WorthLemmas.{costs_effect}
use Rattle.mh_layers.proofs.ways.dearest.see.Goals as goal

pub returns : goal.returns
returns c =
    let b : Dearest = record { node = c.args.node.now; cause = c.in_ok-cause.cause; cost = c.effect_cost-cost.result } in
    seen_best c.args.numbered_service.now c.args.laying.now c.args.node.now b c.args.best.now c.set.new.best
    refl c.in_ok-cause.ensures c.effect_cost-cost.ensures (search rules) (search rules) c.set.ensures

pub cause_of-requires : goal.cause_of-requires
cause_of-requires c =
    (c.requires, costs_effect c.args.laying.now c.args.node.now c.effect_cost-cost.result c.effect_cost-cost.ensures (omega (arith, c.if-cost-eq0.false)))
