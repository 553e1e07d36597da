use Rattle.std.proofs.Common.{◌∙◌, sym}
use Rattle.mh_laws.specs.View.{act}
use Rattle.mh_layers.specs.Known.{told}
use Rattle.mh_layers.specs.Layering.{cost_in}
use Rattle.mh_layers.specs.Reading.{around_at, number}
use Rattle.mh_layers.proofs.KnowingLemmas.{known_named}
use Rattle.mh_layers.proofs.WorthLemmas.{not_err}
use Rattle.mh_layers.proofs.ways.stages.act_cost.Goals as goal

pub returns : goal.returns
returns c =
    let s = c.args.here.now in
    sym (known_named (number s.reading) (told (cost_in c.args.costs.now)) (act (around_at s) c.args.each.now)) ∙ sym c.in_ok-cost.ensures ∙ c.in-Ok.is

pub unreachable-requires : goal.unreachable-requires
unreachable-requires c =
    let s = c.args.here.now in
    not_err _ c.in-Err.field-0 c.requires.cost c.in-Err.is
    (c.in_ok-cost.ensures ∙ known_named (number s.reading) (told (cost_in c.args.costs.now)) (act (around_at s) c.args.each.now) ∙ c.requires.is)
