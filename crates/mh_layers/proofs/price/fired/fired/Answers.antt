use Rattle.std.specs.Prelude.{slice_get}
use Rattle.std.proofs.Common.{ap, ◌∙◌, subst, sym}
use Rattle.std.proofs.lemmas.Option.{get_or_from_slice_get}
use Rattle.mh_base.specs.declared.value.Value.{Value}
use Rattle.mh_model.specs.Variables.{same_value}
use Rattle.mh_prices.specs.Meter.{Adds}
use Rattle.mh_layers.specs.declared.numbered_node.Hears.{Hears}
use Rattle.mh_layers.specs.Grouped.{has}
use Rattle.mh_layers.specs.CostNode.{Fired}
use Rattle.mh_layers.specs.CostNodes.{links_with}
use Rattle.mh_layers.specs.Numbered.{through}
use Rattle.mh_layers.specs.Reading.{has_hearing, hearing_named, no_value, number, price_read, values_read}
use Rattle.mh_layers.proofs.NamesLemmas.{some_there}
use Rattle.mh_layers.proofs.price.fired.fired.Goals as goal

pub returns-in-Plain : goal.returns-in-Plain
returns-in-Plain g c =
    let s = c.args.walk.now.here.now in
    let m = through (number s.reading) (g.M.Meter.meter c.args.walk.now.meter.now) in
    let o = c.args.source.now in
    let kind = c.args.kind in
    subst (λ (h : Hears). Adds g.M.Meter.seen m (price_read s.reading (Fired s.config o kind (hearing_named s.reading o kind h))) c.args.sum c.plain.result) (sym c.in-Plain.is) c.plain.ensures

pub returns-in-With : goal.returns-in-With
returns-in-With g c =
    let s = c.args.walk.now.here.now in
    let m = through (number s.reading) (g.M.Meter.meter c.args.walk.now.meter.now) in
    let o = c.args.source.now in
    let kind = c.args.kind in
    let n = c.in-With.number in
    let is = some_there (slice_get (values_read s.reading o kind) n) (ap (has_hearing s.reading o kind) (sym c.in-With.is) ∙ c.requires) in
    let xs = values_read s.reading o kind in
    subst (λ (h : Hears). Adds g.M.Meter.seen m (price_read s.reading (Fired s.config o kind (hearing_named s.reading o kind h))) c.args.sum c.with.result) (sym c.in-With.is)
    (subst (λ (y : Value). Adds g.M.Meter.seen m (links_with s.reading.service s.config o kind (has same_value y)) c.args.sum c.with.result) (sym (get_or_from_slice_get xs n is.0 (no_value xs) is.1))
    (c.with.ensures is.0 is.1))
