use Rattle.std.proofs.Common.{◌∙◌, sym}
use Rattle.mh_layers.proofs.OntoLemmas.{heard_adds}
use Rattle.mh_layers.proofs.price.walk.WalkView.dealt_with.Goals as goal

pub returns-in-Some : goal.returns-in-Some
returns-in-Some g c =
    heard_adds g.M.Meter.seen (g.M.Meter.meter c.args.self.now.meter.now) c.args.self.now.here.now c.args.at.now c.args.kind c.args.told.now c.in-Some.hears c.args.sum c.heard.result
    (sym c.hears.ensures ∙ c.in-Some.is) c.heard.ensures
