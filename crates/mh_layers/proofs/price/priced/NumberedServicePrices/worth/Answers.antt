use Rattle.std.proofs.Common.{◌∙◌}
use Rattle.mh_layers.proofs.NamesLemmas.{names_there}
use Rattle.mh_layers.proofs.price.priced.NumberedServicePrices.worth.Goals as goal

pub returns-then-not-has_names : goal.returns-then-not-has_names
returns-then-not-has_names c has =
    let none = c.if-not-has_names.ensures ∙ names_there c.args.self.now (record { flow = c.read.ensures.flow; listening = c.read.ensures.listening }) c.args.node.now has in absurd cc
