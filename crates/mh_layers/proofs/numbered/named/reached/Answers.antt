use Rattle.std.proofs.Common.{◌∙◌, sym}
use Rattle.mh_layers.proofs.NamesLemmas.{numbered_has, unnumbered}
use Rattle.mh_layers.proofs.numbered.named.reached.Goals as goal

pub unreachable-requires : goal.unreachable-requires
unreachable-requires c = unnumbered c.args.numbered_service.now c.args.config.now c.requires (sym c.number_of.ensures ∙ c.in-None.is)

pub context_at-requires : goal.context_at-requires
context_at-requires c = numbered_has c.args.numbered_service.now c.args.config.now c.in-Some.number (sym c.number_of.ensures ∙ c.in-Some.is)
