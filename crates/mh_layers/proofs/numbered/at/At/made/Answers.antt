use Rattle.mh_layers.proofs.ContextLemmas.{is_context, named_context}
use Rattle.mh_layers.proofs.numbered.at.At.made.Goals as goal

pub invariant_of-result : goal.invariant_of-result
invariant_of-result c =
    is_context c.args.numbered_service.now c.read.ensures c.args.number c.args.config.now _ c.args.held.now c.requires.config c.requires.held c.present-present.ensures

pub returns : goal.returns
returns c = named_context c.args.numbered_service.now c.args.number c.args.config.now c.requires.config
