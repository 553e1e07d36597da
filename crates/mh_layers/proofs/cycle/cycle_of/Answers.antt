use Rattle.std.proofs.Common.{◌∙◌, subst, sym}
use Rattle.mh_laws.specs.Each.{Each}
use Rattle.mh_layers.specs.Reading.{kept}
use Rattle.mh_layers.proofs.LayeredLemmas.{listed_kept}
use Rattle.mh_layers.proofs.cycle.cycle_of.Goals as goal

pub laid_of-requires-clause-kept : goal.laid_of-requires-clause-kept
laid_of-requires-clause-kept c =
    subst (Each (kept c.args.numbered_service.now)) (sym (c.as_slice.ensures.value ∙ c.in_ok-nodes.ensures)) (listed_kept c.args.numbered_service.now c.read.ensures)
