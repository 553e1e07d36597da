use Rattle.std.proofs.Common.{subst, sym}
use Rattle.mh_laws.specs.Each.{Each}
use Rattle.mh_layers.specs.Reading.{kept}
use Rattle.mh_layers.proofs.CausedLemmas.{reached_kept}
use Rattle.mh_layers.proofs.StageLemmas.{chosen_active, next_none, next_some}
use Rattle.mh_layers.proofs.WorthLemmas.{chosen_costly}
use Rattle.mh_layers.proofs.ways.stages.next_stage.Goals as goal

pub returns-in-None : goal.returns-in-None
returns-in-None c =
    next_none c.args.numbered_service.now c.requires.reading c.args.laying.now c.requires.layers c.requires.laid c.args.node.now c.in_ok-found.found.keys c.as_slice-nodes.result.now c.in_ok-dearest_of.field-0
    c.requires.named c.in_ok-found.ensures c.as_slice-nodes.ensures.keys c.in_ok-dearest_of.ensures c.in-None.is

pub returns : goal.returns
returns c =
    next_some c.args.numbered_service.now c.requires.reading c.args.laying.now c.requires.layers c.requires.laid c.args.node.now c.in_ok-found.found.keys c.as_slice-nodes.result.now c.in_ok-dearest_of.field-0 c.in-Some.dearest c.in_ok-next-in-Some.next
    c.requires.named c.in_ok-found.ensures c.as_slice-nodes.ensures.keys c.in_ok-dearest_of.ensures c.in-Some.is c.in_ok-next-in-Some.ensures

pub stage_of-requires-clause-active : goal.stage_of-requires-clause-active
stage_of-requires-clause-active c =
    chosen_active c.args.numbered_service.now c.requires.reading c.args.laying.now c.args.node.now c.in_ok-found.found.keys c.as_slice-nodes.result.now c.in_ok-dearest_of.field-0 c.in-Some.dearest
    c.requires.named c.in_ok-found.ensures c.as_slice-nodes.ensures.keys c.in_ok-dearest_of.ensures c.in-Some.is

pub stage_of-requires-clause-chosen : goal.stage_of-requires-clause-chosen
stage_of-requires-clause-chosen c =
    chosen_costly c.args.numbered_service.now c.args.laying.now c.as_slice-nodes.result.now c.in_ok-dearest_of.field-0 c.in-Some.dearest c.in_ok-dearest_of.ensures c.in-Some.is

pub dearest_of-requires : goal.dearest_of-requires
dearest_of-requires c =
    subst (Each (kept c.args.numbered_service.now)) (sym c.as_slice-nodes.ensures.keys) (reached_kept c.args.numbered_service.now c.requires.reading c.args.node.now c.in_ok-found.found.keys c.requires.named c.in_ok-found.ensures)
