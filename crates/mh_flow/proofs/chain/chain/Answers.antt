use Rattle.std.proofs.Common.{◌∙◌, ap}
use Rattle.mh_flow.specs.Solved.{flow_of}
use Rattle.mh_flow.specs.Steps.{moves_of}
use Rattle.mh_flow.proofs.ChainExactLemmas.{told_none, told_some}
use Rattle.mh_flow.proofs.chain.chain.Goals as goal

pub returns-clause-some : goal.returns-clause-some
returns-clause-some c =
    told_some c.args.service.now (flow_of c.args.service.now c.args.flow.now.chart c.args.flow.now.rows) c.requires.least c.args.at.now c.args.config.now c.args.holder.now
    c.as_slice.result.now c.in_ok-goal.goal (c.as_slice.ensures.value ∙ c.in_ok-moves.ensures ∙ ap (moves_of c.args.service.now (flow_of c.args.service.now c.args.flow.now.chart c.args.flow.now.rows)) c.in_ok-sought.ensures) c.in_ok-goal.ensures c.first_links.result c.first_links.ensures.some

pub returns-clause-none : goal.returns-clause-none
returns-clause-none c =
    told_none c.args.service.now (flow_of c.args.service.now c.args.flow.now.chart c.args.flow.now.rows) c.requires.least c.args.at.now c.args.config.now c.args.holder.now
    c.as_slice.result.now c.in_ok-goal.goal (c.as_slice.ensures.value ∙ c.in_ok-moves.ensures ∙ ap (moves_of c.args.service.now (flow_of c.args.service.now c.args.flow.now.chart c.args.flow.now.rows)) c.in_ok-sought.ensures) c.in_ok-goal.ensures c.first_links.result c.first_links.ensures.none
