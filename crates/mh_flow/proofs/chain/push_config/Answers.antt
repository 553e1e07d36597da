use Rattle.std.proofs.Common.{◌≡◌, ◌∙◌, ◌++◌}
use Rattle.mh_flow.specs.Solved.{held_by, set_of}
use Rattle.mh_flow.specs.Steps.{moves_in}
use Rattle.mh_flow.proofs.chain.push_config.Goals as goal

pub returns : goal.returns
returns c =
    let sets : held_by c.present-present.result c.in_ok-held.held ≡ set_of c.args.service.now c.args.flow.now.chart c.args.flow.now.rows c.args.config.now =
    (λ i. held_by (c.present-present.ensures i) c.in_ok-held.held) ∙ c.in_ok-held.ensures.sets in
    c.in_ok-push_moves.ensures ∙ (λ i. c.args.moves.now.items ++ moves_in (record {
      service = c.args.service.now;
      config = c.args.config.now;
      present = c.present-present.ensures i;
      sets = sets i;
      sought = c.args.sought.now.keys;
    }))
