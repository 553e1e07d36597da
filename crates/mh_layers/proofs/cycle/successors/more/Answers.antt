use Rattle.std.proofs.Common.{rules}
use Rattle.mh_layers.proofs.SuccessorLemmas.{next_kept, rows_more}
use Rattle.mh_layers.proofs.cycle.successors.more.Goals as goal

pub returns-clause-rows : goal.returns-clause-rows
returns-clause-rows c =
    rows_more _ _ _ _ _ _ c.in-Some.node c.in_ok-row.row c.requires.counted c.requires.rows (search rules) c.in_ok-row.ensures (search rules) (search rules)

pub counted_nodes-requires : goal.counted_nodes-requires
counted_nodes-requires c = next_kept _ _ c.args.nodes.now.keys c.args.rows.now.items c.in-Some.node c.requires.rows (search rules)
