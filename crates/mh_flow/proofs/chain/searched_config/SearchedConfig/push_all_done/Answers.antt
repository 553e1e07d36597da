use Rattle.mh_flow.specs.Steps.{done_moves, ground_of}
use Rattle.mh_flow.proofs.PutLemmas.{one_put}
use Rattle.mh_flow.proofs.chain.searched_config.SearchedConfig.push_all_done.Goals as goal

pub loop-at-preserved : goal.loop-at-preserved
loop-at-preserved c =
    one_put (done_moves (ground_of c.args.self.now) c.args.site.now) c.args.targets.now c.loop-at.at-index c.at-item.result _ c.loop-at.moves.items c.push_done.new.moves.items
    c.loop-at-test.true c.at-item.is c.in_ok-push_done.ensures c.loop-at.invariant
