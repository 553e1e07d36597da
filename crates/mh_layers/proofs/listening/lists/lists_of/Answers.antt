use Rattle.std.proofs.Common.{◌∙◌, arith}
use Rattle.mh_layers.proofs.ListeningLemmas.{next_group}
use Rattle.mh_layers.specs.Listening.{listed}
use Rattle.mh_layers.proofs.listening.lists.lists_of.Goals as goal

pub loop-group-preserved : goal.loop-group-preserved
loop-group-preserved c = λ q.
    let g = c.loop-group.group in
    next_group c.args.objects.now.keys c.args.ears.now.entries q c.args.groups.now.entries g g (listed q c.loop-group.lists.entries) (listed q c.list_group.new.lists.entries) (omega (arith, c.loop-group-test.true, c.len-group-end.ensures.len)) (c.in_ok-list_group.ensures q)
    ∙ c.loop-group.invariant q
