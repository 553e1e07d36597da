use Rattle.mh_sealing.proofs.OrderLemmas.{all_scenes}
use Rattle.mh_sealing.proofs.order.in_order.Goals as goal

pub unreachable-requires : goal.unreachable-requires
unreachable-requires c =
    all_scenes c.args.service c.in_ok-names.names.items c.in-NotAScene.field-0 c.requires c.in_ok-names.ensures
    (c.in-Err.ensures.refused c.in-NotAScene.field-0 c.in-NotAScene.is)
