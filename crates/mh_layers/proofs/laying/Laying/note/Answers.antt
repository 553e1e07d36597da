use Rattle.std.proofs.Common.{refl, rules}
use Rattle.mh_layers.proofs.LayingLemmas.{below_now, room_noted}
use Rattle.mh_layers.proofs.laying.Laying.note.Goals as goal

pub invariant_of-self-2 : goal.invariant_of-self-2
invariant_of-self-2 c = (
  below_now c.self.inside.costs c.set.new.self c.args.node c.args.cost c.self.inside.next _ c.self.invariant.0 c.in_ok-set.ensures.done refl,
  room_noted c.self.inside.costs c.set.new.self c.args.node c.args.cost c.self.inside.next c.self.invariant.1 (search rules) c.in_ok-set.ensures.done,
)
