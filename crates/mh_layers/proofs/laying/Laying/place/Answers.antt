use Rattle.std.proofs.Common.{rules, sym}
use Rattle.mh_layers.proofs.LayingLemmas.{below_given, placed_given, room_given}
use Rattle.mh_layers.proofs.laying.Laying.place.Goals as goal

pub invariant_of-self-2 : goal.invariant_of-self-2
invariant_of-self-2 c = (
  below_given c.self.inside.costs c.set.new.self c.args.node c.self.inside.next c.at.result c.at.ensures (sym c.if-is_some.ensures) c.in_ok-set.ensures.done c.self.invariant.0,
  room_given c.self.inside.costs c.set.new.self c.args.node c.self.inside.next c.at.result c.at.ensures (sym c.if-is_some.ensures) c.in_ok-set.ensures.done c.self.invariant.1,
)

pub returns-clause-placed : goal.returns-clause-placed
returns-clause-placed c = placed_given c.args.self.now c.set.new.self c.args.node c.len-2.result c.at.result (search rules) (sym c.if-is_some.ensures) (search rules) c.len-2.ensures.all c.len-2.ensures.small
