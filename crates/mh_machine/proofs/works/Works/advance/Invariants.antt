use Rattle.std.proofs.Common.{◌≡◌, ◌-◌}
use Rattle.mh_model.specs.Step.{advanced}
use Rattle.mh_machine.specs.Judging.{AreAllowed}
use Rattle.mh_machine.proofs.works.Works.advance.Given as goal

abbrev pub invariant-loop-made : goal.invariant-loop-made
invariant-loop-made g l =
    (advanced (l.most - l.made) l.self.state ≡ advanced l.most l.initial.self.state)
    × (l.self.state ≡ advanced l.made l.initial.self.state)
    × AreAllowed g.J.Judging.allows (l.most - l.made) l.self.state
