use Rattle.std.specs.Prelude.{◌≡◌, map, take}
use Rattle.mh_resident.specs.Coming.{MayCome}
use Rattle.mh_engine.specs.Beside.{IsCountedRun}
use Rattle.mh_engine.proofs.receiver.Receiver.run.Given as goal

abbrev pub invariant-loop-made : goal.invariant-loop-made
invariant-loop-made g l =
    IsCountedRun (map g.P.Resident.signature_of l.fn.self.programs.items) (MayCome g.P.Resident.signature_of g.P.Resident.may_answer l.fn.self.programs.items) (take l.made l.moves) l.fn.self.engine l.self.engine
    × (l.self.programs ≡ l.fn.self.programs)
    × (l.self.engine.accepted ≡ l.fn.self.engine.accepted)
    × (l.self.engine.bounds ≡ l.fn.self.engine.bounds)
