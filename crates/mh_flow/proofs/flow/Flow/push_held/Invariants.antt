use Rattle.std.proofs.Common.{◌≡◌, ◌++◌, [], drop, map}
use Rattle.std.specs.Prelude.{unwrap_or}
use Rattle.mh_flow.specs.Solved.{set_of}
use Rattle.mh_flow.proofs.flow.Flow.push_held.Given as goal

abbrev pub invariant-loop-part : goal.invariant-loop-part
invariant-loop-part l =
    map (λ x. unwrap_or x []) l.lists.items ++ map (λ p. set_of l.service l.self.chart l.self.rows l.config p.key) (drop l.part-index l.parts)
    ≡ map (λ x. unwrap_or x []) l.initial.lists.items ++ map (λ p. set_of l.service l.self.chart l.self.rows l.config p.key) l.parts
