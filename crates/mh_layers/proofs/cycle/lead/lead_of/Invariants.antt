use Rattle.std.specs.Prelude.{IfSome}
use Rattle.mh_laws.specs.Each.{Among}
use Rattle.mh_layers.proofs.cycle.lead.lead_of.Given as goal

abbrev pub invariant-loop-node : goal.invariant-loop-node
invariant-loop-node l = IfSome l.lead (Among l.nodes)
