use Rattle.std.proofs.Common.{◌≡◌, length}
use Rattle.mh_model.specs.Faults.{arguments_wrongs}
use Rattle.mh_evidence.specs.Cases.{claims, known_by}
use Rattle.mh_evidence.proofs.claims.Case.is_of_arguments.Given as goal

abbrev pub invariant-loop-need : goal.invariant-loop-need
invariant-loop-need l = claims l.self (arguments_wrongs (known_by l.self) l.act l.needs l.arguments) ≡ claims l.self (arguments_wrongs (known_by l.self) l.act l.fn.needs l.fn.arguments)

abbrev pub decreases-loop-need : goal.decreases-loop-need
decreases-loop-need l = length l.arguments
