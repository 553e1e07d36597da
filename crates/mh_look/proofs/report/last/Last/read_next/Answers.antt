use Rattle.std.specs.Prelude.{◌+◌, ℕ, Option}
use Rattle.std.proofs.Common.{subst}
use Rattle.mh_look.specs.Reading.{IsFrameFound}
use Rattle.mh_look.proofs.BeginningLemmas.{next_found}
use Rattle.mh_look.proofs.report.last.Last.read_next.Goals as goal

pub returns-clause-found : goal.returns-clause-found
returns-clause-found c =
    next_found c.args.self.now.frames c.args.self.now.picture c.args.bytes.now c.read_frame.new.after c.in-Some.length
    (subst (λ (found : Option ℕ). IsFrameFound (c.args.self.now.frames + 1) c.args.self.now.picture c.args.bytes.now c.read_frame.new.after found) c.in-Some.is c.in_ok-length.ensures.found)
