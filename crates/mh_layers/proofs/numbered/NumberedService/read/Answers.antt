use Rattle.std.proofs.Common.{subst}
use Rattle.mh_layers.specs.Reading.{IsReading}
use Rattle.mh_layers.proofs.numbered.NumberedService.read.Goals as goal

pub returns : goal.returns
returns c = subst IsReading c.self.view_is c.self.invariant.reading
