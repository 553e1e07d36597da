use Rattle.std.proofs.Common.{rules}
use Rattle.mh_work.proofs.PortionLemmas.{front_in_acts}
use Rattle.mh_work.proofs.portion.front_in.Goals as goal

pub returns-in_ok-clone-in-Acts : goal.returns-in_ok-clone-in-Acts
returns-in_ok-clone-in-Acts c = front_in_acts c.args.portion.now c.in-Acts.effect c.in_ok-clone-in-Acts.field-0 c.in-Acts.next (search rules) (search rules) c.requires
