use Rattle.std.proofs.Common.{rules}
use Rattle.std.proofs.lemmas.Option.{slice_get_read}
use Rattle.mh_work.proofs.PortionLemmas.{front_in_first}
use Rattle.mh_work.proofs.work.front_of.Goals as goal

pub returns-in_ok-front_in-in-Some : goal.returns-in_ok-front_in-in-Some
returns-in_ok-front_in-in-Some c = front_in_first c.args.portions.now.items c.in-Some.portion.now c.in_ok-front_in-in-Some.field-0 (search (rules, slice_get_read)) c.in_ok-front_in-in-Some.ensures
