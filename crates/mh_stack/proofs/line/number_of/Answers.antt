use Rattle.std.proofs.Common.{sym}
use Rattle.mh_stack.proofs.RefLemmas.{tells_found, tells_none}
use Rattle.mh_stack.proofs.line.number_of.Goals as goal

pub returns-in-Some : goal.returns-in-Some
returns-in-Some c = tells_found c.args.at.now c.args.refs.now.keys c.in-Some.index c.len.ensures.unique (sym c.in-Some.ensures.index)

pub returns-in-None : goal.returns-in-None
returns-in-None c = tells_none c.args.at.now c.args.refs.now.keys (sym c.in-None.ensures.found)
