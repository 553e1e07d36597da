use Rattle.std.proofs.Common.{subst}
use Rattle.mh_seal.specs.Lines.{IsValue}
use Rattle.mh_seal.proofs.LineLemmas.{unsaid_line}
use Rattle.mh_seal.proofs.lines.read_line.Goals as goal

pub returns-in-None-clause-found : goal.returns-in-None-clause-found
returns-in-None-clause-found g c =
    unsaid_line c.args.word.now g.V.LineValue.is_good g.V.LineValue.spelling c.args.bytes.now c.in-Some.value.now c.in-Some.behind.now c.in-Some.ensures.found
    (subst (IsValue g.V.LineValue.is_good g.V.LineValue.spelling c.in-Some.value.now) c.in-None.is c.in_ok-said.ensures)
