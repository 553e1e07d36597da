use Rattle.std.proofs.Common.{arith, ap, ℕ, ◌+◌}
use Rattle.mh_why.proofs.StopLemmas.{next_stop}
use Rattle.mh_why.proofs.place.lines.stops.next_stop.Goals as goal

pub returns-clause-is : goal.returns-clause-is
returns-clause-is c =
    next_stop c.args.line.now c.args.stop _ c.requires.is (omega (arith, c.clean_from-before.ensures.from)) c.clean_from-before.ensures.within c.clean_from-before.ensures.clean
    (ap (λ (count : ℕ). c.args.stop.column + count) c.characters_in.ensures.exact)
