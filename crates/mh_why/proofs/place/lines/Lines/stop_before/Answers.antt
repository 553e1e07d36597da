use Rattle.std.proofs.Common.{ap, ◌∙◌, arith}
use Rattle.mh_why.specs.Lines.{Lines}
use Rattle.mh_why.proofs.StopLemmas.{stop_of}
use Rattle.mh_why.proofs.place.lines.Lines.stop_before.Goals as goal

pub returns-in-Some-clause-is : goal.returns-in-Some-clause-is
returns-in-Some-clause-is c =
    stop_of c.args.text.now c.args.self.now.stops c.deref.result.now c.saturating_sub.result c.args.start c.args.end c.in-Some.stop.now c.requires.table.stopped
    (c.deref.ensures.value ∙ ap (λ (t : Lines). t.stops) c.self.view_is) c.in-Some.ensures.lookup.3.0 c.in-Some.ensures.lookup.1 c.if-stop-start.true
    (omega (arith, c.if-stop-sought.true, c.requires.there, c.saturating_sub-sought.ensures)) c.requires.within
