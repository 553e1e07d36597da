use Rattle.std.proofs.Common.{List, sym, subst}
use Rattle.mh_paths.specs.declared.due.Due.{Due}
use Rattle.mh_paths.specs.Trails.{IsTaken, waiting}
use Rattle.mh_paths.proofs.StateLemmas.{fewer_due}
use Rattle.mh_paths.proofs.TakenLemmas.{taken_first, taken_more}
use Rattle.mh_paths.proofs.search.first_of.Goals as goal

pub loop-other-init : goal.loop-other-init
loop-other-init c = taken_first (waiting c.args.queue.now) c.args.due

pub loop-other-smaller : goal.loop-other-smaller
loop-other-smaller c = fewer_due (waiting c.loop-other.queue) (waiting c.pop_same.new.self) c.in-Some.other c.in-Some.ensures.some

pub loop-other-preserved : goal.loop-other-preserved
loop-other-preserved c = taken_more (waiting c.args.queue.now) c.args.due c.loop-other.first c.in-Some.other c.earlier-first.result (waiting c.loop-other.queue) (waiting c.pop_same.new.self) c.loop-other.invariant c.in-Some.ensures.some c.in-Some.ensures.key c.in-Some.ensures.to c.earlier-first.ensures

pub returns : goal.returns
returns c = subst (λ (q : List Due). IsTaken (waiting c.args.queue.now) c.args.due c.loop-other.first q) (sym c.in_default.ensures.none) c.loop-other.invariant
