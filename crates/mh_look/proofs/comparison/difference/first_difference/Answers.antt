use Rattle.std.proofs.Common.{◌<◌, arith, sym, ◌∙◌}
use Rattle.mh_look.specs.Frames.{differs_at, first_difference}
use Rattle.mh_look.proofs.DifferenceLemmas.{find_at, find_none, same_picture}
use Rattle.mh_look.proofs.comparison.difference.first_difference.Goals as goal

pub returns-then-differs_at-clause-first : goal.returns-then-differs_at-clause-first
unfolding first_difference
returns-then-differs_at-clause-first c =
    sym (find_at (differs_at c.args.one.now c.args.other.now) 0 2160 c.loop-at.at (omega arith) (omega arith) (λ k from before. c.loop-at.invariant k before) (sym c.differs_at.ensures ∙ c.if-differs_at.true))

pub returns-clause-told : goal.returns-clause-told
returns-clause-told c =
    same_picture c.args.one.now c.args.other.now c.cells.ensures.whole c.cells-2.ensures.whole (λ k inside. let before : k < c.loop-at.at = omega arith in c.loop-at.invariant k before)

pub returns-clause-first : goal.returns-clause-first
unfolding first_difference
returns-clause-first c =
    sym (find_none (differs_at c.args.one.now c.args.other.now) 0 2160 (λ k from inside. let before : k < c.loop-at.at = omega arith in c.loop-at.invariant k before))
