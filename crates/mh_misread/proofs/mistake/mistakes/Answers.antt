use Rattle.std.proofs.Common.{◌+◌, ◌-◌, ◌++◌, None, Some, sym, ap, ◌∙◌, arith, append-nil}
use Rattle.mh_misread.specs.Resuming.{mistakes_by}
use Rattle.mh_misread.proofs.PieceLemmas.{pushed}
use Rattle.mh_misread.proofs.ResumeLemmas.{mistakes_more}
use Rattle.mh_misread.proofs.mistake.mistakes.Goals as goal

pub returns-in-None : goal.returns-in-None
returns-in-None c =
    sym (append-nil _)
    ∙ ap (λ ms. c.loop.found.items ++ ms)
    (sym (mistakes_more (c.args.most - c.loop.counter) (c.args.most - (c.loop.counter + 1)) c.args.file.now c.loop.next None (omega arith) (sym c.in_ok-mistake.ensures ∙ c.in-None.is)))
    ∙ c.loop.invariant

pub loop-preserved : goal.loop-preserved
loop-preserved c =
    ap (λ fs. fs ++ mistakes_by (c.args.most - (c.loop.counter + 1)) c.args.file.now c.in-Some.mistake.next) c.in_ok-push-in-Some.ensures.items
    ∙ pushed c.loop.found.items _ c.in-Some.mistake
    ∙ ap (λ ms. c.loop.found.items ++ ms)
    (sym (mistakes_more (c.args.most - c.loop.counter) (c.args.most - (c.loop.counter + 1)) c.args.file.now c.loop.next (Some c.in-Some.mistake) (omega arith) (sym c.in_ok-mistake.ensures ∙ c.in-Some.is)))
    ∙ c.loop.invariant
