use Rattle.std.proofs.Common.{◌+◌, ◌-◌, ◌∙◌, sym, subst, arith}
use Rattle.std.proofs.lemmas.Result.{err_from_is_err_and}
use Rattle.mh_codec.specs.Gives.{Fails}
use Rattle.mh_codec.proofs.ListLemmas.{listed_fails, listed_done, listed_more, listed_full, listed_full_fails}
use Rattle.mh_codec.proofs.readable.members.Goals as goal

pub returns-in_err-member : goal.returns-in_err-member
returns-in_err-member g c =
    let p = err_from_is_err_and c.from_residual.result c.from_residual.ensures.1 in
    rw (p.1, p.2) (subst (λ r. Fails c.in_err-member.field-0.0 r) c.loop.invariant
    (listed_fails (g.T.Readable.reading c.args.tags.now) (c.args.limit - c.loop.counter) c.loop.members c.loop.reader c.in_err-member.field-0.0 (omega arith) c.in_err-member.ensures))

pub returns-in_default : goal.returns-in_default
returns-in_default g c =
    sym c.loop.invariant ∙ listed_done (g.T.Readable.reading c.args.tags.now) (c.args.limit - c.loop.counter) c.loop.members c.loop.reader _ _ (omega arith) c.in_ok-member.ensures c.in_default.is

pub loop-preserved : goal.loop-preserved
loop-preserved g c =
    listed_more (g.T.Readable.reading c.args.tags.now) (c.args.limit - c.loop.counter) (c.args.limit - (c.loop.counter + 1)) c.loop.members c.push.new.self c.loop.reader _ _ _
    (omega arith) c.in_ok-member.ensures c.in-Some.is c.in_ok-push.ensures.added
    ∙ c.loop.invariant

pub returns-in_err-exhausted : goal.returns-in_err-exhausted
returns-in_err-exhausted g c =
    let p = err_from_is_err_and c.from_residual-in_err-exhausted.result c.from_residual-in_err-exhausted.ensures.1 in
    rw (p.1, p.2) (subst (λ r. Fails c.in_err-exhausted.field-0.0 r) c.loop.invariant
    (listed_full_fails (g.T.Readable.reading c.args.tags.now) (c.args.limit - c.loop.counter) c.loop.members c.loop.reader c.in_err-exhausted.field-0.0 (omega arith) c.in_err-exhausted.ensures))

pub returns : goal.returns
returns g c =
    sym c.loop.invariant ∙ listed_full (g.T.Readable.reading c.args.tags.now) (c.args.limit - c.loop.counter) c.loop.members c.loop.reader (omega arith) c.in_ok-exhausted.ensures
