use Rattle.std.proofs.Common.{◌+◌, ◌-◌, ◌∙◌, sym, subst, arith}
use Rattle.std.proofs.lemmas.Result.{err_from_is_err_and}
use Rattle.mh_text.specs.Gives.{Fails}
use Rattle.mh_text.proofs.ListLemmas.{listed_fails, listed_done, listed_more, listed_full, listed_full_fails}
use Rattle.mh_text.proofs.form.members.Goals as goal

pub returns-in_err-next : goal.returns-in_err-next
returns-in_err-next g c =
    let p = err_from_is_err_and c.from_residual.result c.from_residual.ensures.1 in
    rw (p.1, p.2) (subst (λ r. Fails c.in_err-next.field-0.0 r) c.loop.invariant
    (listed_fails g.F.Form.reading (c.args.most - c.loop.counter) c.loop.members c.loop.place c.in_err-next.field-0.0 (omega arith) c.in_err-next.ensures))

pub returns-in_default : goal.returns-in_default
returns-in_default g c =
    sym c.loop.invariant ∙ listed_done g.F.Form.reading (c.args.most - c.loop.counter) c.loop.members c.loop.place _ _ (omega arith) c.in_ok-next.ensures c.in_default.is

pub loop-preserved : goal.loop-preserved
loop-preserved g c =
    listed_more g.F.Form.reading (c.args.most - c.loop.counter) (c.args.most - (c.loop.counter + 1)) c.loop.members c.push.new.self c.loop.place _ _ _
    (omega arith) c.in_ok-next.ensures c.in-Some.is c.in_ok-push.ensures.added
    ∙ c.loop.invariant

pub returns-in_err-closed_list : goal.returns-in_err-closed_list
returns-in_err-closed_list g c =
    let p = err_from_is_err_and c.from_residual-in_err-closed_list.result c.from_residual-in_err-closed_list.ensures.1 in
    rw (p.1, p.2) (subst (λ r. Fails c.in_err-closed_list.field-0.0 r) c.loop.invariant
    (listed_full_fails g.F.Form.reading (c.args.most - c.loop.counter) c.loop.members c.loop.place c.in_err-closed_list.field-0.0 (omega arith) c.in_err-closed_list.ensures))

pub returns : goal.returns
returns g c =
    sym c.loop.invariant ∙ listed_full g.F.Form.reading (c.args.most - c.loop.counter) c.loop.members c.loop.place _ (omega arith) c.in_ok-closed_list.ensures
