use Rattle.std.proofs.Common.{◌∙◌, sym, subst}
use Rattle.std.proofs.lemmas.Result.{err_from_is_err_and}
use Rattle.mh_group.specs.declared.shape.Need.TheVariants as need
use Rattle.mh_text.specs.Gives.{Fails}
use Rattle.mh_text.proofs.ListLemmas.{parameters_fail, parameters_done, parameter_fails, parameters_more}
use Rattle.mh_text.proofs.effect.parameters.Goals as goal

pub returns-in_err-piece : goal.returns-in_err-piece
returns-in_err-piece c =
    let p = err_from_is_err_and c.from_residual-in_err-piece.result c.from_residual-in_err-piece.ensures.1 in
    rw (p.1, p.2) (subst (Fails c.in_err-piece.field-0.0) c.loop-at.invariant
    (parameters_fail c.args.optional c.args.needs.now c.loop-at.at need.Bool c.loop-at.parameters c.loop-at.place c.loop-at-test.true c.in_err-piece.field-0.0 c.in_err-piece.ensures))

pub returns-then-may_end : goal.returns-then-may_end
returns-then-may_end c =
    sym c.loop-at.invariant
    ∙ parameters_done c.args.optional c.args.needs.now c.loop-at.at need.Bool c.loop-at.parameters c.loop-at.place c.loop-at-test.true _ _
    c.in_ok-piece.ensures (rw c.sign.ensures at c.if-may_end.ensures)

pub returns-in_err-parameter : goal.returns-in_err-parameter
returns-in_err-parameter c =
    let p = err_from_is_err_and c.from_residual-in_err-parameter.result c.from_residual-in_err-parameter.ensures.1 in
    rw (p.1, p.2) (subst (Fails c.in_err-parameter.field-0.0) c.loop-at.invariant
    (parameter_fails c.args.optional c.args.needs.now c.loop-at.at need.Bool c.loop-at.parameters c.loop-at.place c.loop-at-test.true c.in_err-parameter.field-0.0
    _ _ c.in_ok-piece.ensures (rw c.sign.ensures at c.if-may_end.ensures) c.in_err-parameter.ensures))

pub loop-at-preserved : goal.loop-at-preserved
loop-at-preserved c =
    parameters_more c.args.optional c.args.needs.now c.loop-at.at need.Bool c.loop-at.parameters c.loop-at.place c.loop-at-test.true _ _
    _ _ c.push.new.self c.in_ok-piece.ensures (rw c.sign.ensures at c.if-may_end.ensures) c.in_ok-parameter.ensures c.in_ok-push.ensures.added
    ∙ c.loop-at.invariant
