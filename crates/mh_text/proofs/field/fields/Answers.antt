use Rattle.std.proofs.Common.{◌+◌, ◌-◌, ◌∙◌, sym, subst, arith}
use Rattle.std.proofs.lemmas.Result.{err_from_is_err_and}
use Rattle.mh_base.specs.Limits.{longest_list}
use Rattle.mh_text.specs.Gives.{Fails}
use Rattle.mh_text.proofs.ListLemmas.{fields_fail, fields_done, fields_more, fields_over, fields_over_fail}
use Rattle.mh_text.proofs.field.fields.Goals as goal

pub returns-in_err-member : goal.returns-in_err-member
returns-in_err-member c =
    let p = err_from_is_err_and c.from_residual.result c.from_residual.ensures.1 in
    rw (p.1, p.2) (subst (λ r. Fails c.in_err-member.field-0.0 r) c.loop.invariant
    (fields_fail c.args.class (longest_list - c.loop.counter) c.loop.fields c.loop.place c.in_err-member.field-0.0 (omega arith)
    (rw c.as_slice.ensures at c.in_err-member.ensures)))

pub returns-in_default : goal.returns-in_default
returns-in_default c =
    sym c.loop.invariant ∙ fields_done c.args.class (longest_list - c.loop.counter) c.loop.fields c.loop.place _ _ _ (omega arith)
    (rw c.as_slice.ensures at c.in_ok-member.ensures) c.in_default.is

pub loop-preserved : goal.loop-preserved
loop-preserved c =
    fields_more c.args.class (longest_list - c.loop.counter) (longest_list - (c.loop.counter + 1)) c.loop.fields c.in_ok-more.more c.loop.place _ _ _ _
    (omega arith) (rw c.as_slice.ensures at c.in_ok-member.ensures) c.in-Some.is c.in_ok-more.ensures
    ∙ c.loop.invariant

pub returns-in_err-piece : goal.returns-in_err-piece
returns-in_err-piece c =
    let p = err_from_is_err_and c.from_residual-in_err-piece.result c.from_residual-in_err-piece.ensures.1 in
    rw (p.1, p.2) (subst (λ r. Fails c.in_err-piece.field-0.0 r) c.loop.invariant
    (fields_over_fail c.args.class (longest_list - c.loop.counter) c.loop.fields c.loop.place c.in_err-piece.field-0.0 (omega arith) c.in_err-piece.ensures))

pub returns : goal.returns
returns c = rw c.refused.ensures
    (sym c.loop.invariant ∙ fields_over c.args.class (longest_list - c.loop.counter) c.loop.fields c.loop.place _ _ (omega arith) c.in_ok-piece.ensures)
