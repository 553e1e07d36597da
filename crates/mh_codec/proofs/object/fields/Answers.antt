use Rattle.std.proofs.Common.{◌+◌, ◌-◌, ◌∙◌, sym, subst, arith}
use Rattle.std.proofs.lemmas.Result.{err_from_is_err_and}
use Rattle.mh_group.proofs.NumberLemmas.{number_small}
use Rattle.mh_codec.specs.Gives.{Fails}
use Rattle.mh_codec.proofs.ListLemmas.{fields_fail, fields_done, fields_more}
use Rattle.mh_codec.proofs.FieldLemmas.{field_above}
use Rattle.mh_codec.proofs.object.fields.Goals as goal

pub returns-in_err-member : goal.returns-in_err-member
returns-in_err-member c =
    let p = err_from_is_err_and c.from_residual.result c.from_residual.ensures.1 in
    rw (p.1, p.2) (subst (λ r. Fails c.in_err-member.field-0.0 r) c.loop.invariant.same
    (fields_fail c.args.tags.now c.args.class (64 - c.loop.counter) c.loop.last c.loop.fields c.loop.reader c.in_err-member.field-0.0 (omega arith) c.in_err-member.ensures))

pub returns-in_default : goal.returns-in_default
returns-in_default c =
    sym c.loop.invariant.same ∙ fields_done c.args.tags.now c.args.class (64 - c.loop.counter) c.loop.last c.loop.fields c.loop.reader _ _ _ (omega arith) c.in_ok-member.ensures c.in_default.is

pub loop-preserved : goal.loop-preserved
loop-preserved c =
    let more = fields_more c.args.tags.now c.args.class (64 - c.loop.counter) (64 - (c.loop.counter + 1)) c.loop.last _ c.loop.fields c.push.new.self c.loop.reader _ _ _ _
    (omega arith) c.in_ok-member.ensures c.in-Some.is c.number-last.ensures c.in_ok-push.ensures.added in
    let above = field_above c.args.tags.now c.reveal_table.ensures c.args.class c.loop.last c.loop.reader _ _ _ _ c.in_ok-member.ensures c.in-Some.is in
    let few = number_small c.in-Some.field.attribute in
    record {
      same = more ∙ c.loop.invariant.same;
      risen = omega (arith, above, c.number-last.ensures, c.loop.invariant.risen);
      small = omega (arith, few, c.number-last.ensures);
    }
