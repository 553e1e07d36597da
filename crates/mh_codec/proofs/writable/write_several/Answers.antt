-- Member by member, what is written and what is left are what is to be written; where a member cannot be
-- held, the list cannot.
use Rattle.std.proofs.Common.{◌++◌, sym, ap, ◌∙◌, arith, append-nil}
use Rattle.std.specs.List.{list_all}
use Rattle.std.proofs.lemmas.List.{at_drop_all}
use Rattle.std.proofs.lemmas.Result.{err_from_is_err_and}
use Rattle.mh_codec.specs.Spelling.{several}
use Rattle.mh_codec.proofs.WritingLemmas.{more_written, more_fits, member_refused}
use Rattle.mh_codec.proofs.writable.write_several.Goals as goal

pub returns-in_err-write-clause-limit : goal.returns-in_err-write-clause-limit
returns-in_err-write-clause-limit g c =
    let p = err_from_is_err_and c.from_residual.result c.from_residual.ensures.1 in
    rw (p.1, p.2) (member_refused g.T.Writable.is_good c.args.members.now c.loop-member.member-index c.member-item.result c.in_err-write.field-0.0 (omega arith) c.member-item.is c.in_err-write.ensures.limit)

pub loop-member-preserved : goal.loop-member-preserved
loop-member-preserved g c = record {
  written = more_written (g.T.Writable.spelling c.args.tags.now) c.loop-member.out.items c.write.new.out.items c.args.members.now c.loop-member.member-index c.member-item.result (omega arith) c.member-item.is c.in_ok-write.ensures.written
      ∙ c.loop-member.invariant.written;
  fits = more_fits g.T.Writable.is_good c.args.members.now c.loop-member.member-index c.member-item.result (omega arith) c.member-item.is c.in_ok-write.ensures.fits ∙ c.loop-member.invariant.fits;
}

pub returns-clause-fits : goal.returns-clause-fits
returns-clause-fits g c =
    sym c.loop-member.invariant.fits ∙ at_drop_all (list_all g.T.Writable.is_good) c.args.members.now c.loop-member.member-index c.loop-member-test.false

pub returns-clause-written : goal.returns-clause-written
returns-clause-written g c =
    let none = at_drop_all (several (g.T.Writable.spelling c.args.tags.now)) c.args.members.now c.loop-member.member-index c.loop-member-test.false in
    sym (append-nil c.loop-member.out.items) ∙ ap (λ bs. c.loop-member.out.items ++ bs) (sym none) ∙ c.loop-member.invariant.written
