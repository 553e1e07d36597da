-- The member that is refused is one of the members.
use Rattle.std.proofs.Common.{ap, sym, ◌∙◌}
use Rattle.std.proofs.lemmas.Result.{err_from_is_err_and}
use Rattle.std.proofs.lemmas.List.Folds.{list_all_at}
use Rattle.mh_text.proofs.PrintingLemmas.{one_printed, one_passed, all_printed, all_passed}
use Rattle.mh_text.proofs.printing.printable.print_several.Goals as goal

pub returns-in_err-print : goal.returns-in_err-print
returns-in_err-print g c =
    let error = err_from_is_err_and c.from_residual.result c.from_residual.ensures.1 in
    rw (error.1, error.2) (λ other.
    let refused = c.in_err-print.ensures other in (
      refused.0,
      list_all_at g.T.Printable.is_good c.args.members.now c.loop-member.member-index c.member-item.result c.loop-member-test.true
          (sym (ap g.T.Printable.is_good c.member-item.is) ∙ refused.1),
    ))

pub loop-member-preserved : goal.loop-member-preserved
loop-member-preserved g c = record {
  printed = one_printed g.T.Printable.printed c.args.members.now c.loop-member.member-index c.member-item.result c.member-item.result c.loop-member.out.items c.print.new.out.items _
      c.loop-member-test.true c.member-item.is c.in_ok-print.ensures.0 c.loop-member.invariant.printed;
  fits = one_passed g.T.Printable.is_good c.args.members.now c.loop-member.member-index c.member-item.result c.member-item.result _
      c.loop-member-test.true c.member-item.is c.in_ok-print.ensures.1 c.loop-member.invariant.fits;
}

pub returns : goal.returns
returns g c = (
  all_printed g.T.Printable.printed c.args.members.now c.loop-member.member-index c.loop-member.out.items _ c.loop-member-test.false c.loop-member.invariant.printed,
  all_passed g.T.Printable.is_good c.args.members.now c.loop-member.member-index _ c.loop-member-test.false c.loop-member.invariant.fits,
)
