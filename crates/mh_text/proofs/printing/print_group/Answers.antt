-- The printed form is one of the spellings.
use Rattle.std.proofs.Common.{◌≡◌, ◌≤◌, true, length, subst, sym, arith}
use Rattle.mh_base.specs.Limits.{largest_file}
use Rattle.mh_group.specs.declared.written.Written.{Written}
use Rattle.mh_group.specs.Fit.{is_group}
use Rattle.mh_text.specs.Spelling.{Spells}
use Rattle.mh_text.proofs.PrintedLaw.{buffer_spells}
use Rattle.mh_text.proofs.printing.print_group.Goals as goal

pub returns-clause-spelled : goal.returns-clause-spelled
returns-clause-spelled c =
    let short : length c.print_written.new.out.items ≤ largest_file = omega (arith, c.if-len-gt-LARGEST_FILE.false, c.len.ensures) in
    let allowed = subst (λ (g : Written). is_group g ≡ true) (sym c.written.ensures.same) c.written.ensures.fits in
    subst (λ (g : Written). Spells c.print_written.new.out.items g) c.written.ensures.same
    (buffer_spells c.print_written.new.out.items _ c.written.result.now c.in_ok-print_written.ensures.0 c.new-out.ensures.items allowed c.in_ok-print_written.ensures.1 short)
