-- The fields in front of the items and those behind them are all of them.
use Rattle.std.proofs.Common.{rules, sym}
use Rattle.mh_group.specs.Holdable.{is_setting}
use Rattle.mh_group.proofs.WritingLemmas.{all_parts}
use Rattle.mh_text.proofs.PrintingLemmas.{whole_fits, whole_refused}
use Rattle.mh_text.proofs.printing.print_body.Goals as goal

pub returns-in_err-print_several-in-Some-clause-limit : goal.returns-in_err-print_several-in-Some-clause-limit
returns-in_err-print_several-in-Some-clause-limit c =
    rw (sym (all_parts (λ f. is_setting f.setting) c.before_items-count.result c.args.fields.now)) (search rules)

pub returns-in_ok-print_items-in-Some-clause-settings : goal.returns-in_ok-print_items-in-Some-clause-settings
returns-in_ok-print_items-in-Some-clause-settings c =
    rw (sym (all_parts (λ f. is_setting f.setting) c.before_items-count.result c.args.fields.now))
    (whole_fits c.print_several-in-Some-2.result _ _ _ _ _ c.in_ok-print_several-in-Some.ensures.1 c.print_several-in-Some-2.ensures)

pub returns-in_ok-print_items-in-Some-clause-limit : goal.returns-in_ok-print_items-in-Some-clause-limit
returns-in_ok-print_items-in-Some-clause-limit c =
    rw (sym (all_parts (λ f. is_setting f.setting) c.before_items-count.result c.args.fields.now))
    (whole_refused c.print_several-in-Some-2.result _ _ _ _ _ _ c.in_ok-print_several-in-Some.ensures.1 c.print_several-in-Some-2.ensures)
