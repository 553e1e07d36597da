use Rattle.mh_look.proofs.ReachLemmas.{kept_row, not_kept_row, changed_row, unchanged_row}
use Rattle.std.proofs.Common.{◌∙◌, sym}
use Rattle.mh_look.proofs.report.frame.read_change.Goals as goal

pub returns-then-is_row_shown-clause-found : goal.returns-then-is_row_shown-clause-found
returns-then-is_row_shown-clause-found c =
    kept_row c.args.before.now c.args.after.now c.args.row c.args.bytes.now c.in_ok-read_row_front.field-0 c.in_ok-read_row_front.ensures c.in_default.is c.requires.kept
    (sym c.is_row_shown.ensures ∙ c.if-is_row_shown.true)

pub returns-in_default-clause-found : goal.returns-in_default-clause-found
returns-in_default-clause-found c =
    not_kept_row c.args.before.now c.args.after.now c.args.row c.args.bytes.now c.in_ok-read_row_front.field-0 c.in_ok-read_row_front.ensures c.in_default.is c.requires.kept
    (sym c.is_row_shown.ensures ∙ c.if-is_row_shown.false)

pub returns-then-differ-clause-found : goal.returns-then-differ-clause-found
returns-then-differ-clause-found c =
    changed_row c.args.before.now c.read_row.new.picture c.args.row c.in-Some.field-0 c.args.bytes.now c.in_ok-read_row_front.field-0 c.in_ok-found.found c.in_ok-read_row_front.ensures c.in-Some.is
    c.in_ok-found.ensures.found (sym c.differ.ensures ∙ c.if-differ.true)

pub returns-else-differ-clause-found : goal.returns-else-differ-clause-found
returns-else-differ-clause-found c =
    unchanged_row c.args.before.now c.read_row.new.picture c.args.row c.in-Some.field-0 c.args.bytes.now c.in_ok-read_row_front.field-0 c.in_ok-found.found c.in_ok-read_row_front.ensures c.in-Some.is
    c.in_ok-found.ensures.found (sym c.differ.ensures ∙ c.if-differ.false)
