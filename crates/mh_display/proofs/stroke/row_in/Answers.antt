use Rattle.std.proofs.Common.{rules}
use Rattle.mh_display.proofs.LineLemmas.{found_row, missed_row}
use Rattle.mh_display.proofs.stroke.row_in.Goals as goal

pub returns-then-not-has_column : goal.returns-then-not-has_column
returns-then-not-has_column c = missed_row c.args.stroke.now c.args.column c.args.first c.args.last c.requires.flat (search rules)

pub returns : goal.returns
returns c = found_row c.args.stroke.now c.args.column c.args.first c.args.last c.row_at.result c.place_between.result c.requires.flat (search rules) (search rules) (search rules)
