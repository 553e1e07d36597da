use Rattle.std.proofs.Common.{rules}
use Rattle.mh_display.proofs.LineLemmas.{found_column, missed_column}
use Rattle.mh_display.proofs.stroke.column_in.Goals as goal

pub returns-then-not-has_row : goal.returns-then-not-has_row
returns-then-not-has_row c = missed_column c.args.stroke.now c.args.row c.args.first c.args.last c.requires.steep (search rules)

pub returns : goal.returns
returns c = found_column c.args.stroke.now c.args.row c.args.first c.args.last c.column_at.result c.place_between.result c.requires.steep (search rules) (search rules) (search rules)
