use Rattle.std.proofs.Common.{rules}
use Rattle.mh_display.proofs.BitLemmas.{set_bit, take_bit}
use Rattle.mh_display.proofs.cells.set.Goals as goal

pub returns-then-on : goal.returns-then-on
returns-then-on c = set_bit c.args.rows.now c.args.row c.args.column c.args.on c.if-on.true (search rules) c.requires.wide

pub returns-else-on : goal.returns-else-on
returns-else-on c = take_bit c.args.rows.now c.args.row c.args.column c.args.on c.if-on.false (search rules) c.requires.wide
