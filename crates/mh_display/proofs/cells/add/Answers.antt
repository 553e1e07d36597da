use Rattle.std.proofs.Common.{rules}
use Rattle.mh_display.proofs.BitLemmas.{add_bits}
use Rattle.mh_display.proofs.cells.add.Goals as goal

pub returns : goal.returns
returns c = add_bits c.args.rows.now _ c.args.row c.args.bits c.args.first c.args.last (search rules) c.requires.wide c.requires.own (search rules)
