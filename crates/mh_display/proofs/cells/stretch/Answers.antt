use Rattle.std.proofs.Common.{rules}
use Rattle.mh_display.proofs.BitLemmas.{stretch}
use Rattle.mh_display.proofs.cells.stretch.Goals as goal

pub returns : goal.returns
returns c = stretch c.args.first c.args.last _ c.requires (search rules)
