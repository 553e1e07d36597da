use Rattle.std.proofs.Common.{rules}
use Rattle.mh_display.proofs.BitLemmas.{found_stale}
use Rattle.mh_display.proofs.screen.Screen.stale_in.Goals as goal

pub returns : goal.returns
returns c = found_stale c.args.self.now c.args.row c.args.first c.args.last c.stretch.result _ c.requires.wide c.stretch.ensures (search rules)
