use Rattle.std.proofs.Common.{rules}
use Rattle.mh_display.proofs.WindowLemmas.{meet}
use Rattle.mh_display.proofs.window.Window.meet.Goals as goal

pub returns : goal.returns
returns c = meet c.args.self.now c.args.other.now _ (search rules) (search rules) (search rules) (search rules)
