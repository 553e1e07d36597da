use Rattle.mh_display.proofs.WindowLemmas.{whole_has}
use Rattle.mh_display.proofs.window.Window.whole.Goals as goal

pub returns : goal.returns
returns c = whole_has
