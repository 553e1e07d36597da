use Rattle.mh_state.proofs.CellLemmas.{topmost_shown}
use Rattle.mh_state.proofs.cell.topmost_is_shown.Goals as goal

pub returns : goal.returns
returns c = topmost_shown
