use Rattle.mh_model.specs.State.{all}
use Rattle.mh_state.specs.Looking.{paint_of}
use Rattle.mh_state.proofs.CellLemmas.{IsDown}
use Rattle.mh_state.proofs.cell.looking.look_down.Given as goal

abbrev pub invariant-loop-at : goal.invariant-loop-at
invariant-loop-at l = IsDown (all l.objects) l.cell l.refs l.at-index l.initial.text l.text (paint_of l.seen)
