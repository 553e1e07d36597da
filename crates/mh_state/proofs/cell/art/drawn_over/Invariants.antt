use Rattle.std.proofs.Common.{◌≡◌, drop}
use Rattle.mh_model.specs.Drawn.{drawn_over}
use Rattle.mh_state.proofs.cell.art.drawn_over.Given as goal

abbrev pub invariant-loop-drawing : goal.invariant-loop-drawing
invariant-loop-drawing l =
    drawn_over l.area (drop l.drawing-index l.drawings) l.cell l.seen ≡ drawn_over l.area l.drawings l.cell l.fn.below
