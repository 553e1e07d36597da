-- What is painted into a cell, as code has it.
use Rattle.mh_model.specs.Looks.{Paint}
use Rattle.mh_state.specs.declared.cell.given.Given.{Given}

abbrev pub paint_of : Given → Paint
paint_of g = record { back = g.back; mark = g.mark }
