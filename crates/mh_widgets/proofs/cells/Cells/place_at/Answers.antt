use Rattle.mh_widgets.proofs.CellLemmas.{placed_both}
use Rattle.mh_widgets.proofs.cells.Cells.place_at.Goals as goal

pub returns : goal.returns
returns c = rw (← c.self.view_is) (placed_both c.self.inside.some.now c.self.inside.wrapped.now c.args.positions.now c.behind_of-left.result.now c.args.placed.now.items c.place_entries.new.placed.items c.place_entries-2.new.placed.items c.behind_of-left.ensures c.in_ok-place_entries.ensures c.in_ok-place_entries-2.ensures)
