use Rattle.mh_widgets.proofs.CellLemmas.{shown_first, shown_second}
use Rattle.mh_widgets.proofs.cells.Cells.shows.Goals as goal

pub returns-then-is_listed : goal.returns-then-is_listed
returns-then-is_listed c = rw (← c.self.view_is) (shown_first c.args.object.now c.self.inside.some.now c.self.inside.wrapped.now c.is_listed.result c.if-is_listed.true c.is_listed.ensures)

pub returns-else-is_listed : goal.returns-else-is_listed
returns-else-is_listed c = rw (← c.self.view_is) (shown_second c.args.object.now c.self.inside.some.now c.self.inside.wrapped.now c.is_listed.result c.is_listed-else-is_listed.result c.if-is_listed.false c.is_listed.ensures c.is_listed-else-is_listed.ensures)
