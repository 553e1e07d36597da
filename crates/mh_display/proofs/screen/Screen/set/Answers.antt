use Rattle.std.proofs.Common.{rules, ◌+◌, ◌*◌, subst, arith}
use Rattle.mh_display.specs.Painting.{IsSet, marked_at}
use Rattle.mh_display.specs.Surface.{Surface}
use Rattle.mh_display.proofs.PaintLemmas.{is_set}
use Rattle.mh_display.proofs.screen.Screen.set.Goals as goal

pub returns : goal.returns
returns c =
    let s : Surface = record { planes = c.self.inside.picture; marks = c.self.inside.stale; bare = c.self.inside.bare } in
    let t : Surface = record { planes = c.set_back.new.self; marks = c.set.new.rows; bare = c.set-2.new.rows } in
    subst (λ (u : Surface). IsSet (marked_at u) (marked_at t) (60 * c.args.row + c.args.column) c.args.new) c.self.view_is
    (is_set s c.set_back.new.self c.set.new.rows c.set-2.new.rows (60 * c.args.row + c.args.column) c.args.new c.self.invariant.whole
    (omega (arith, c.requires.low, c.requires.wide)) (search rules) c.set.ensures c.set-2.ensures)
