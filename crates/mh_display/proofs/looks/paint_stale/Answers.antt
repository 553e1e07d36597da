use Rattle.std.proofs.Common.{rules}
use Rattle.mh_display.proofs.SpoilLemmas.{box_settled}
use Rattle.mh_display.proofs.looks.paint_stale.Goals as goal

pub returns-then-is_settled_in : goal.returns-then-is_settled_in
returns-then-is_settled_in c =
    box_settled c.args.object.now c.args.area.now c.of.result c.of-own.result c.args.screen.now (search rules) (search rules) c.of-own.ensures (c.is_settled_in.ensures (search rules))
