use Rattle.std.proofs.Common.{rules}
use Rattle.mh_live.specs.Screen.{changed_at}
use Rattle.mh_terminal.proofs.RangeLemmas.{one_more}
use Rattle.mh_live.proofs.drawing.put_lines.Goals as goal

pub loop-place-preserved : goal.loop-place-preserved
loop-place-preserved c =
    one_more (changed_at c.args.columns c.args.before.now c.args.after.now) c.loop-place.place c.args.text.now c.loop-place.text c.put_line.new.text (search rules) c.loop-place.invariant
