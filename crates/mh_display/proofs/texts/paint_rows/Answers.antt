use Rattle.std.proofs.Common.{◌≡◌, rules, arith}
use Rattle.std.specs.Prelude.{pos, ◌-ℤ◌}
use Rattle.std.proofs.Math.Facts.{to_z-of_z}
use Rattle.mh_model.specs.Boxes.{first_row}
use Rattle.mh_model.specs.Layout.{member_at}
use Rattle.mh_display.specs.Places.{behind_at, now_at}
use Rattle.mh_display.proofs.LetterLemmas.{row_of_text}
use Rattle.mh_display.proofs.PlaceLemmas.{member_now, next_place}
use Rattle.mh_display.proofs.RowLemmas.{no_row, next_row, last_row}
use Rattle.mh_display.proofs.texts.paint_rows.Goals as goal

pub returns-then-window : goal.returns-then-window
returns-then-window c = last_row _ _ _ _ c.args.window.now.top (search rules) (no_row _ _ _)

pub loop-row-init : goal.loop-row-init
loop-row-init c = record { low = search rules; painted = no_row _ _ _; lines = search (rules, to_z-of_z) }

pub loop-row-preserved : goal.loop-row-preserved
loop-row-preserved c =
    let above = first_row c.args.area.now in
    let n = c.loop-row.row in
    let taken : c.take_line-line.result ≡ now_at (pos n -ℤ above) c.loop-row.lines = search (rules, to_z-of_z) in
    let line : c.take_line-line.result ≡ member_at c.args.lines.now (pos n -ℤ above) = member_now (pos n -ℤ above) c.args.lines.now c.loop-row.lines c.take_line-line.result c.loop-row.invariant.lines taken in
    let left : c.take_line-line.new.lines ≡ behind_at (pos n -ℤ above) c.loop-row.lines = search (rules, to_z-of_z) in
    record {
      low = omega (arith, c.loop-row.invariant.low);
      painted = next_row _ _ _ _ _ n c.loop-row.invariant.low (search rules) (search rules) c.loop-row.invariant.painted
          (row_of_text c.args.ink c.args.area.now c.args.lines.now _ n c.args.window.now.left c.args.window.now.right _ _ _ c.requires.wide (search (rules, to_z-of_z)) (search (rules, line)) c.paint_row.ensures);
      lines = next_place n above c.args.lines.now c.loop-row.lines c.take_line-line.new.lines c.loop-row.invariant.lines left;
    }

pub returns : goal.returns
returns c = last_row _ _ _ _ c.loop-row.row (search rules) c.loop-row.invariant.painted
