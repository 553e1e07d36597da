use Rattle.std.specs.Prelude.{◌≡◌, ◌*◌, pos}
use Rattle.std.proofs.Common.{rules, ◌∙◌}
use Rattle.std.proofs.Math.Facts.{to_z-of_z}
use Rattle.mh_display.specs.Panels.{colour_at}
use Rattle.mh_display.proofs.CellLemmas.{placed}
use Rattle.mh_display.proofs.panel.colour_of.Goals as goal

pub returns : goal.returns
returns c =
    let here : c.colour_at.result ≡ colour_at c.args.panel.now (pos (12 * c.args.column)) (pos (16 * c.args.row)) = search (rules, to_z-of_z) in
    here ∙ placed c.args.panel.now c.args.row c.args.column c.requires.wide
