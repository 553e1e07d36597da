use Rattle.std.specs.Prelude.{◌≡◌, Bool, true, if◌then◌else◌, Option, None, ℕ}
use Rattle.std.proofs.Common.{rules, ap, sym, ◌∙◌}
use Rattle.std.proofs.Math.Facts.{to_z-of_z}
use Rattle.mh_model.specs.Boxes.{covers}
use Rattle.mh_state.specs.Frames.{area_of_frame, colour_at}
use Rattle.mh_state.proofs.cell.frame.back_at.Goals as goal

pub returns-then-covers_at : goal.returns-then-covers_at
returns-then-covers_at c =
    let here : c.colour_at.result ≡ colour_at c.args.panel.now c.args.x c.args.y = search (rules, to_z-of_z) in
    let covered : covers (area_of_frame c.args.panel.now.frame) c.args.x c.args.y ≡ true = search (rules, to_z-of_z) in
    here ∙ sym (ap (λ (b : Bool). if b then colour_at c.args.panel.now c.args.x c.args.y else None) covered)
