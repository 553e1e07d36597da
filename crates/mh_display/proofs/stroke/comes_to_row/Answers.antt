use Rattle.std.proofs.Common.{◌≡◌, ◌-ℤ◌, ◌+ℤ◌, ℤ, refl, ap, ◌∙◌, SFits, w64}
use Rattle.std.specs.Ordering.{int_eq}
use Rattle.std.proofs.Math.Facts.{to_z-of_z}
use Rattle.mh_model.specs.Drawn.{down, gone, steps}
use Rattle.mh_display.proofs.DrawnLemmas.{same_so_far}
use Rattle.mh_display.proofs.stroke.comes_to_row.Goals as goal

pub returns : goal.returns
returns c =
    let s = c.args.stroke.now in
    let whole : SFits w64 c.down.result = record { sfits = c.down.type_inv } in
    let far : c.gone.result ≡ gone (steps s) (down s) c.args.step = c.gone.ensures.number ∙ rw (to_z-of_z whole, c.down.ensures.number, c.steps.ensures.number) refl in
    let there : c.to_row.result ≡ c.args.row -ℤ s.first.row = c.to_row.ensures ∙ rw (to_z-of_z c.ranges.row) refl in
    same_so_far s.first.row c.gone.result c.args.row c.to_row.result (record { sfits = c.gone.type_inv }) (record { sfits = c.to_row.type_inv }) there
    ∙ ap (λ (g : ℤ). int_eq (s.first.row +ℤ g) c.args.row) far
