use Rattle.std.proofs.Common.{◌≡◌, ◌-ℤ◌, ◌+ℤ◌, ℤ, refl, ap, ◌∙◌, SFits, w64}
use Rattle.std.specs.Ordering.{int_eq}
use Rattle.std.proofs.Math.Facts.{to_z-of_z}
use Rattle.mh_model.specs.Drawn.{across, gone, steps}
use Rattle.mh_display.proofs.DrawnLemmas.{same_so_far}
use Rattle.mh_display.proofs.stroke.comes_to_column.Goals as goal

pub returns : goal.returns
returns c =
    let s = c.args.stroke.now in
    let whole : SFits w64 c.across.result = record { sfits = c.across.type_inv } in
    let far : c.gone.result ≡ gone (steps s) (across s) c.args.step = c.gone.ensures.number ∙ rw (to_z-of_z whole, c.across.ensures.number, c.steps.ensures.number) refl in
    let there : c.to_column.result ≡ c.args.column -ℤ s.first.column = c.to_column.ensures ∙ rw (to_z-of_z c.ranges.column) refl in
    same_so_far s.first.column c.gone.result c.args.column c.to_column.result (record { sfits = c.gone.type_inv }) (record { sfits = c.to_column.type_inv }) there
    ∙ ap (λ (g : ℤ). int_eq (s.first.column +ℤ g) c.args.column) far
