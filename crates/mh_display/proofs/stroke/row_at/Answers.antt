use Rattle.std.proofs.Common.{◌≡◌, ◌-ℤ◌, ◌+ℤ◌, ap, ◌∙◌, refl, ℤ, SFits, w64}
use Rattle.std.proofs.Math.Facts.{to_z-of_z}
use Rattle.std.specs.Int.RustNames.{unsigned_abs}
use Rattle.mh_model.specs.Drawn.{down, gone, steps}
use Rattle.mh_display.proofs.LineLemmas.{summed}
use Rattle.mh_display.proofs.stroke.row_at.Goals as goal

pub returns : goal.returns
returns c =
    let s = c.args.stroke.now in
    let far : SFits w64 c.to_column.result = record { sfits = c.to_column.type_inv } in
    let whole : SFits w64 c.down.result = record { sfits = c.down.type_inv } in
    let there : c.to_column.result ≡ c.args.column -ℤ s.first.column = c.to_column.ensures ∙ rw (to_z-of_z c.ranges.column) refl in
    let way : c.gone.result ≡ gone (steps s) (down s) (unsigned_abs (c.args.column -ℤ s.first.column)) = c.gone.ensures.number ∙ rw (c.unsigned_abs-step.ensures.value, to_z-of_z far, to_z-of_z whole, there, c.down.ensures.number, c.steps.ensures.number) refl in
    summed s.first.row c.gone.result c.requires.short.row c.gone.ensures.near ∙ ap (λ (z : ℤ). s.first.row +ℤ z) way
