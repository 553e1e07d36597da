use Rattle.std.proofs.Common.{◌≡◌, ◌-ℤ◌, ◌+ℤ◌, ap, ◌∙◌, refl, ℤ, SFits, w64}
use Rattle.std.proofs.Math.Facts.{to_z-of_z}
use Rattle.std.specs.Int.RustNames.{unsigned_abs}
use Rattle.mh_model.specs.Drawn.{across, gone, steps}
use Rattle.mh_display.proofs.LineLemmas.{summed}
use Rattle.mh_display.proofs.stroke.column_at.Goals as goal

pub returns : goal.returns
returns c =
    let s = c.args.stroke.now in
    let far : SFits w64 c.to_row.result = record { sfits = c.to_row.type_inv } in
    let whole : SFits w64 c.across.result = record { sfits = c.across.type_inv } in
    let there : c.to_row.result ≡ c.args.row -ℤ s.first.row = c.to_row.ensures ∙ rw (to_z-of_z c.ranges.row) refl in
    let way : c.gone.result ≡ gone (steps s) (across s) (unsigned_abs (c.args.row -ℤ s.first.row)) = c.gone.ensures.number ∙ rw (c.unsigned_abs-step.ensures.value, to_z-of_z far, to_z-of_z whole, there, c.across.ensures.number, c.steps.ensures.number) refl in
    summed s.first.column c.gone.result c.requires.short.column c.gone.ensures.near ∙ ap (λ (z : ℤ). s.first.column +ℤ z) way
