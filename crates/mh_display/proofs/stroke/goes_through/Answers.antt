use Rattle.std.proofs.Common.{◌≡◌, rules, refl, ◌∙◌}
use Rattle.std.proofs.Math.Facts.{to_z-of_z}
use Rattle.mh_model.specs.Drawn.{comes_to}
use Rattle.mh_display.specs.Strokes.{step_to}
use Rattle.mh_display.proofs.DrawnLemmas.{is_reached, is_too_far}
use Rattle.mh_display.proofs.stroke.goes_through.Goals as goal

pub returns-then-step-steps : goal.returns-then-step-steps
returns-then-step-steps c =
    let s = c.args.stroke.now in
    let step : c.step_to-step.result ≡ step_to s c.args.column c.args.row = c.step_to-step.ensures ∙ rw (to_z-of_z c.ranges.column, to_z-of_z c.ranges.row) refl in
    let comes : c.comes_to.result ≡ comes_to s c.args.column c.args.row c.step_to-step.result = c.comes_to.ensures ∙ rw (to_z-of_z c.ranges.column, to_z-of_z c.ranges.row) refl in
    is_reached s c.args.column c.args.row c.step_to-step.result c.steps.result c.comes_to.result step c.steps.ensures.number (search rules) comes

pub returns-else-step-steps : goal.returns-else-step-steps
returns-else-step-steps c =
    let s = c.args.stroke.now in
    let step : c.step_to-step.result ≡ step_to s c.args.column c.args.row = c.step_to-step.ensures ∙ rw (to_z-of_z c.ranges.column, to_z-of_z c.ranges.row) refl in
    is_too_far s c.args.column c.args.row c.step_to-step.result c.steps.result step c.steps.ensures.number (search rules)
