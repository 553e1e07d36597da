use Rattle.std.proofs.Common.{◌≡◌, ℕ, refl, take, rules, sym, ◌∙◌, ap}
use Rattle.std.specs.Prelude.{pos, ◌+ℤ◌, ◌-ℤ◌, slice_index}
use Rattle.std.proofs.Math.Facts.{to_z-of_z}
use Rattle.mh_model.specs.Scalars.{scalars_of}
use Rattle.mh_display.specs.Places.{scalar_at}
use Rattle.mh_display.proofs.PlaceLemmas.{shows}
use Rattle.mh_display.proofs.characters.characters_in.Goals as goal

pub returns : goal.returns
returns c = λ column inside.
    let begin = c.args.first +ℤ pos c.args.line.now.column in
    let own : c.args.line.now.scalars ≡ take c.length.result (scalars_of c.text.result.now) = c.text.ensures ∙ ap (λ (n : ℕ). take n (scalars_of c.text.result.now)) (sym c.length.ensures) in
    let here : slice_index c.placed_from.result column ≡ scalar_at (pos column -ℤ begin) c.length.result (scalars_of c.text.result.now) = search (rules, to_z-of_z) in
    shows column c.args.first begin c.length.result (slice_index c.placed_from.result column) c.args.line.now (scalars_of c.text.result.now) refl own here
