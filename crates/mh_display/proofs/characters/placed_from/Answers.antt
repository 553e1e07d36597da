use Rattle.std.proofs.Common.{◌≡◌, ◌<◌, ℕ, List, length, ap, ◌∙◌, rules, arith, to_z, of_z, w64}
use Rattle.std.specs.Prelude.{pos, ◌-ℤ◌}
use Rattle.std.proofs.Math.Facts.{to_z-of_z}
use Rattle.std.proofs.lemmas.List.{length-set}
use Rattle.mh_model.specs.Scalars.{scalars_of}
use Rattle.mh_display.specs.Places.{behind_at, scalar_at, scalar_now}
use Rattle.mh_display.proofs.PlaceLemmas.{next_place, one_put}
use Rattle.mh_display.proofs.characters.placed_from.Goals as goal

pub loop-column-preserved : goal.loop-column-preserved
loop-column-preserved c =
    let all = scalars_of c.args.text.now in
    let b = to_z w64 (of_z w64 c.args.begin) in
    let n = c.loop-column.column in
    let inside : n < length c.loop-column.shown = omega (arith, c.loop-column.invariant.size, c.loop-column-test.true) in
    let here : c.take_scalar-scalar.result.0 ≡ scalar_now (pos n -ℤ b) c.args.length (scalars_of c.loop-column.rest.now) = search (rules, to_z-of_z) in
    let behind : scalars_of c.take_scalar-scalar.result.1.now ≡ behind_at (pos n -ℤ b) (scalars_of c.loop-column.rest.now) = search (rules, to_z-of_z) in
    record {
      size = length-set c.loop-column.shown n _ ∙ c.loop-column.invariant.size;
      done = one_put (λ k. scalar_at (pos k -ℤ b) c.args.length all) c.loop-column.shown n c.take_scalar-scalar.result.0 inside (here ∙ ap (λ (xs : List ℕ). scalar_now (pos n -ℤ b) c.args.length xs) c.loop-column.invariant.rest) c.loop-column.invariant.done;
      rest = next_place n b all (scalars_of c.loop-column.rest.now) (scalars_of c.take_scalar-scalar.result.1.now) c.loop-column.invariant.rest behind;
    }
