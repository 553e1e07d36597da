use Rattle.std.proofs.Common.{◌≡◌, ◌<◌, ℕ, length, drop, slice_index}
use Rattle.std.specs.Prelude.{pos, ◌-ℤ◌}
use Rattle.mh_model.specs.Boxes.{or_zero}
use Rattle.mh_model.specs.Scalars.{scalars_of}
use Rattle.mh_display.specs.Places.{scalar_at}
use Rattle.mh_display.proofs.characters.placed_from.Given as goal

abbrev pub invariant-loop-column : goal.invariant-loop-column
invariant-loop-column l = record {
  size : length l.shown ≡ 60;
  done : (k : ℕ) → k < l.column → slice_index l.shown k ≡ scalar_at (pos k -ℤ l.begin) l.length (scalars_of l.text);
  rest : scalars_of l.rest ≡ drop (or_zero (pos l.column -ℤ l.begin)) (scalars_of l.text);
}
