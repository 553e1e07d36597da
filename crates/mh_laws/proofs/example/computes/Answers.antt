use Rattle.std.proofs.Common.{refl}
use Rattle.mh_laws.specs.ExampleComputing.{computed, moved_through, missed_through, no_reference}
use Rattle.mh_laws.proofs.example.computes.Goals as goal

pub returns : goal.returns
unfolding computed moved_through missed_through no_reference
returns c = record {
  computed_taken = refl;
  computed_idle = refl;
  computed_faultless = refl;
  computed_left = refl;
  computed_right = refl;
  through_moves = refl;
  through_faultless = refl;
  through_missed = refl;
  through_number = refl;
  over = refl;
  by_zero = refl;
  under = refl;
  plus_is_no_digit = refl;
  minus_zero = refl;
  digits = refl;
}
