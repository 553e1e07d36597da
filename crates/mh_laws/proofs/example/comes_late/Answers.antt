use Rattle.std.proofs.Common.{refl}
use Rattle.mh_laws.specs.ExampleLate.{waits, posted_once, came, in_first, red_waits, in_other, stays_there}
use Rattle.mh_group.specs.Same.{same_group}
use Rattle.mh_laws.proofs.example.comes_late.Goals as goal

pub returns : goal.returns
unfolding waits posted_once came in_first red_waits in_other stays_there same_group
returns c = record {
  waits_idle = refl;
  waits_taken = refl;
  waits_for = refl;
  waits_black = refl;
  empty_differs = refl;
  other_differs = refl;
  never_late = refl;
  once = refl;
  not_twice = refl;
  came_idle = refl;
  came_taken = refl;
  came_is = refl;
  came_late = refl;
  came_rests = refl;
  came_shows = refl;
  came_again = refl;
  first_idle = refl;
  first_taken = refl;
  red_waits_for = refl;
  red_stays = refl;
  other_idle = refl;
  other_taken = refl;
  other_is = refl;
  other_rests = refl;
  stays_idle = refl;
  stays_taken = refl;
  stays_in = refl;
  faultless = refl;
  counted_both = record { layered = refl; counted = refl };
  counted = record { layered = refl; counted = refl };
}
