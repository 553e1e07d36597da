use Rattle.std.proofs.Common.{refl}
use Rattle.mh_laws.specs.ExamplePassing.{entered, fired, streamed, told, in_first, in_second, near_the_end, ended}
use Rattle.mh_laws.proofs.example.passes.Goals as goal

pub returns : goal.returns
unfolding entered fired streamed told in_first in_second near_the_end ended
returns c = record {
  entered_idle = refl;
  entered_taken = refl;
  fired_idle = refl;
  fired_taken = refl;
  fired_in_order = refl;
  fired_moves = refl;
  fired_again = refl;
  fired_faultless = refl;
  streamed_idle = refl;
  streamed_taken = refl;
  told_idle = refl;
  told_taken = refl;
  told_moves = refl;
  first_idle = refl;
  first_taken = refl;
  first_is = refl;
  second_idle = refl;
  second_taken = refl;
  second_is = refl;
  second_moves = refl;
  still_there = refl;
  has_ended = refl;
  ended_taken = refl;
  ended_stays = refl;
  ended_refuses = refl;
}
