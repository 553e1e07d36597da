use Rattle.std.proofs.Common.{refl}
use Rattle.mh_laws.specs.ExampleFirst.{settled, moved_on}
use Rattle.mh_laws.proofs.example.plays_first.Goals as goal

pub returns : goal.returns
unfolding settled moved_on
returns c = record {
  eleven = refl;
  idle = refl;
  frame = refl;
  two = refl;
  idle_again = refl;
  next_frame = refl;
  faultless = refl;
}
