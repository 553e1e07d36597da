use Rattle.std.proofs.Common.{refl}
use Rattle.mh_laws.specs.ExampleFirst.{settled, rested, missed}
use Rattle.mh_laws.proofs.example.plays_others.Goals as goal

pub returns : goal.returns
unfolding settled rested missed
returns c = record {
  rested_taken = refl;
  rested_idle = refl;
  missed_faults = refl;
  missed_taken = refl;
  missed_stays = refl;
}
