use Rattle.std.proofs.Common.{refl}
use Rattle.mh_laws.proofs.example.counts_examples.Goals as goal

pub returns : goal.returns
returns c = record {
  moving = record { layered = refl; counted = refl };
  empty = record { layered = refl; counted = refl };
  tested = record { layered = refl; counted = refl };
  handed = record { layered = refl; counted = refl };
  timed = record { layered = refl; counted = refl };
}
