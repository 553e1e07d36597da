use Rattle.std.proofs.Common.{refl}
use Rattle.mh_display.proofs.BitLemmas.{all_stale}
use Rattle.mh_display.proofs.RowBitLemmas.{in_all_rows}
use Rattle.mh_display.proofs.screen.Screen.spoil_all.Goals as goal

pub invariant_of-self : goal.invariant_of-self
invariant_of-self c = record {
  whole = record { planes = c.self.invariant.whole.planes; marks = refl; bare = c.self.invariant.whole.bare };
  stale = λ e. all_stale _ refl;
  within = in_all_rows _;
}

pub returns-clause-all : goal.returns-clause-all
returns-clause-all c = all_stale _ refl
