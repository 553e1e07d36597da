use Rattle.std.specs.Option.{option_copied}
use Rattle.std.proofs.Common.{rules}
use Rattle.mh_display.proofs.RowBitLemmas.{in_all_rows, still_stale}
use Rattle.mh_display.proofs.screen.Screen.spoil.Goals as goal

pub invariant_of-self : goal.invariant_of-self
invariant_of-self c = record {
  whole = search rules;
  stale = λ e. still_stale (option_copied c.args.found) _ _ c.spoil_found.ensures (c.self.invariant.stale e);
  within = in_all_rows _;
}
