use Rattle.std.proofs.Common.{rules}
use Rattle.mh_display.proofs.BitLemmas.{none_stale_at_first}
use Rattle.mh_display.proofs.screen.Screen.new.Goals as goal

pub returns-clause-clean : goal.returns-clause-clean
returns-clause-clean c = none_stale_at_first _ (search rules)

pub invariant_of-result : goal.invariant_of-result
invariant_of-result c = record {
  whole = record { planes = search rules; marks = search rules; bare = search rules };
  stale = λ e. absurd cc;
  within = λ k inside e. none_stale_at_first _ (search rules) k inside;
}
