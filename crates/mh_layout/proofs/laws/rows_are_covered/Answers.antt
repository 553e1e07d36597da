use Rattle.mh_layout.proofs.BoxLemmas.{rows_are_covered}
use Rattle.mh_layout.proofs.laws.rows_are_covered.Goals as goal

pub returns : goal.returns
returns c = rows_are_covered
