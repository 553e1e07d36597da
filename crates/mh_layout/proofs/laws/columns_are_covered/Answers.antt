use Rattle.mh_layout.proofs.BoxLemmas.{columns_are_covered}
use Rattle.mh_layout.proofs.laws.columns_are_covered.Goals as goal

pub returns : goal.returns
returns c = columns_are_covered
