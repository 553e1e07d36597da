use Rattle.mh_layout.proofs.DivisionLemmas.{one_division}
use Rattle.mh_layout.proofs.laws.one_division.Goals as goal

pub returns : goal.returns
returns c = one_division
