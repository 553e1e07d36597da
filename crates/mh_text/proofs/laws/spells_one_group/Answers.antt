use Rattle.mh_text.proofs.PrintedLaw.{spells_one}
use Rattle.mh_text.proofs.laws.spells_one_group.Goals as goal

pub returns : goal.returns
returns c = spells_one
