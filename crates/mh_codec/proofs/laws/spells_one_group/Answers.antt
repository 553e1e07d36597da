use Rattle.mh_codec.proofs.SpellingLaws.{spells_one}
use Rattle.mh_codec.proofs.laws.spells_one_group.Goals as goal

pub returns : goal.returns
returns c = λ tags table. spells_one tags table
