use Rattle.mh_layers.proofs.ReadingLemmas.{numbers_are_names}
use Rattle.mh_layers.proofs.numbered.numbers_are_names.Goals as goal

pub returns : goal.returns
returns c = numbers_are_names
