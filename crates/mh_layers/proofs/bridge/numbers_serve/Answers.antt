use Rattle.mh_layers.proofs.NumbersLemmas.{laid_by_number}
use Rattle.mh_layers.proofs.bridge.numbers_serve.Goals as goal

pub returns : goal.returns
returns c = laid_by_number
