use Rattle.mh_why.proofs.WhyLemmas.{harmless_why}
use Rattle.mh_why.proofs.explanation.explanations_are_harmless.Goals as goal

pub returns : goal.returns
returns c = harmless_why
