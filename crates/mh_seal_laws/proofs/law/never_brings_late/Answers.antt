use Rattle.mh_seal_laws.proofs.NeverLemmas.{never_late}
use Rattle.mh_seal_laws.proofs.law.never_brings_late.Goals as goal

pub returns : goal.returns
returns c = never_late
