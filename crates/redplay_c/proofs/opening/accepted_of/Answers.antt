use Rattle.redplay_c.proofs.StartLemmas.{refused_so}
use Rattle.redplay_c.proofs.opening.accepted_of.Goals as goal

pub returns : goal.returns
returns c = record { same = tt; verified = tt; refused = refused_so _ _ c.in-Err.ensures.told c.in_default.not-NoMemory }
