use Rattle.redplay_c.proofs.VerdictLemmas.{refused_told}
use Rattle.redplay_c.proofs.verdict.refused.Goals as goal

pub returns-in_default : goal.returns-in_default
returns-in_default c =
    λ s told. refused_told s c.args.refusal.now c.told.result c.refusal_text.result told c.in_default.not-NoMemory c.refusal_text.ensures
    c.told.ensures.text c.told.ensures.number
