use Rattle.redplay_c.proofs.VerdictLemmas.{accepted_told}
use Rattle.redplay_c.proofs.verdict.judge.Goals as goal

pub returns-in-Ok : goal.returns-in-Ok
returns-in-Ok c =
    accepted_told c.args.service c.in-Ok.accepted c.bounds-bounds.result c.told.result c.accepted_text.result c.requires c.in-Ok.ensures.same c.in-Ok.ensures.verified c.bounds-bounds.ensures.same c.accepted_text.ensures
    c.told.ensures.text c.told.ensures.number

pub returns-in-Err : goal.returns-in-Err
returns-in-Err c = c.refused-verdict.ensures c.args.service c.in-Err.ensures.told
