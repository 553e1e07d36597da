use Rattle.std.proofs.lemmas.Result.{IfErr-weaker}
use Rattle.mh_verify.specs.Evidence.{IsShown}
use Rattle.mh_verify.specs.Order.{IsTold}
use Rattle.mh_verify.proofs.ShownLemmas.{told_is_shown}
use Rattle.mh_verify.proofs.verifying.verify.Goals as goal

-- what is told is shown
pub returns-in-Ok-clause-shown : goal.returns-in-Ok-clause-shown
returns-in-Ok-clause-shown c =
    let s = c.args.service in
    let programs = c.in-Ok.judged.programs.items in
    IfErr-weaker c.decide.result (IsTold s programs) IsShown (λ r. told_is_shown s programs r c.groups.ensures.service c.groups.ensures.keys) c.decide.ensures.told
