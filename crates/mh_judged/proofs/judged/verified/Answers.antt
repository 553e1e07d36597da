use Rattle.mh_judged.proofs.ListLemmas.{accepted_so, kept_ok, refused_so}
use Rattle.mh_judged.proofs.judged.verified.Goals as goal

pub returns-in-Ok : goal.returns-in-Ok
returns-in-Ok c =
    kept_ok c.accepted_findings-found.result
    (λ found list. accepted_so c.args.asked c.args.most c.args.folder.now c.args.files.now c.args.start.now c.args.service c.in-Ok.accepted.service found.items c.in-Ok.ensures.same list)
    c.accepted_findings-found.ensures

pub returns-in-Err : goal.returns-in-Err
returns-in-Err c =
    kept_ok c.refused-found.result
    (λ found both. refused_so c.args.asked c.args.most c.args.folder.now c.args.files.now c.args.start.now c.args.service c.in-Err.refusal found.items c.in-Err.ensures.told both.1 both.0)
    c.refused-found.ensures
