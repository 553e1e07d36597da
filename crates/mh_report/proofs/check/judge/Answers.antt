use Rattle.mh_report.specs.declared.status.Status.TheVariants as status
use Rattle.mh_report.proofs.WrittenLemmas.{accepted_so, whole, cut, written_as, begun_as, refused_checks}
use Rattle.mh_report.proofs.check.judge.Goals as goal

pub returns-in-Ok-clause-written : goal.returns-in-Ok-clause-written
returns-in-Ok-clause-written g c =
    whole _ _ _ c.accept.result _ status.Good (accepted_so _ _ _ c.in-Ok.ensures.same c.in-Ok.ensures.verified c.bounds-bounds.ensures.same) c.accept.ensures.report c.accept.ensures.status

pub returns-in-Ok-clause-begun : goal.returns-in-Ok-clause-begun
returns-in-Ok-clause-begun g c =
    cut _ _ _ c.accept.result _ status.Good (accepted_so _ _ _ c.in-Ok.ensures.same c.in-Ok.ensures.verified c.bounds-bounds.ensures.same) c.accept.ensures.cut

pub returns-in-Err-clause-written : goal.returns-in-Err-clause-written
returns-in-Err-clause-written g c =
    written_as _ _ _ _ _ (refused_checks c.args.service) (c.answer_refusal-status.ensures.written c.args.service c.in-Err.ensures.told)

pub returns-in-Err-clause-begun : goal.returns-in-Err-clause-begun
returns-in-Err-clause-begun g c =
    begun_as _ _ _ _ _ (refused_checks c.args.service) (c.answer_refusal-status.ensures.begun c.args.service c.in-Err.ensures.told)
