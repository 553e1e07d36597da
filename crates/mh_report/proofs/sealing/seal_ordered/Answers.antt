use Rattle.std.proofs.Common.{subst, sym}
use Rattle.mh_model.specs.Service.{Service}
use Rattle.mh_seal_laws.specs.Bringing.{AreScenes}
use Rattle.mh_seal_laws.specs.Joined.{IsOfFiles}
use Rattle.mh_report.specs.Sealed.{IsMeant}
use Rattle.mh_report.proofs.SealingLemmas.{refused_seals}
use Rattle.mh_report.proofs.WrittenLemmas.{begun_as, written_as}
use Rattle.mh_report.proofs.sealing.seal_ordered.Goals as goal

pub text_of-text-requires-clause-files : goal.text_of-text-requires-clause-files
text_of-text-requires-clause-files g c = subst IsOfFiles (sym c.in-Ok.ensures.same) c.requires.files

pub text_of-text-requires-clause-scenes : goal.text_of-text-requires-clause-scenes
text_of-text-requires-clause-scenes g c = subst (λ (v : Service). AreScenes v v.late) (sym c.in-Ok.ensures.same) c.requires.scenes

pub returns-in-Ok-clause-written : goal.returns-in-Ok-clause-written
returns-in-Ok-clause-written g c =
    c.put_text.ensures.written c.args.tags.now c.args.service (subst (λ (v : Service). IsMeant c.args.tags.now v c.text_of-text.result) c.in-Ok.ensures.same c.text_of-text.ensures)

pub returns-in-Ok-clause-begun : goal.returns-in-Ok-clause-begun
returns-in-Ok-clause-begun g c =
    c.put_text.ensures.begun c.args.tags.now c.args.service (subst (λ (v : Service). IsMeant c.args.tags.now v c.text_of-text.result) c.in-Ok.ensures.same c.text_of-text.ensures)

pub returns-in-Err-clause-written : goal.returns-in-Err-clause-written
returns-in-Err-clause-written g c =
    written_as _ _ _ _ _ (refused_seals c.args.tags.now c.args.service) (c.answer_refusal-status.ensures.written c.args.service c.in-Err.ensures.told)

pub returns-in-Err-clause-begun : goal.returns-in-Err-clause-begun
returns-in-Err-clause-begun g c =
    begun_as _ _ _ _ _ (refused_seals c.args.tags.now c.args.service) (c.answer_refusal-status.ensures.begun c.args.service c.in-Err.ensures.told)
