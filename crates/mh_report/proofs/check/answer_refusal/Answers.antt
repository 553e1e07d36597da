use Rattle.mh_report.specs.declared.status.Status.TheVariants as status
use Rattle.mh_verdict.specs.Lines.{refusal_lines}
use Rattle.mh_report.specs.Played.{refuses}
use Rattle.mh_report.proofs.WrittenLemmas.{whole, cut, named}
use Rattle.mh_report.proofs.check.answer_refusal.Goals as goal

pub returns-in_default : goal.returns-in_default
returns-in_default g c = record {
  written = λ s told. whole _ _ _ c.refuse.result (refusal_lines c.args.refusal.now) status.Refused (refuses _ (named s _ told c.in_default.not-NoMemory)) c.refuse.ensures.report c.refuse.ensures.status;
  begun = λ s told. cut _ _ _ c.refuse.result (refusal_lines c.args.refusal.now) status.Refused (refuses _ (named s _ told c.in_default.not-NoMemory)) c.refuse.ensures.cut;
  write = c.refuse.ensures.write;
}
