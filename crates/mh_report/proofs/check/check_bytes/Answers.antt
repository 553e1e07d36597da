use Rattle.mh_report.specs.Played.{Checks, check_unreadable}
use Rattle.mh_report.proofs.WrittenLemmas.{unreadable_whole, unreadable_cut, failed}
use Rattle.mh_report.proofs.PlainLemmas.{plain_service}
use Rattle.mh_report.proofs.check.check_bytes.Goals as goal

pub judge-requires-clause-plain : goal.judge-requires-clause-plain
judge-requires-clause-plain g c =
    plain_service c.args.options.now c.args.files.now c.in-Ok.service c.in-Ok.ensures

pub returns : goal.returns
returns g c = record {
  written = unreadable_whole (Checks) _ c.in-Err.why _ _ c.complain.result (failed c.in-Err.why _ c.in-Err.ensures c.in_default.not-NoMemory)
      (check_unreadable _) c.complain.ensures.report c.complain.ensures.status;
  begun = unreadable_cut (Checks) _ c.in-Err.why _ _ c.complain.result (failed c.in-Err.why _ c.in-Err.ensures c.in_default.not-NoMemory)
      (check_unreadable _) c.complain.ensures.cut;
  write = c.complain.ensures.write;
}
