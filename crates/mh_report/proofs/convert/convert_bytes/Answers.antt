-- What is written is what is meant, whether the file is converted or not.
use Rattle.mh_report.specs.Converted.{Converts, convert_unreadable}
use Rattle.mh_report.proofs.WrittenLemmas.{unreadable_whole, unreadable_cut, failed}
use Rattle.mh_report.proofs.ConvertLemmas.{converted_whole, converted_cut}
use Rattle.mh_report.proofs.convert.convert_bytes.Goals as goal

pub returns-in-Ok-clause-written : goal.returns-in-Ok-clause-written
returns-in-Ok-clause-written g c = converted_whole _ _ _ c.as_slice.result.now _ c.hand_out.result c.in-Ok.ensures c.as_slice.ensures.value c.hand_out.ensures.report c.hand_out.ensures.status

pub returns-in-Ok-clause-begun : goal.returns-in-Ok-clause-begun
returns-in-Ok-clause-begun g c = converted_cut _ _ _ c.as_slice.result.now _ c.hand_out.result c.in-Ok.ensures c.as_slice.ensures.value c.hand_out.ensures.cut

pub returns : goal.returns
returns g c = record {
  written = unreadable_whole (Converts) _ c.in-Err.why _ _ c.complain.result
      (failed c.in-Err.why _ c.in-Err.ensures c.in_default.not-NoMemory) (convert_unreadable _) c.complain.ensures.report c.complain.ensures.status;
  begun = unreadable_cut (Converts) _ c.in-Err.why _ _ c.complain.result
      (failed c.in-Err.why _ c.in-Err.ensures c.in_default.not-NoMemory) (convert_unreadable _) c.complain.ensures.cut;
  write = c.complain.ensures.write;
}
