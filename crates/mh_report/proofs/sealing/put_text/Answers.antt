use Rattle.mh_report.proofs.SealingLemmas.{line_cut, line_whole, text_cut, text_whole}
use Rattle.mh_report.proofs.sealing.put_text.Goals as goal

pub returns-in-Ok-clause-written : goal.returns-in-Ok-clause-written
returns-in-Ok-clause-written g c =
    λ tags v meant. text_whole tags v c.args.text c.in-Ok.text c.as_slice.result.now _ _ c.hand_out.result c.in-Ok.is c.as_slice.ensures.value meant c.hand_out.ensures.report c.hand_out.ensures.status

pub returns-in-Ok-clause-begun : goal.returns-in-Ok-clause-begun
returns-in-Ok-clause-begun g c =
    λ tags v meant. text_cut tags v c.args.text c.in-Ok.text c.as_slice.result.now _ _ c.hand_out.result c.in-Ok.is c.as_slice.ensures.value meant c.hand_out.ensures.cut

pub returns : goal.returns
returns g c = record {
  written = λ tags v meant. line_whole tags v c.args.text c.in-Err.why _ _ c.complain.result c.in-Err.is c.in_default.not-NoMemory meant c.complain.ensures.report c.complain.ensures.status;
  begun = λ tags v meant. line_cut tags v c.args.text c.in-Err.why _ _ c.complain.result c.in-Err.is c.in_default.not-NoMemory meant c.complain.ensures.cut;
  write = c.complain.ensures.write;
}
