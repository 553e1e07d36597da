use Rattle.mh_report.specs.declared.status.Status.TheVariants as status
use Rattle.mh_report.specs.BySeal.{PlaysBySeal, play_by_seal, play_no_seal, seal_line}
use Rattle.mh_report.proofs.WrittenLemmas.{begun_as, cut, whole, written_as}
use Rattle.mh_report.proofs.sealed_play.play_sealed_bytes.Goals as goal

pub returns-in-Ok-clause-written : goal.returns-in-Ok-clause-written
returns-in-Ok-clause-written g c =
    written_as _ _ _ _ _ (λ report how meant. play_by_seal c.in-Ok.seal c.in-Ok.ensures.found.0 c.in-Ok.ensures.found.1 report how meant) c.play_by.ensures.written

pub returns-in-Ok-clause-begun : goal.returns-in-Ok-clause-begun
returns-in-Ok-clause-begun g c =
    begun_as _ _ _ _ _ (λ report how meant. play_by_seal c.in-Ok.seal c.in-Ok.ensures.found.0 c.in-Ok.ensures.found.1 report how meant) c.play_by.ensures.begun

pub returns-in_default : goal.returns-in_default
returns-in_default g c =
    let Means = PlaysBySeal c.args.options.now c.args.files.now c.args.bytes.now c.args.script.now in
    let meant = play_no_seal c.in-Err.why c.in_default.not-NoMemory c.in-Err.ensures.refused in
    record {
      written = whole Means _ _ c.tell_seal.result (seal_line c.in-Err.why) status.Unreadable meant c.tell_seal.ensures.report c.tell_seal.ensures.status;
      begun = cut Means _ _ c.tell_seal.result (seal_line c.in-Err.why) status.Unreadable meant c.tell_seal.ensures.cut;
      write = c.tell_seal.ensures.write;
    }
