use Rattle.mh_report.specs.Played.{Plays, play_unreadable}
use Rattle.mh_report.proofs.WrittenLemmas.{unreadable_whole, unreadable_cut, failed}
use Rattle.mh_report.proofs.PlainLemmas.{plain_material}
use Rattle.mh_report.proofs.play.play_bytes.Goals as goal

pub play_ready-requires-clause-plain : goal.play_ready-requires-clause-plain
play_ready-requires-clause-plain g c =
    plain_material c.args.options.now c.args.files.now c.args.script.now c.in-Ok.material c.in-Ok.ensures

pub returns : goal.returns
returns g c = record {
  written = unreadable_whole (Plays c.args.options.now.mjd c.args.options.now.lenient) _ c.in-Err.why _ _ c.complain.result
      (failed c.in-Err.why _ c.in-Err.ensures c.in_default.not-NoMemory) (play_unreadable _) c.complain.ensures.report c.complain.ensures.status;
  begun = unreadable_cut (Plays c.args.options.now.mjd c.args.options.now.lenient) _ c.in-Err.why _ _ c.complain.result
      (failed c.in-Err.why _ c.in-Err.ensures c.in_default.not-NoMemory) (play_unreadable _) c.complain.ensures.cut;
  write = c.complain.ensures.write;
}
