use Rattle.std.specs.Prelude.{IfOk, OnErr, Result, refl}
use Rattle.std.proofs.Common.{subst, sym}
use Rattle.mh_told.specs.declared.unplayable.Unplayable.{Unplayable}
use Rattle.mh_report.specs.declared.by_seal.Ready.{Ready}
use Rattle.mh_report.specs.BySeal.{Is, told_by}
use Rattle.mh_report.specs.Played.{HasBegun, HasWritten}
use Rattle.mh_report.proofs.WrittenLemmas.{failed, unreadable_cut, unreadable_whole}
use Rattle.mh_report.proofs.sealed_play.play_by.Goals as goal

pub returns-in-Ok-clause-written : goal.returns-in-Ok-clause-written
returns-in-Ok-clause-written g c =
    subst (λ (r : Result Ready Unplayable). IfOk c.play_ready.result (HasWritten (Is (told_by c.args.seal c.args.options.now.mjd c.args.script.now r)) (g.S.Sink.written c.args.sink.now) (g.S.Sink.written c.play_ready.new.sink)))
    (sym c.in-Ok.ensures) c.play_ready.ensures.written

pub returns-in-Ok-clause-begun : goal.returns-in-Ok-clause-begun
returns-in-Ok-clause-begun g c =
    subst (λ (r : Result Ready Unplayable). OnErr c.play_ready.result (HasBegun (Is (told_by c.args.seal c.args.options.now.mjd c.args.script.now r)) (g.S.Sink.written c.args.sink.now) (g.S.Sink.written c.play_ready.new.sink)))
    (sym c.in-Ok.ensures) c.play_ready.ensures.begun

pub returns : goal.returns
returns g c =
    let told = λ (r : Result Ready Unplayable). told_by c.args.seal c.args.options.now.mjd c.args.script.now r in
    record {
      written = unreadable_whole (λ r. Is (told r)) _ c.in-Err.why _ _ c.complain.result (failed c.in-Err.why _ c.in-Err.ensures c.in_default.not-NoMemory)
          (refl, refl) c.complain.ensures.report c.complain.ensures.status;
      begun = unreadable_cut (λ r. Is (told r)) _ c.in-Err.why _ _ c.complain.result (failed c.in-Err.why _ c.in-Err.ensures c.in_default.not-NoMemory)
          (refl, refl) c.complain.ensures.cut;
      write = c.complain.ensures.write;
    }
