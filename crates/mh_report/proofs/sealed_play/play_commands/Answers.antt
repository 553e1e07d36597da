use Rattle.std.specs.Prelude.{refl}
use Rattle.mh_report.specs.BySeal.{commanded}
use Rattle.mh_report.specs.Presets.{begins, presets}
use Rattle.mh_report.proofs.SealedPlayLemmas.{commanded_cut, commanded_whole, unread_cut, unread_whole}
use Rattle.mh_report.proofs.sealed_play.play_commands.Goals as goal

pub returns-in-Ok-clause-written : goal.returns-in-Ok-clause-written
returns-in-Ok-clause-written g c =
    let k = g.E.Playable.seal c.args.engine in
    let s = g.E.Playable.state c.args.engine in
    let play = begins k (presets c.args.contents.now s) in
    λ r gives. commanded_whole k c.args.contents.now s c.args.commands c.in-Ok.commands c.as_slice.result.now r _ _ c.play_on.result c.in-Ok.is c.as_slice.ensures gives
    (c.play_on.ensures.report play c.with_files.ensures.opened) (c.play_on.ensures.status play c.with_files.ensures.opened)

pub returns-in-Ok-clause-begun : goal.returns-in-Ok-clause-begun
returns-in-Ok-clause-begun g c =
    let k = g.E.Playable.seal c.args.engine in
    let s = g.E.Playable.state c.args.engine in
    let play = begins k (presets c.args.contents.now s) in
    λ r gives. commanded_cut k c.args.contents.now s c.args.commands c.in-Ok.commands c.as_slice.result.now r _ _ c.play_on.result c.in-Ok.is c.as_slice.ensures gives
    (c.play_on.ensures.cut play c.with_files.ensures.opened)

pub returns : goal.returns
returns g c =
    let told = commanded (g.E.Playable.seal c.args.engine) c.args.contents.now (g.E.Playable.state c.args.engine) in
    record {
      written = λ r gives. unread_whole (λ x. x) told c.args.commands r c.in-Err.why _ _ c.complain.result refl c.in-Err.is c.in_default.not-NoMemory gives
          c.complain.ensures.report c.complain.ensures.status;
      begun = λ r gives. unread_cut (λ x. x) told c.args.commands r c.in-Err.why _ _ c.complain.result refl c.in-Err.is c.in_default.not-NoMemory gives c.complain.ensures.cut;
      write = c.complain.ensures.write;
    }
