use Rattle.std.proofs.Common.{ap}
use Rattle.std.proofs.lemmas.Result.{IfOk-weaker}
use Rattle.std.specs.Prelude.{Some}
use Rattle.mh_report.specs.BySeal.{started}
use Rattle.mh_report.proofs.sealed_play.play_ready.Goals as goal

pub returns-clause-written : goal.returns-clause-written
returns-clause-written g c =
    let begun = started c.args.seal c.args.ready.groups c.args.mjd in
    let way = IfOk-weaker c.start-started.result _ _ (λ e so. ap Some so) c.start-started.ensures.seal in
    rw (c.as_slice.ensures) at (c.play_started.ensures.written (Some c.args.seal) begun way (rw (c.into_vec.ensures) at c.start-started.ensures.started))

pub returns-clause-begun : goal.returns-clause-begun
returns-clause-begun g c =
    let begun = started c.args.seal c.args.ready.groups c.args.mjd in
    let way = IfOk-weaker c.start-started.result _ _ (λ e so. ap Some so) c.start-started.ensures.seal in
    rw (c.as_slice.ensures) at (c.play_started.ensures.begun (Some c.args.seal) begun way (rw (c.into_vec.ensures) at c.start-started.ensures.started))
