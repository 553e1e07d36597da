use Rattle.std.proofs.Common.{ap}
use Rattle.std.proofs.lemmas.Result.{IfOk-weaker}
use Rattle.mh_report.specs.Presets.{begins, presets}
use Rattle.mh_report.specs.Report.{Session}
use Rattle.mh_report.proofs.OpenedLemmas.{begun_player, unclaimed}
use Rattle.mh_report.proofs.SessionLemmas.{opened_as}
use Rattle.mh_report.proofs.player.Player.with_files.Goals as goal

pub returns-in_err-frame-clause-opened : goal.returns-in_err-frame-clause-opened
returns-in_err-frame-clause-opened g c =
    unclaimed (λ p. p) c.from_residual.result (begins (g.E.Playable.seal c.args.engine) (presets c.args.files.now (g.E.Playable.state c.args.engine)))
    c.from_residual.ensures.0 c.from_residual.ensures.1

pub returns-clause-opened : goal.returns-clause-opened
returns-clause-opened g c =
    let s = g.E.Playable.state c.preset_all-set.new.engine in
    begun_player (g.E.Playable.seal c.args.engine) c.preset_all-set.result c.once_set.result _ s _ c.preset_all-set.ensures.set c.preset_all-set.ensures.refused
    (opened_as _ _ s _ c.preset_all-set.ensures.same c.in_ok-frame.ensures) c.once_set.ensures.same c.once_set.ensures.good c.once_set.ensures.refused

pub returns-clause-fresh : goal.returns-clause-fresh
returns-clause-fresh g c = IfOk-weaker c.once_set.result _ _ (λ p e. ap (λ (x : Session). x.frames) e) c.once_set.ensures.same
