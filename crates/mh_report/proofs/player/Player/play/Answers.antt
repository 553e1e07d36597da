use Rattle.std.proofs.Common.{◌∙◌}
use Rattle.mh_report.proofs.PlayLemmas.{played-item, cut-item, cut-last, on_err}
use Rattle.mh_report.proofs.player.Player.play.Goals as goal

pub returns-in_err-obey-clause-cut : goal.returns-in_err-obey-clause-cut
returns-in_err-obey-clause-cut g c = on_err _ _ (cut-item _ _ _ _ _ _ _ _ c.loop-command.invariant.0 c.loop-command-test.true c.command-item.is c.in_err-obey.ensures.cut)

pub loop-command-preserved : goal.loop-command-preserved
loop-command-preserved g c = (played-item _ _ _ _ _ _ _ _ _ c.loop-command.invariant.0 c.loop-command-test.true c.command-item.is c.in_ok-obey.ensures.done c.in_ok-obey.ensures.whole, c.in_ok-obey.ensures.good ∙ c.loop-command.invariant.1)

pub returns-in_err-write_all-clause-cut : goal.returns-in_err-write_all-clause-cut
returns-in_err-write_all-clause-cut g c = on_err _ _ (cut-last _ _ _ _ _ _ _ _ c.loop-command.invariant.0 c.loop-command-test.false (c.as_slice.ensures ∙ c.in_ok-text.ensures) c.in_err-write_all.ensures.cut)
