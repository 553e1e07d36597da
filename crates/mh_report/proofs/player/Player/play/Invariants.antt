use Rattle.std.proofs.Common.{◌≡◌}
use Rattle.mh_report.proofs.PlayLemmas.{IsPlayed}
use Rattle.mh_report.proofs.player.Player.play.Given as goal

abbrev pub invariant-loop-command : goal.invariant-loop-command
invariant-loop-command g l =
    IsPlayed l.commands l.command-index l.fn.self l.self (g.S.Sink.written l.initial.sink) (g.S.Sink.written l.sink)
    × (g.S.Sink.failures l.sink ≡ g.S.Sink.failures l.initial.sink)
