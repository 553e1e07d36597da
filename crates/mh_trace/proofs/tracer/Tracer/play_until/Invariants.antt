use Rattle.std.proofs.Common.{◌≡◌, drop}
use Rattle.mh_trace.specs.Run.{all_until}
use Rattle.mh_trace.proofs.tracer.Tracer.play_until.Given as goal

abbrev pub invariant-loop-command : goal.invariant-loop-command
invariant-loop-command l =
    all_until l.steps (drop l.command-index l.commands) l.self ≡ all_until l.steps l.commands l.initial.self
