use Rattle.std.proofs.Common.{◌≡◌, drop}
use Rattle.mh_trace.specs.Run.{commanded_all}
use Rattle.mh_try.proofs.running.run_all.Given as goal

abbrev pub invariant-loop-command : goal.invariant-loop-command
invariant-loop-command l =
    commanded_all (drop l.command-index l.commands) l.machine ≡ commanded_all l.commands l.initial.machine
