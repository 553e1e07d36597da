use Rattle.std.proofs.Common.{◌≡◌, ◌++◌, drop}
use Rattle.mh_trace.specs.Trace.{trace_text, traced_all}
use Rattle.mh_trace.proofs.tracer.Tracer.play.Given as goal

abbrev pub invariant-loop-command : goal.invariant-loop-command
invariant-loop-command l =
    (l.text ++ trace_text l.telling (drop l.command-index l.commands) l.self ≡ l.initial.text ++ trace_text l.telling l.commands l.initial.self)
    × (traced_all (drop l.command-index l.commands) l.self ≡ traced_all l.commands l.initial.self)
