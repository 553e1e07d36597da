use Rattle.std.specs.Prelude.{◌≡◌, ◌++◌, drop}
use Rattle.mh_trace.specs.Trace.{traced_all}
use Rattle.redplay_page.specs.Playing.{commands_text}
use Rattle.redplay_page.proofs.obeying.tell_all.Given as goal

-- what is told so far, and the commands that are left
abbrev pub invariant-loop-command : goal.invariant-loop-command
invariant-loop-command l =
    (l.text ++ commands_text l.telling (drop l.command-index l.commands) l.tracer ≡ l.initial.text ++ commands_text l.telling l.commands l.initial.tracer) ×
    (traced_all (drop l.command-index l.commands) l.tracer ≡ traced_all l.commands l.initial.tracer)
