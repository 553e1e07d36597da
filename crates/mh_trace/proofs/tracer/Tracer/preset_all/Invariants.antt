use Rattle.std.proofs.Common.{◌≡◌, ◌++◌, drop}
use Rattle.mh_trace.specs.Trace.{preset_all, presets_text}
use Rattle.mh_trace.proofs.tracer.Tracer.preset_all.Given as goal

abbrev pub invariant-loop-file : goal.invariant-loop-file
invariant-loop-file l =
    (l.text ++ presets_text l.telling (drop l.file-index l.files) l.self ≡ l.initial.text ++ presets_text l.telling l.files l.initial.self)
    × (preset_all (drop l.file-index l.files) l.self ≡ preset_all l.files l.initial.self)
