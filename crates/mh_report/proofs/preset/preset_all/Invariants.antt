use Rattle.std.specs.Prelude.{◌≡◌, drop}
use Rattle.mh_report.specs.Presets.{presets}
use Rattle.mh_report.proofs.preset.preset_all.Given as goal

abbrev pub invariant-loop-file : goal.invariant-loop-file
invariant-loop-file g l =
    (presets (drop l.file-index l.files) (g.E.Playable.state l.engine) ≡ presets l.files (g.E.Playable.state l.initial.engine))
    × (g.E.Playable.seal l.engine ≡ g.E.Playable.seal l.initial.engine)
