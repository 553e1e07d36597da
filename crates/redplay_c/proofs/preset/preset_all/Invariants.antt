use Rattle.std.specs.Prelude.{◌≡◌, drop}
use Rattle.redplay_c.specs.Starts.{presets}
use Rattle.redplay_c.proofs.preset.preset_all.Given as goal

-- what is left to be put there, and nothing but the state changes
abbrev pub invariant-loop-file : goal.invariant-loop-file
invariant-loop-file l =
    (presets (drop l.file-index l.files) l.player.play.state ≡ presets l.files l.initial.player.play.state) ×
    (l.player ≡ record l.initial.player { play = record l.initial.player.play { state = l.player.play.state } })
