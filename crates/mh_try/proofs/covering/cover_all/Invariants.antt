use Rattle.std.proofs.Common.{◌≡◌, drop, map}
use Rattle.mh_try.specs.Tried.{cover_all}
use Rattle.mh_try.proofs.covering.cover_all.Given as goal

abbrev pub invariant-loop-script : goal.invariant-loop-script
invariant-loop-script l =
    cover_all l.chosen l.files l.tags (map (λ script. script.items) (drop l.script-index l.scripts)) l.covered
    ≡ cover_all l.chosen l.files l.tags (map (λ script. script.items) l.scripts) l.initial.covered
