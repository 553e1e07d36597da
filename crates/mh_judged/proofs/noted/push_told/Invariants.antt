use Rattle.std.proofs.Common.{◌≡◌, ◌++◌, drop}
use Rattle.std.specs.List.{flat_map}
use Rattle.mh_judged.specs.Accepted.{told_note}
use Rattle.mh_judged.proofs.noted.push_told.Given as goal

abbrev pub invariant-loop-note : goal.invariant-loop-note
invariant-loop-note l =
    l.found.items ++ flat_map (told_note l.allowed l.service l.folder l.grounds) (drop l.note-index l.notes)
    ≡ l.initial.found.items ++ flat_map (told_note l.allowed l.service l.folder l.grounds) l.notes
