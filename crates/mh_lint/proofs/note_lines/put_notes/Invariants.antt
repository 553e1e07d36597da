use Rattle.std.proofs.Common.{◌≡◌, ◌++◌, drop}
use Rattle.mh_lint.specs.NoteLines.{notes_words}
use Rattle.mh_lint.proofs.note_lines.put_notes.Given as goal

abbrev pub invariant-loop-note : goal.invariant-loop-note
invariant-loop-note l =
    l.text ++ notes_words l.allowed l.service l.grounds (drop l.note-index l.notes)
    ≡ l.initial.text ++ notes_words l.allowed l.service l.grounds l.notes
