use Rattle.std.specs.Prelude.{◌≡◌, ◌++◌, drop}
use Rattle.std.specs.List.{flat_map}
use Rattle.redplay_c.specs.Calls.{file_line}
use Rattle.redplay_c.proofs.awaiting.put_files.Given as goal

-- what is put, and the lines that are left, are the lines of all names
abbrev pub invariant-loop-name : goal.invariant-loop-name
invariant-loop-name l = l.text ++ flat_map file_line (drop l.name-index l.names) ≡ l.initial.text ++ flat_map file_line l.names
