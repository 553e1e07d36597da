-- What a source has given, how its reads are counted, and what is had of it.
use Rattle.std.specs.Prelude.{◌≡◌, ℕ, ◌+◌, ◌<◌, ◌≤◌, ◌^◌, ◌⊎◌, max, List, length, take, Option, Some, None, IfSome, string_bytes}
use Rattle.std.specs.Io.KnownBytes.{Consumes, Keeps, IsAtEnd}
use Rattle.mh_base.specs.Limits.{largest_file}
use Rattle.mh_folder.specs.declared.tally.Tally.{Tally}
use Rattle.mh_folder.specs.declared.unread.Unread.{Unread}
use Rattle.mh_folder.specs.declared.unread.Unread.TheVariants.{File, NoMemory}

-- the most bytes of one file, and one more, by which a longer file is known
abbrev pub most_read : ℕ
most_read = 1048577

-- what a read into this room took from what was left: some bytes, none only at the end, or, where it failed, nothing
abbrev pub Gave : Option (List ℕ) → Option (List ℕ) → Option ℕ → List ℕ → Type 0
Gave before after None room = Keeps before after
Gave before after (Some n) room = Consumes before after (take n room) × (n ≡ 0 → IsAtEnd after)

-- the tally of a source that was not read yet
abbrev pub unread : Tally
unread = record { reads = 0; given = 0; asked = 0; faults = 0 }

-- the tally after one more read into so much room
abbrev pub after_read : Option ℕ → ℕ → Tally → Tally
after_read (Some n) room t = record t { reads = t.reads + 1; given = t.given + n; asked = max t.asked (t.given + room) }
after_read None room t = record t { reads = t.reads + 1; asked = max t.asked (t.given + room); faults = t.faults + 1 }

-- so many reads and bytes more can be counted
abbrev pub CanCount : Tally → ℕ → Type 0
CanCount t n = (t.reads + n < 2 ^ 64) × (t.given + n < 2 ^ 64) × (t.faults + n < 2 ^ 64)

-- at most so many more reads were made, and no byte was asked for behind so many more
abbrev pub IsFrugal : Tally → Tally → Type 0
IsFrugal before after = (after.reads ≤ before.reads + most_read) × (after.asked ≤ max before.asked (before.given + most_read))

-- these bytes were given, no others, and no read failed
abbrev pub HasGiven : Tally → Tally → List ℕ → Type 0
HasGiven before after bytes = (after.given ≡ before.given + length bytes) × (after.faults ≡ before.faults)

-- what is had of a source: all that it had, or its first bytes
abbrev pub IsHad : Option (List ℕ) → Option (List ℕ) → List ℕ → Type 0
IsHad before after bytes = Consumes before after bytes × (length bytes ≤ most_read) × (length bytes < most_read → IsAtEnd after)

-- one read failed, and the file is told by its name; or memory was refused, and none failed
abbrev pub IsFault : List ℕ → Tally → Tally → Unread → Type 0
IsFault name before after (File told) = (string_bytes told ≡ name) × (after.faults ≡ before.faults + 1)
IsFault name before after NoMemory = after.faults ≡ before.faults

-- more was given than a file may have, and no read failed
abbrev pub IsTooLong : Option (List ℕ) → Tally → Tally → Type 0
IsTooLong had before after = IfSome had (λ bytes. largest_file < length bytes) × (after.given ≡ before.given + most_read) × (after.faults ≡ before.faults)

-- a file that is told by its name has had a fault, or is too long; where memory was refused no read failed
abbrev pub IsRefused : List ℕ → Option (List ℕ) → Tally → Tally → Unread → Type 0
IsRefused name had before after (File told) = (string_bytes told ≡ name) × ((after.faults ≡ before.faults + 1) ⊎ IsTooLong had before after)
IsRefused name had before after NoMemory = after.faults ≡ before.faults
