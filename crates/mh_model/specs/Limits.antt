-- How much there can be of each thing.
use Rattle.std.specs.Prelude.{ℕ}

-- the most figures of one drawing
abbrev pub most_drawings : ℕ
most_drawings = 256

-- the most files that are there at a time
abbrev pub most_files : ℕ
most_files = 1024

-- the most items of a list
abbrev pub most_items : ℕ
most_items = 256

-- the most inputs that wait; events are not counted
abbrev pub most_inputs : ℕ
most_inputs = 256

-- the most steps that are counted
abbrev pub most_steps : ℕ
most_steps = 18446744073709551615

-- the last moment there is
abbrev pub most_moment : ℕ
most_moment = 4294967295

-- the most octets of one string
abbrev pub most_octets : ℕ
most_octets = 65535

-- the most milliseconds of one tick
abbrev pub longest_tick : ℕ
longest_tick = 60000
