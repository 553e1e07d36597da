-- What both notations can hold.
use Rattle.std.specs.Prelude.{ℕ}

-- the most members of one written list
abbrev pub longest_list : ℕ
longest_list = 4096

-- the most bytes of one file
abbrev pub largest_file : ℕ
largest_file = 1048576
