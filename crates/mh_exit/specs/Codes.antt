-- The exit status that tells how a program ended.
use Rattle.std.specs.Prelude.{ℕ}
use Rattle.mh_exit.specs.declared.Exit.{Exit}
use Rattle.mh_exit.specs.declared.Exit.TheVariants as exit

abbrev pub code_of : Exit → ℕ
code_of exit.Good = 0
code_of exit.Otherwise = 1
code_of exit.Unreadable = 2
code_of exit.Faults = 3
code_of exit.Failed = 4
