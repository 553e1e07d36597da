-- Why words ask for no task.
use Rattle.std.specs.Prelude.{◌≡◌, ◌≢◌, [], Result, MatchResult}
use Rattle.clap.specs.Words.{IsAmong, Kinds, kind_of}
use Rattle.clap.specs.declared.error.Error.{Error}
use Rattle.clap.specs.declared.error.kind.ErrorKind.TheVariants.{OutOfMemory}
use Rattle.mh_command.specs.declared.no_task.NoTask.{NoTask}
use Rattle.mh_command.specs.declared.no_task.NoTask.TheVariants as no_task

-- clap's error, in which want of memory is told apart from what is said
abbrev pub IsToldAs : Error → NoTask → Type 0
IsToldAs error (no_task.Said said) = (said ≡ error) × (kind_of error ≢ OutOfMemory)
IsToldAs error no_task.NoMemory = kind_of error ≡ OutOfMemory

-- what is said is never want of memory
abbrev pub TellsNoMemory : NoTask → Type 0
TellsNoMemory (no_task.Said error) = kind_of error ≢ OutOfMemory
TellsNoMemory no_task.NoMemory = Unit {0}

-- what is said is of one of these kinds
abbrev pub IsOfKind : Kinds → NoTask → Type 0
IsOfKind kinds (no_task.Said error) = IsAmong (kind_of error) kinds
IsOfKind kinds no_task.NoMemory = Unit {0}

-- a task is asked for only where there is no such kind, and what is said has one of them
abbrev pub IsRefusedBy : {T : Type 0} → Kinds → Result T NoTask → Type 0
IsRefusedBy kinds r = MatchResult r (λ _. kinds ≡ []) (IsOfKind kinds)
