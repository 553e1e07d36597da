-- The kinds of refusals: their numbers, and the reasons that they stand for.
use Rattle.std.specs.Prelude.{ℕ, Bool, true, false, Option, Some, None}
use Rattle.mh_model.specs.declared.fault.Reason.{Reason}
use Rattle.mh_model.specs.declared.fault.Reason.TheVariants as reason
use Rattle.mh_model.specs.Faults.{Ranking}
use Rattle.mh_verify.specs.declared.refusal.RefusalKind.{RefusalKind}
use Rattle.mh_verify.specs.declared.refusal.RefusalKind.TheVariants as kind

abbrev pub kind_number : RefusalKind → Option ℕ
kind_number kind.AbsentObject = Some 1
kind_number kind.WrongClass = Some 2
kind_number kind.WrongKind = Some 3
kind_number kind.HeldAbsent = Some 4
kind_number kind.HeldWrongClass = Some 5
kind_number kind.Cycle = Some 6
kind_number kind.TimerThroughVariable = Some 7
kind_number (kind.TooManySteps k) = Some 8
kind_number kind.WrongCall = Some 9
kind_number kind.NoMemory = None

-- by the reason, and by whether the place came to the reference through a variable or a list
abbrev pub kind_of : Reason → Bool → RefusalKind
kind_of reason.Absent false = kind.AbsentObject
kind_of reason.Absent true = kind.HeldAbsent
kind_of reason.WrongClass false = kind.WrongClass
kind_of reason.WrongClass true = kind.HeldWrongClass
kind_of reason.WrongKind held = kind.WrongKind
kind_of reason.TimerHeld held = kind.TimerThroughVariable
kind_of reason.Misfit held = kind.WrongCall

-- how late something is named: by the number of its refusal
abbrev pub reason_number : Ranking
reason_number w held = kind_number (kind_of w held)
