-- The lines of a report between its frames: what happened up to then.
use Rattle.std.specs.Prelude.{ℕ, List, [], ◌∷◌, ◌++◌, codes}
use Rattle.std.specs.Fmt.{decimal}
use Rattle.mh_group.specs.Words.{action_word}
use Rattle.mh_model.specs.declared.fault.Fault.{Fault}
use Rattle.mh_model.specs.declared.fault.FaultKind.{FaultKind}
use Rattle.mh_model.specs.declared.fault.FaultKind.TheVariants as fault
use Rattle.mh_model.specs.declared.rest.Rest.{Rest}
use Rattle.mh_model.specs.declared.rest.Rest.TheVariants as rest

abbrev pub fault_word : FaultKind → List ℕ
fault_word fault.Absent = codes "absent"
fault_word fault.WrongClass = codes "class"
fault_word fault.WrongKind = codes "kind"

-- a fault: what is wrong, the action, and the reference at the wrong place
unfoldable pub fault_line : Fault → List ℕ
fault_line f =
    codes "fault " ++ fault_word f.what ++ codes " " ++ action_word f.action ++ codes " " ++ f.at.group
    ++ codes " " ++ decimal f.at.number ++ 10 ∷ []

-- a post that is refused, with the number of why
unfoldable pub refused_line : ℕ → List ℕ
refused_line n = codes "refused " ++ decimal n ++ 10 ∷ []

abbrev pub rest_word : Rest → List ℕ
rest_word rest.Idle = codes " idle"
rest_word rest.More = codes " more"
rest_word rest.Ended = codes " ended"

-- how many steps were done, and what is left to do
unfoldable pub did_line : ℕ → Rest → List ℕ
did_line n left = codes "did " ++ decimal n ++ rest_word left ++ 10 ∷ []

-- how many steps were done in all, which ends a report
unfoldable pub total_line : ℕ → List ℕ
total_line n = codes "total " ++ decimal n ++ 10 ∷ []
