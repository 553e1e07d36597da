-- What is found never happens.
use Rattle.std.specs.Prelude.{◌≡◌, ℕ, Bool, false, List, Some}
use Rattle.mh_model.specs.Service.{Service}
use Rattle.mh_model.specs.State.{State}
use Rattle.mh_laws.specs.Budget.{IsAccepted}
use Rattle.mh_laws.specs.Each.{Each}
use Rattle.mh_never.specs.Firing.{IsUnput}
use Rattle.mh_laws.specs.Safe.{config_of}
use Rattle.mh_flow.specs.Index.{is_entered}
use Rattle.mh_alive.specs.Alive.{Alive, InEachRun, IsAliveOf, IsDeafAt, IsStill, IsUnsaid}
use Rattle.mh_lint.specs.declared.finding.Finding.{Finding}
use Rattle.mh_lint.specs.declared.finding.Finding.TheVariants as finding
use Rattle.mh_lint.specs.Findings.{findings}

-- the group is neither the application nor the scene
abbrev pub IsOutside : List ℕ → State → Type 0
IsOutside g s = is_entered (config_of s) g ≡ false

-- In no state of any run is the group entered; is the object running; does the event come; does an event that may be dealt with
-- next put the link to work, unless it does nothing; or does the link hear what can come next.
abbrev pub NeverHappens : (most : ℕ) (v : Service) → IsAccepted most v → Finding → Type 0
NeverHappens most v k (finding.Unreached r) = InEachRun v (IsOutside r.group)
NeverHappens most v k (finding.Idle r) = InEachRun v (IsStill r)
NeverHappens most v k (finding.Unsaid r kind x) = InEachRun v (IsUnsaid kind (Some x))
NeverHappens most v k (finding.Unput r) = InEachRun v (IsUnput r)
NeverHappens most v k (finding.Deaf r) = InEachRun v (IsDeafAt v r)

-- THE LAW. What is found of an accepted service, be it a root or what follows from one, happens in no run of it.
abbrev pub FindingsNeverHappen : Type 0
FindingsNeverHappen =
    (most : ℕ) (v : Service) (k : IsAccepted most v) (a : Alive) → IsAliveOf v k.flow a →
    (all : Bool) → Each (NeverHappens most v k) (findings all v (k.flow).configs a)
