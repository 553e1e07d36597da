-- The headline: from an acceptable service nothing ever goes wrong.
use Rattle.std.specs.Prelude.{◌≡◌, ℕ, List, [], None}
use Rattle.mh_model.specs.declared.file.File.{File}
use Rattle.mh_model.specs.declared.input.Move.{Move}
use Rattle.mh_model.specs.declared.program.Signature.{Signature}
use Rattle.mh_model.specs.Service.{Service}
use Rattle.mh_model.specs.State.{State, begun}
use Rattle.mh_model.specs.Stuck.{front_fault}
use Rattle.mh_model.specs.Receiver.{IsRun, anything}
use Rattle.mh_model.specs.Step.{run}
use Rattle.mh_laws.specs.Acceptable.{IsAcceptable}

-- no item is stuck, and none was
pub record IsFaultless (s : State) : Type 0 where
  pub front : front_fault s ≡ None
  pub faults : s.faults ≡ []

-- the state from which a run begins with these files there
abbrev pub begun_with : Service → ℕ → List File → State
begun_with v mjd fs = record (begun v mjd) { files = fs }

-- from an acceptable service no state of any run is stuck, whatever the day, the files that are there, the moves,
-- the programs of the receiver and what comes of their calls
abbrev pub NeverStuck : Type 0
NeverStuck =
    (v : Service) → IsAcceptable v → (mjd : ℕ) (fs : List File) (ss : List Signature) (ms : List Move) (s : State) →
    IsRun ss anything ms (begun_with v mjd fs) s → IsFaultless s

-- without programs of the receiver's own a run leads where the definition of runs says, and nowhere else
abbrev pub RunsAlone : Type 0
RunsAlone =
    (ms : List Move) (s t : State) → (IsRun [] anything ms s t → t ≡ run ms s) × (t ≡ run ms s → IsRun [] anything ms s t)
