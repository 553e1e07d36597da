-- What is written for files and a script. They are read, or one line says what cannot be read; the verifier
-- is asked, or not; the content files are put there, or one line says which is refused; and then the script is played
-- on the service that the files make.
use Rattle.std.specs.Prelude.{◌≡◌, ℕ, Bool, false, List, [], ◌∷◌, ◌++◌, Option, Result, Ok, Err, codes}
use Rattle.std.specs.Fmt.{decimal}
use Rattle.mh_laws.specs.Budget.{IsAccepted}
use Rattle.mh_model.specs.Service.{Service}
use Rattle.mh_verify.specs.declared.refusal.Refusal.{Refusal}
use Rattle.mh_verify.specs.Free.{IsVerified, Verified, most_cost}
use Rattle.mh_verify.specs.Order.{Names}
use Rattle.mh_report.specs.declared.material.Material.{Material}
use Rattle.mh_script.specs.declared.script.Command.{Command}
use Rattle.mh_report.specs.declared.status.Status.{Status}
use Rattle.mh_report.specs.declared.status.Status.TheVariants as status
use Rattle.mh_told.specs.declared.unplayable.Unplayable.{Unplayable}
use Rattle.mh_told.specs.declared.unplayable.Unplayable.TheVariants as unplayable
use Rattle.std.specs.Io.KnownBytes.{Appends}
use Rattle.mh_report.specs.Sink.{IsBeginning}
use Rattle.mh_verdict.specs.Lines.{accepted_lines, complaint, refusal_lines}
use Rattle.mh_report.specs.Report.{Session, script_lines, ended, status_of}
use Rattle.mh_report.specs.Presets.{opened}

-- what is written of a play from here: the report of the commands, or the line on a file that is not put there
abbrev pub play_lines : List Command → Result Session Unplayable → List ℕ
play_lines cs (Ok p) = script_lines cs p
play_lines cs (Err e) = complaint e

-- and how it ends
abbrev pub play_status : List Command → Result Session Unplayable → Status
play_status cs (Ok p) = status_of (ended cs p).state.faults
play_status cs (Err e) = status.Unreadable

-- What is written of what was read, and how it ends, where the machine begins on this day. The verifier is asked,
-- unless a lenient play is wanted; the files are put there only then.
pub data Plays (mjd : ℕ) (lenient : Bool) : Result Material Unplayable → List ℕ → Status → Type 0 where
  play_unreadable : (e : Unplayable) → Plays mjd lenient (Err e) (complaint e) status.Unreadable
  play_refused : (m : Material) (r : Refusal) → lenient ≡ false → Names m.service [] r →
      Plays mjd lenient (Ok m) (refusal_lines r) status.Refused
  play_done : (m : Material) → (lenient ≡ false → IsAccepted most_cost m.service) →
      Plays mjd lenient (Ok m) (play_lines m.commands (opened m.service mjd m.files))
      (play_status m.commands (opened m.service mjd m.files))

-- What is written of a service that is refused, and how it ends.
pub data Refuses (s : Service) : List ℕ → Status → Type 0 where
  refuses : (r : Refusal) → Names s [] r → Refuses s (refusal_lines r) status.Refused

-- What is written of a service that is checked, and how it ends.
pub data Checks : Result Service Unplayable → List ℕ → Status → Type 0 where
  check_unreadable : (e : Unplayable) → Checks (Err e) (complaint e) status.Unreadable
  check_refused : (s : Service) (r : Refusal) → Names s [] r → Checks (Ok s) (refusal_lines r) status.Refused
  check_accepted : (a : Verified) → IsVerified a → Checks (Ok a.service) (accepted_lines a.bounds) status.Good

-- the sink has taken a whole report that is meant, with this status
pub record HasWritten (Means : List ℕ → Status → Type 0) (before after : Option (List ℕ)) (how : Status) : Type 0 where
  pub report : List ℕ
  pub meant : Means report how
  pub taken : Appends before after report

-- the sink has taken nothing, or a beginning of a report that is meant
pub data HasBegun (Means : List ℕ → Status → Type 0) (before after : Option (List ℕ)) : Type 0 where
  begun_nothing : after ≡ before → HasBegun Means before after
  begun_some : (report : List ℕ) (how : Status) → Means report how → IsBeginning before after report → HasBegun Means before after
