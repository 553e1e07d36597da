-- What is said of the service that some files make: they make none, the verifier refuses it, or it accepts it with its
-- bounds; and the lines that `redplay check` prints then.
use Rattle.std.specs.Prelude.{◌≡◌, ℕ, List, [], Result, Ok, Err}
use Rattle.mh_model.specs.Service.{Service}
use Rattle.mh_flow.specs.Equipment.{equipped}
use Rattle.mh_told.specs.declared.unplayable.Unplayable.{Unplayable}
use Rattle.mh_verdict.specs.Lines.{accepted_lines, complaint, refusal_lines}
use Rattle.mh_verify.specs.Free.{IsVerified}
use Rattle.mh_verify.specs.Order.{Names}
use Rattle.mh_why.specs.declared.verdict.Verdict.{Verdict}
use Rattle.mh_why.specs.declared.verdict.Verdict.TheVariants as verdict

-- the verdict on what files were read as: a refusal names what comes first, and bounds are those of the service with the
-- built-in programs
abbrev pub IsVerdictOn : Result Service Unplayable → Verdict → Type 0
IsVerdictOn read (verdict.Unreadable why) = read ≡ Err why
IsVerdictOn read (verdict.Refused refusal) = (s : Service) × (read ≡ Ok s) × Names s [] refusal
IsVerdictOn read (verdict.Accepted b) = (s : Service) × (read ≡ Ok s) × IsVerified (record { service = equipped s []; bounds = b })

-- all lines on a verdict
abbrev pub verdict_lines : Verdict → List ℕ
verdict_lines (verdict.Unreadable why) = complaint why
verdict_lines (verdict.Refused refusal) = refusal_lines refusal
verdict_lines (verdict.Accepted b) = accepted_lines b
