-- The report of a play: the bytes that it writes, as a function of the machine's states.
use Rattle.std.specs.Prelude.{ℕ, ◌+◌, ◌-◌, List, [], ◌∷◌, ◌++◌, length, drop, Option, Some, None}
use Rattle.std.specs.List.{flat_map}
use Rattle.mh_model.specs.declared.fault.Fault.{Fault}
use Rattle.mh_model.specs.declared.input.Input.{Input}
use Rattle.mh_model.specs.Planes.{Planes, blank}
use Rattle.mh_model.specs.Picture.{shown}
use Rattle.mh_model.specs.State.{State}
use Rattle.mh_model.specs.Step.{advanced}
use Rattle.mh_engine.specs.Posts.{posts_of}
use Rattle.mh_machine.specs.Rest.{rest_of}
use Rattle.mh_machine.specs.Refusal.{refusal_number}
use Rattle.mh_machine.specs.declared.refusal.RefusedWhy.{RefusedWhy}
use Rattle.mh_seal.specs.declared.seal.Seal.{Seal}
use Rattle.mh_script.specs.declared.script.Command.{Command}
use Rattle.mh_script.specs.declared.script.Command.TheVariants as command
use Rattle.mh_exit.specs.Codes.{code_of}
use Rattle.mh_exit.specs.declared.Exit.{Exit}
use Rattle.mh_exit.specs.declared.Exit.TheVariants as exit
use Rattle.mh_report.specs.declared.status.Status.{Status}
use Rattle.mh_report.specs.declared.status.Status.TheVariants as status
use Rattle.mh_told.specs.Frame.{frame_text}
use Rattle.mh_told.specs.Told.{fault_line, refused_line, did_line, total_line}

-- what is known between two commands: the seal by which the engine goes, if it goes by one, the machine's
-- state, the frame that was shown last, and how many frames were shown
pub record Session : Type 0 where
  pub seal : Option Seal
  pub state : State
  pub frame : Planes
  pub frames : ℕ

-- before the first command: the machine is in this state, and the frame before the first one is black
abbrev pub opening : Option Seal → State → Session
opening k s = record { seal = k; state = s; frame = blank; frames = 0 }

-- what a command makes of the session
abbrev pub played : Command → Session → Session
played (command.Post i) p = record p { state = (posts_of p.seal).behind i p.state }
played (command.Step n) p = record p { state = advanced n p.state }
played command.Show p = record p { frame = shown p.state; frames = p.frames + 1 }

-- The lines.

abbrev pub number_line : Option ℕ → List ℕ
number_line None = []
number_line (Some n) = refused_line n

abbrev pub why_line : Option RefusedWhy → List ℕ
why_line None = []
why_line (Some why) = number_line (refusal_number why)

-- nothing is printed of a post that is taken
abbrev pub post_lines : Input → Session → List ℕ
post_lines i p = why_line ((posts_of p.seal).refusal i p.state)

-- what happened up to this state since there were so many steps and so many faults: the faults since
-- then, the steps, and whether there is more to do
abbrev pub progress_since : ℕ → ℕ → State → List ℕ
progress_since steps faults s =
    flat_map fault_line (drop faults s.faults) ++ did_line (s.taken - steps) (rest_of s)

-- what happened from one state to another
abbrev pub progress_lines : State → State → List ℕ
progress_lines s t = progress_since s.taken (length s.faults) t

-- what a command prints
abbrev pub command_lines : Command → Session → List ℕ
command_lines (command.Post i) p = post_lines i p
command_lines (command.Step n) p = progress_lines p.state (advanced n p.state)
command_lines command.Show p = frame_text (p.frames + 1) p.frame (shown p.state)

-- what the commands of a script print, and the steps taken at the end
abbrev pub script_lines : List Command → Session → List ℕ
script_lines [] p = total_line p.state.taken
script_lines (c ∷ cs) p = command_lines c p ++ script_lines cs (played c p)

-- the session after all commands
abbrev pub ended : List Command → Session → Session
ended [] p = p
ended (c ∷ cs) p = ended cs (played c p)

-- how a play ends: faults were met, or none was
abbrev pub status_of : List Fault → Status
status_of [] = status.Good
status_of (f ∷ fs) = status.Faults

-- how the program ends that has written it, and its exit status
abbrev pub exit_of : Status → Exit
exit_of status.Good = exit.Good
exit_of status.Refused = exit.Otherwise
exit_of status.Unreadable = exit.Unreadable
exit_of status.Faults = exit.Faults

abbrev pub exit_code : Status → ℕ
exit_code s = code_of (exit_of s)
