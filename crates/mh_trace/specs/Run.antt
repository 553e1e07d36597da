-- What is traced is the run of the machine: the commands of a script, as `mh_model` plays them.
use Rattle.std.specs.Prelude.{◌≡◌, ℕ, ◌-◌, nat_le, nat_lt, if◌then◌else◌, List, [], ◌∷◌}
use Rattle.mh_model.specs.State.{State}
use Rattle.mh_model.specs.Step.{advanced, posted}
use Rattle.mh_script.specs.declared.script.Command.{Command}
use Rattle.mh_script.specs.declared.script.Command.TheVariants as command
use Rattle.mh_trace.specs.Trace.{Tracing, traced, traced_all}

-- what a command makes of a state
abbrev pub commanded : Command → State → State
commanded (command.Post i) s = posted i s
commanded (command.Step n) s = advanced n s
commanded command.Show s = s

-- and what all commands do
abbrev pub commanded_all : List Command → State → State
commanded_all [] s = s
commanded_all (c ∷ cs) s = commanded_all cs (commanded c s)

-- whatever was traced before, the machine is where the commands lead
abbrev pub TracesAreRuns : Type 0
TracesAreRuns = (cs : List Command) (p : Tracing) → (traced_all cs p).state ≡ commanded_all cs p.state

-- Up to so many steps in all: a command that leads past them makes fewer, and those behind it are not done.

abbrev pub least : ℕ → ℕ → ℕ
least n m = if nat_lt n m then n else m

abbrev pub up_to : ℕ → Command → Command
up_to n (command.Step m) = command.Step (least n m)
up_to n c = c

abbrev pub commanded_until : ℕ → Command → State → State
commanded_until n c s = if nat_le n s.taken then s else commanded (up_to (n - s.taken) c) s

-- THE STATE OF THE RUN behind so many steps
abbrev pub state_at : ℕ → List Command → State → State
state_at n [] s = s
state_at n (c ∷ cs) s = state_at n cs (commanded_until n c s)

-- the same of what is traced

abbrev pub traced_until : ℕ → Command → Tracing → Tracing
traced_until n c p = if nat_le n p.state.taken then p else traced (up_to (n - p.state.taken) c) p

abbrev pub all_until : ℕ → List Command → Tracing → Tracing
all_until n [] p = p
all_until n (c ∷ cs) p = all_until n cs (traced_until n c p)

-- whatever was traced before, a machine that is traced so far is where the run is
abbrev pub TracesStandInRuns : Type 0
TracesStandInRuns = (n : ℕ) (cs : List Command) (p : Tracing) → (all_until n cs p).state ≡ state_at n cs p.state
