-- The steps that are traced are those of the run.
use Rattle.std.specs.Prelude.{◌≡◌, ℕ, zero, suc, ◌-◌, ◌==◌, Bool, true, false, not, if◌then◌else◌, List, [], ◌∷◌, nat_le, refl}
use Rattle.std.proofs.Common.{ap, sym, ◌∙◌}
use Rattle.mh_model.specs.Limits.{most_steps}
use Rattle.mh_model.specs.State.{State}
use Rattle.mh_model.specs.Step.{advanced, is_settled, step, stepped}
use Rattle.mh_machine.proofs.StepLemmas.{advanced_still, stepped_settled}
use Rattle.mh_script.specs.declared.script.Command.{Command}
use Rattle.mh_script.specs.declared.script.Command.TheVariants as command
use Rattle.mh_trace.specs.Run.{all_until, commanded, commanded_all, commanded_until, state_at, traced_until, up_to}
use Rattle.mh_trace.specs.Trace.{Tracing, steps, traced, traced_all, traced_step}

-- where no step is made none changes anything
rests : (n : ℕ) (s : State) → stepped s ≡ s → s ≡ advanced n (stepped s)
rests n s still = sym (ap (advanced n) still ∙ advanced_still n s still)

-- one step more, by the two tests whether it is made
one_more : (n : ℕ) (p : Tracing) (settled full : Bool) → is_settled p.state ≡ settled → (p.state.taken == most_steps) ≡ full
    → ((q : Tracing) → (steps n q).state ≡ advanced n q.state)
    → (if (if settled then false else not full) then steps n (traced_step p) else p).state ≡ advanced n (stepped p.state)
one_more n p true full e f again = rests n p.state (stepped_settled p.state e)
one_more n p false true e f again =
    let still : stepped p.state ≡ p.state = rw f refl in
    rests n p.state still
one_more n p false false e f again =
    let made : stepped p.state ≡ step p.state = rw f refl in
    again (traced_step p) ∙ ap (advanced n) (sym made)

pub steps_run : (n : ℕ) (p : Tracing) → (steps n p).state ≡ advanced n p.state
unfolding advanced
steps_run zero p = refl
steps_run (suc n) p = one_more n p (is_settled p.state) (p.state.taken == most_steps) refl refl (steps_run n)

command_run : (c : Command) (p : Tracing) → (traced c p).state ≡ commanded c p.state
command_run (command.Post i) p = refl
command_run (command.Step n) p = steps_run n p
command_run command.Show p = refl

pub traces_run : (cs : List Command) (p : Tracing) → (traced_all cs p).state ≡ commanded_all cs p.state
traces_run [] p = refl
traces_run (c ∷ cs) p = traces_run cs (traced c p) ∙ ap (commanded_all cs) (command_run c p)

until_run : (n : ℕ) (c : Command) (p : Tracing) → (traced_until n c p).state ≡ commanded_until n c p.state
until_run n c p = by (nat_le n p.state.taken)
  where
    by : (b : Bool) → (if b then p else traced (up_to (n - p.state.taken) c) p).state ≡ (if b then p.state else commanded (up_to (n - p.state.taken) c) p.state)
    by true = refl
    by false = command_run (up_to (n - p.state.taken) c) p

pub all_until_run : (n : ℕ) (cs : List Command) (p : Tracing) → (all_until n cs p).state ≡ state_at n cs p.state
all_until_run n [] p = refl
all_until_run n (c ∷ cs) p = all_until_run n cs (traced_until n c p) ∙ ap (state_at n cs) (until_run n c p)
