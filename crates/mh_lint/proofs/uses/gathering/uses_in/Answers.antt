use Rattle.std.proofs.Common.{◌≡◌, Ok, ◌∙◌}
use Rattle.mh_flow.proofs.ChartLemmas.{ok_of}
use Rattle.mh_lint.specs.Uses.{uses_of}
use Rattle.mh_lint.proofs.uses.gathering.uses_in.Goals as goal

pub returns-in-Ok : goal.returns-in-Ok
returns-in-Ok c =
    let all = uses_of c.args.objects.now c.args.acts.now in
    let parts = c.in-Ok.parts in
    let held = c.in-Ok.ensures.held in
    let changed = ok_of c.both.result parts.0 (λ x. (c.both-boxes.result ≡ Ok x.0) × (c.both-words.result ≡ Ok x.1)) held.0 c.both.ensures.held in
    let other = ok_of c.both-other.result parts.1 (λ x. (c.both-inputs.result ≡ Ok x.0) × (c.timers_of.result ≡ Ok x.1)) held.1 c.both-other.ensures.held in
    let boxes = ok_of c.both-boxes.result parts.0.0 (λ x. (c.moved_of.result ≡ Ok x.0) × (c.changed_of.result ≡ Ok x.1)) changed.0 c.both-boxes.ensures.held in
    let words = ok_of c.both-words.result parts.0.1 (λ x. (c.changed_of-2.result ≡ Ok x.0) × (c.changed_of-3.result ≡ Ok x.1)) changed.1 c.both-words.ensures.held in
    let inputs = ok_of c.both-inputs.result parts.1.0 (λ x. (c.both-lives.result ≡ Ok x.0) × (c.changed_of-4.result ≡ Ok x.1)) other.0 c.both-inputs.ensures.held in
    let lives = ok_of c.both-lives.result parts.1.0.0 (λ x. (c.run_of.result ≡ Ok x.0) × (c.read_of.result ≡ Ok x.1)) inputs.0 c.both-lives.ensures.held in
    let moved = ok_of c.moved_of.result parts.0.0.0 (λ x. x ≡ all.moved) boxes.0 c.moved_of.ensures in
    let resized = ok_of c.changed_of.result parts.0.0.1 (λ x. x ≡ all.resized) boxes.1 c.changed_of.ensures in
    let reworded = ok_of c.changed_of-2.result parts.0.1.0 (λ x. x ≡ all.reworded) words.0 c.changed_of-2.ensures in
    let tinted = ok_of c.changed_of-3.result parts.0.1.1 (λ x. x ≡ all.tinted) words.1 c.changed_of-3.ensures in
    let run = ok_of c.run_of.result parts.1.0.0.0 (λ x. x ≡ all.run) lives.0 c.run_of.ensures in
    let read = ok_of c.read_of.result parts.1.0.0.1 (λ x. x ≡ all.read) lives.1 c.read_of.ensures in
    let touched = ok_of c.changed_of-4.result parts.1.0.1 (λ x. x ≡ all.touched) inputs.1 c.changed_of-4.ensures in
    let timers = ok_of c.timers_of.result parts.1.1 (λ x. x ≡ record { heard = all.heard; timed = all.timed }) other.1 c.timers_of.ensures in
    c.uses_with.ensures
    ∙ (λ i. record {
      moved = moved i;
      resized = resized i;
      reworded = reworded i;
      tinted = tinted i;
      run = run i;
      read = read i;
      touched = touched i;
      heard = (timers i).heard;
      timed = (timers i).timed;
      has_transition = c.has_transition.ensures i;
      has_unlock = c.has_unlock.ensures i;
    })
