use Rattle.std.specs.Prelude.{◌++◌}
use Rattle.std.proofs.Common.{ap, ◌∙◌}
use Rattle.std.proofs.lemmas.List.{append_assoc}
use Rattle.mh_model.specs.Step.{step}
use Rattle.mh_machine.specs.Rest.{answer_of}
use Rattle.mh_trace.specs.Head.{first, head_by}
use Rattle.mh_trace.specs.Outcome.{is_fault}
use Rattle.mh_trace.specs.Trace.{Tracing, noted, seen_of, settled_text, told_line, traced_by}
use Rattle.mh_trace.proofs.tracer.Tracer.step_told.Goals as goal

pub returns-clause-line : goal.returns-clause-line
returns-clause-line c =
    let i = c.args.front.now in
    let s = c.self.inside.machine in
    let ps = c.self.inside.places.items in
    let ws = c.self.inside.directory in
    let f = c.args.form in
    c.in_ok-settle.ensures.line
    ∙ (λ j. c.in_ok-put_head.ensures j ++ settled_text f (c.in_ok-seen.ensures j) (c.in_ok-answer.ensures.answer j) (c.in_ok-answer.ensures.step j))
    ∙ append_assoc c.args.text.now (head_by f ws i (first s) s ps) (settled_text f (seen_of i s ps) (answer_of s) (step s))
    ∙ ap (λ (q : Tracing). c.args.text.now ++ told_line f i q) c.self.view_is

pub returns-clause-left : goal.returns-clause-left
returns-clause-left c =
    let i = c.args.front.now in
    let s = c.self.inside.machine in
    let behind : Tracing = record {
      state = step s;
      places = c.self.inside.places.items;
      done = c.self.inside.done.keys;
      entered = c.self.inside.entered.keys;
      faulted = c.self.inside.faulted.items;
      directory = c.self.inside.directory;
    } in
    c.in_ok-settle.ensures.left
    ∙ (λ j. noted i (c.in_ok-seen.ensures j).marks (is_fault (c.in_ok-answer.ensures.answer j)) (record behind { state = c.in_ok-answer.ensures.step j }))
    ∙ ap (λ (q : Tracing). traced_by i q) c.self.view_is
