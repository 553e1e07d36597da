use Rattle.std.specs.Prelude.{◌≡◌, ◌+◌, ◌++◌, List, drop, filter, map}
use Rattle.std.proofs.Common.{rules, ap, ◌∙◌}
use Rattle.mh_model.specs.declared.event.Event.{Event}
use Rattle.mh_model.specs.declared.input.Input.TheVariants as input
use Rattle.mh_model.specs.declared.input.Waiting.{Waiting}
use Rattle.mh_model.specs.declared.input.Waiting.TheVariants as waiting
use Rattle.mh_model.specs.State.{all}
use Rattle.mh_model.specs.Step.{is_streaming, stream_event, taking}
use Rattle.mh_machine.specs.Taking.{shifted}
use Rattle.mh_machine.specs.Working.{Working}
use Rattle.mh_machine.proofs.TimeLemmas.{told_as}
use Rattle.mh_machine.proofs.works.Works.take_stream.Goals as goal

pub returns-clause-done : goal.returns-clause-done
returns-clause-done c =
    let behind : List Waiting = drop 1 c.self.inside.agenda.queue in
    let events : c.in_ok-events.events.items ≡ map (stream_event c.args.tag) (filter is_streaming (all c.self.inside.stage.objects)) = search rules in
    let queue = c.in_ok-take_for.ensures.taken ∙ ap (λ (es : List Event). behind ++ map waiting.Event es) events
    ∙ ap (λ (ws : List Waiting). behind ++ ws) (told_as (stream_event c.args.tag) (filter is_streaming (all c.self.inside.stage.objects))) in
    let timers = c.in_ok-take_for.ensures.timers in
    let moments = c.in_ok-take_for.ensures.moments in
    (λ i. record {
      service = c.self.inside.service;
      application = c.self.inside.application;
      scene = c.self.inside.scene;
      objects = c.self.inside.stage.objects;
      stack = c.self.inside.stage.stack;
      interaction = c.self.inside.interaction;
      timers = timers i;
      queue = queue i;
      work = c.self.inside.work.items;
      moments = moments i;
      transition = c.self.inside.transition;
      late = c.self.inside.late.items;
      ended = c.self.inside.ended;
      locks = c.self.inside.locks;
      frozen = c.self.inside.frozen;
      taken = c.self.inside.taken + 1;
      faults = c.self.inside.faults.items;
      files = c.self.inside.carousel.files;
      waits = c.self.inside.carousel.waits;
      mjd = c.self.inside.mjd;
      said = c.self.inside.said;
    }) ∙ ap (λ (v : Working). taking (waiting.Input (input.Stream c.args.tag)) (shifted v.state)) c.self.view_is
