use Rattle.std.specs.Prelude.{◌≡◌, ◌+◌, ◌++◌, Bool, List, drop, filter, map}
use Rattle.std.proofs.Common.{rules, ap, ◌∙◌}
use Rattle.mh_model.specs.declared.event.Event.{Event}
use Rattle.mh_model.specs.declared.file.Wait.{Wait}
use Rattle.mh_model.specs.declared.input.Waiting.{Waiting}
use Rattle.mh_model.specs.declared.input.Waiting.TheVariants as waiting
use Rattle.mh_model.specs.Files.{arrived, waits_for, with_file}
use Rattle.mh_model.specs.Rules.{text_brought}
use Rattle.mh_model.specs.State.{Objects, all}
use Rattle.mh_model.specs.Step.{content_event, file_taken, is_waiting}
use Rattle.mh_machine.specs.Taking.{shifted}
use Rattle.mh_machine.specs.Working.{Working}
use Rattle.mh_base.specs.declared.obj_ref.ObjRef.{ObjRef}
use Rattle.mh_carousel.specs.Carried.{waiting_for}
use Rattle.mh_machine.specs.Marks.{is_meant}
use Rattle.mh_machine.proofs.TimeLemmas.{told_as}
use Rattle.mh_machine.proofs.WaitingLemmas.{waiting_is}
use Rattle.mh_machine.proofs.works.Works.take_file.Goals as goal

pub returns-clause-done : goal.returns-clause-done
returns-clause-done c =
    let name = c.args.file.now.name in
    let ws : List Wait = c.self.inside.carousel.waits in
    let meant = filter (is_waiting name ws) (all c.self.inside.stage.objects) in
    let found : c.as_slice.result.now ≡ waiting_for name ws = search rules in
    let told_to : c.as_slice-2.result.now ≡ waiting_for name ws = search rules in
    let there : c.objects.result.now ≡ c.self.inside.stage.objects = search rules in
    let objects = c.in_ok-bring_text.ensures.done ∙ ap (λ (p : ObjRef → Bool). text_brought p c.args.file.now.content c.self.inside.stage.objects) (waiting_is c.as_slice-2.result.now name ws told_to) in
    let events : c.in_ok-events.events.items ≡ map content_event meant =
    c.in_ok-events.ensures
    ∙ ap (λ (os : Objects). map content_event (filter (is_meant c.as_slice.result.now) (all os))) there
    ∙ ap (λ (p : ObjRef → Bool). map content_event (filter (λ o. p o.fixed.key) (all c.self.inside.stage.objects))) (waiting_is c.as_slice.result.now name ws found) in
    let queue : c.take_reserved.new.self.queue ≡ drop 1 c.self.inside.agenda.queue ++ map waiting.Event c.in_ok-events.events.items = search rules in
    let told = queue
    ∙ ap (λ (es : List Event). drop 1 c.self.inside.agenda.queue ++ map waiting.Event es) events
    ∙ ap (λ (xs : List Waiting). drop 1 c.self.inside.agenda.queue ++ xs) (told_as content_event meant) in
    let timers : c.take_reserved.new.self.timers ≡ c.self.inside.agenda.timers = search rules in
    let moments : c.take_reserved.new.self.moments ≡ c.self.inside.agenda.moments = search rules in
    let files : c.arrive.new.carousel.files ≡ with_file c.args.file.now c.self.inside.carousel.files = search rules in
    let waits : c.arrive.new.carousel.waits ≡ arrived name ws = search rules in
    let stack : c.bring_text.new.self.stack ≡ c.self.inside.stage.stack = search rules in
    (λ i. record {
      service = c.self.inside.service;
      application = c.self.inside.application;
      scene = c.self.inside.scene;
      objects = objects i;
      stack = stack i;
      interaction = c.self.inside.interaction;
      timers = timers i;
      queue = told i;
      work = c.self.inside.work.items;
      moments = moments i;
      transition = c.self.inside.transition;
      late = c.self.inside.late.items;
      ended = c.self.inside.ended;
      locks = c.self.inside.locks;
      frozen = c.self.inside.frozen;
      taken = c.self.inside.taken + 1;
      faults = c.self.inside.faults.items;
      files = files i;
      waits = waits i;
      mjd = c.self.inside.mjd;
      said = c.self.inside.said;
    }) ∙ ap (λ (v : Working). file_taken c.args.file.now (shifted v.state)) c.self.view_is
