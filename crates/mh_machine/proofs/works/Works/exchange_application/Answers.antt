use Rattle.std.specs.Prelude.{◌≡◌, ◌+◌, [], ◌∷◌, None, filter, drop}
use Rattle.std.proofs.Common.{rules, ap, ◌∙◌, arith}
use Rattle.mh_model.specs.declared.item.Item.TheVariants as item
use Rattle.mh_model.specs.declared.transition.Transition.TheVariants as transition
use Rattle.mh_model.specs.Rules.{is_input, application_exchanged}
use Rattle.mh_model.specs.Service.{group_objects}
use Rattle.mh_machine.specs.Working.{Working}
use Rattle.mh_machine.specs.Plans.{taken_from}
use Rattle.mh_machine.proofs.ChangeLemmas.{launched}
use Rattle.mh_machine.proofs.works.Works.exchange_application.Goals as goal

pub invariant_of-self-2 : goal.invariant_of-self-2
invariant_of-self-2 c =
    launched _ _ c.launch.new.self.objects c.parts-parts.result.now c.in_ok-links.links _ _
    (search rules) (search rules) (search rules) (omega (arith, c.self.invariant.counted))

pub returns-clause-done : goal.returns-clause-done
returns-clause-done c =
    let application : c.set_application.new.application ≡ c.args.group.now = search rules in
    let scene : c.clear_scene.new.scene ≡ None = search rules in
    let objects : c.launch.new.self.objects ≡ record { application = group_objects c.self.inside.service c.args.group.now; scene = [] } = search rules in
    let stack : c.launch.new.self.stack ≡ [] = search rules in
    let timers : c.leave_application.new.self.timers ≡ [] = search rules in
    let queue : c.leave_application.new.self.queue ≡ filter is_input c.self.inside.agenda.queue = search rules in
    let moments : c.leave_application.new.self.moments ≡ c.self.inside.agenda.moments = search rules in
    let waits : c.clear_waits.new.self.waits ≡ [] = search rules in
    let files : c.clear_waits.new.self.files ≡ c.self.inside.carousel.files = search rules in
    let work : c.put_for_first.new.self.items ≡ item.Enter c.args.group.now ∷ drop 1 c.self.inside.work.items = search rules in
    let rests : c.set_transition.new.transition ≡ transition.Rests = search rules in
    (λ i. record {
      service = c.self.inside.service;
      application = application i;
      scene = scene i;
      objects = objects i;
      stack = stack i;
      interaction = None;
      timers = timers i;
      queue = queue i;
      work = work i;
      moments = moments i;
      transition = rests i;
      late = c.self.inside.late.items;
      ended = c.self.inside.ended;
      locks = c.self.inside.locks;
      frozen = c.self.inside.frozen;
      taken = c.self.inside.taken + 1;
      faults = c.self.inside.faults.items;
      files = files i;
      waits = waits i;
      mjd = c.self.inside.mjd;
      said = c.self.inside.said;
    }) ∙ ap (λ (v : Working). application_exchanged c.args.group.now (taken_from v.state)) c.self.view_is
