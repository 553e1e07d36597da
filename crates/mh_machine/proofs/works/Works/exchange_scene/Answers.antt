use Rattle.std.specs.Prelude.{◌≡◌, ◌+◌, ◌∷◌, Some, filter, drop}
use Rattle.std.specs.Str.{bytes_eq}
use Rattle.std.proofs.Common.{rules, ap, ◌∙◌, arith}
use Rattle.mh_model.specs.declared.item.Item.TheVariants as item
use Rattle.mh_model.specs.declared.transition.Transition.TheVariants as transition
use Rattle.mh_model.specs.Rules.{stays, scene_exchanged}
use Rattle.mh_model.specs.Service.{group_objects}
use Rattle.mh_model.specs.Worked.{interaction_of}
use Rattle.mh_machine.specs.Working.{Working}
use Rattle.mh_machine.specs.Plans.{taken_from}
use Rattle.mh_machine.proofs.ChangeLemmas.{exchanged}
use Rattle.mh_machine.proofs.works.Works.exchange_scene.Goals as goal

pub invariant_of-self-2 : goal.invariant_of-self-2
invariant_of-self-2 c =
    exchanged _ _ c.self.inside.stage.objects c.exchange.new.self.objects c.parts-parts.result.now c.parts.result.now
    c.in_ok-links.links _ _
    (search rules) c.self.invariant.own c.parts.ensures.parts (search rules) (omega (arith, c.self.invariant.counted))

pub returns-clause-done : goal.returns-clause-done
returns-clause-done c =
    let objects : c.exchange.new.self.objects ≡ record { application = c.self.inside.stage.objects.application; scene = group_objects c.self.inside.service c.args.group.now } = search rules in
    let stack : c.exchange.new.self.stack ≡ filter (λ r. bytes_eq r.group c.self.inside.application) c.self.inside.stage.stack = search rules in
    let timers : c.leave_scene.new.self.timers ≡ filter (λ t. bytes_eq t.group c.self.inside.application) c.self.inside.agenda.timers = search rules in
    let queue : c.leave_scene.new.self.queue ≡ filter (stays c.self.inside.application) c.self.inside.agenda.queue = search rules in
    let moments : c.leave_scene.new.self.moments ≡ c.self.inside.agenda.moments = search rules in
    let work : c.put_for_first.new.self.items ≡ item.Enter c.args.group.now ∷ drop 1 c.self.inside.work.items = search rules in
    let waits : c.leave_scene-2.new.self.waits ≡ filter (λ w. bytes_eq w.object.group c.self.inside.application) c.self.inside.carousel.waits = search rules in
    let files : c.leave_scene-2.new.self.files ≡ c.self.inside.carousel.files = search rules in
    let scene : c.set_scene.new.scene ≡ Some c.args.group.now = search rules in
    let interaction : c.leave_interaction.new.interaction ≡ interaction_of c.self.inside.application c.self.inside.interaction = search rules in
    let rests : c.set_transition.new.transition ≡ transition.Rests = search rules in
    (λ i. record {
      service = c.self.inside.service;
      application = c.self.inside.application;
      scene = scene i;
      objects = objects i;
      stack = stack i;
      interaction = interaction i;
      timers = timers i;
      queue = queue i;
      work = work i;
      moments = moments i;
      transition = rests i;
      late = c.self.inside.late.items;
      ended = c.self.inside.ended;
      locks = c.self.inside.locks;
      frozen = c.self.inside.frozen;
      taken = c.self.inside.taken + 1;
      faults = c.self.inside.faults.items;
      files = files i;
      waits = waits i;
      mjd = c.self.inside.mjd;
      said = c.self.inside.said;
    }) ∙ ap (λ (v : Working). scene_exchanged c.args.group.now (taken_from v.state)) c.self.view_is
