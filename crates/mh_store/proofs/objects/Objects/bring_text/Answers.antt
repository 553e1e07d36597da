use Rattle.std.proofs.Common.{◌∙◌, [], unwrap_or, ap}
use Rattle.mh_model.specs.Service.{parts}
use Rattle.mh_store.specs.Places.{is_among}
use Rattle.mh_store.specs.Trying.{of_scene}
use Rattle.mh_model.proofs.PartLemmas.{with_text-parts}
use Rattle.mh_store.proofs.BringingLemmas.{own_made, both_brought}
use Rattle.mh_store.proofs.ApartLemmas.{parts_apart}
use Rattle.mh_store.proofs.objects.Objects.bring_text.Goals as goal

pub put-requires : goal.put-requires
put-requires c = own_made (is_among c.args.waiting.now) c.args.text.now c.self.inside.application c.in_ok-application.application.items c.in_ok-application.ensures

pub put_in-requires : goal.put_in-requires
put_in-requires c = own_made (is_among c.args.waiting.now) c.args.text.now (of_scene c.self.inside.scene) c.in_ok-scene.scene.items c.in_ok-scene.ensures

pub returns-clause-done : goal.returns-clause-done
returns-clause-done c =
    rw (← c.self.view_is)
    (both_brought (is_among c.args.waiting.now) c.args.text.now (record { application = c.self.inside.application; scene = unwrap_or c.self.inside.scene [] }) c.put.new.self (of_scene c.put_in.new.scene) c.in_ok-application.application.items c.in_ok-scene.scene.items c.in_ok-application.ensures c.in_ok-scene.ensures c.put.ensures c.put_in.ensures)

pub returns-clause-own : goal.returns-clause-own
returns-clause-own c = ap (λ os. parts os.application) (returns-clause-done c) ∙ with_text-parts (is_among c.args.waiting.now) c.args.text.now c.args.self.now.application

pub returns-clause-others : goal.returns-clause-others
returns-clause-others c = ap (λ os. parts os.scene) (returns-clause-done c) ∙ with_text-parts (is_among c.args.waiting.now) c.args.text.now c.args.self.now.scene

pub invariant_of-self : goal.invariant_of-self
invariant_of-self c =
    let brought = (both_brought (is_among c.args.waiting.now) c.args.text.now (record { application = c.self.inside.application; scene = unwrap_or c.self.inside.scene [] }) c.put.new.self (of_scene c.put_in.new.scene) c.in_ok-application.application.items c.in_ok-scene.scene.items c.in_ok-application.ensures c.in_ok-scene.ensures c.put.ensures c.put_in.ensures) in
    parts_apart c.self.inside.apart c.self.inside.application (of_scene c.self.inside.scene) c.put.new.self (of_scene c.put_in.new.scene)
    (ap (λ os. parts os.application) brought ∙ with_text-parts (is_among c.args.waiting.now) c.args.text.now c.self.inside.application)
    (ap (λ os. parts os.scene) brought ∙ with_text-parts (is_among c.args.waiting.now) c.args.text.now (of_scene c.self.inside.scene))
    c.self.invariant
