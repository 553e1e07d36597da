use Rattle.std.proofs.Common.{ap, ◌∙◌}
use Rattle.mh_model.specs.Bodies.{given}
use Rattle.mh_model.specs.Service.{parts}
use Rattle.mh_model.specs.State.{Objects}
use Rattle.mh_model.proofs.PartLemmas.{changed-own, changed-others}
use Rattle.mh_store.specs.Trying.{with_scene}
use Rattle.mh_store.proofs.ApartLemmas.{apart_changed}
use Rattle.mh_store.proofs.objects.Objects.give.Goals as goal

pub invariant_of-self : goal.invariant_of-self
invariant_of-self c = apart_changed c.self.inside.apart (λ _ b. given c.args.value b) c.args.at.now (with_scene c.self.inside.application c.self.inside.scene) (with_scene c.give_scene_first.new.application c.give_scene_first.new.scene) c.give_scene_first.ensures c.self.invariant

pub returns-then-self-clause-own : goal.returns-then-self-clause-own
returns-then-self-clause-own c = rw (← c.self.view_is) (ap (λ (x : Objects). parts x.application) c.give_scene_first.ensures ∙ changed-own (λ _ b. given c.args.value b) c.args.at.now (with_scene c.self.inside.application c.self.inside.scene))

pub returns-then-self-clause-others : goal.returns-then-self-clause-others
returns-then-self-clause-others c = rw (← c.self.view_is) (ap (λ (x : Objects). parts x.scene) c.give_scene_first.ensures ∙ changed-others (λ _ b. given c.args.value b) c.args.at.now (with_scene c.self.inside.application c.self.inside.scene))

pub returns-else-self-clause-own : goal.returns-else-self-clause-own
returns-else-self-clause-own c = rw (← c.self.view_is) (ap (λ (x : Objects). parts x.application) c.give_application_first.ensures ∙ changed-own (λ _ b. given c.args.value b) c.args.at.now (with_scene c.self.inside.application c.self.inside.scene))

pub returns-else-self-clause-others : goal.returns-else-self-clause-others
returns-else-self-clause-others c = rw (← c.self.view_is) (ap (λ (x : Objects). parts x.scene) c.give_application_first.ensures ∙ changed-others (λ _ b. given c.args.value b) c.args.at.now (with_scene c.self.inside.application c.self.inside.scene))
