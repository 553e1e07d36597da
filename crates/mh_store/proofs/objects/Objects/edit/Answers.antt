use Rattle.mh_store.specs.Trying.{of_scene, with_scene}
use Rattle.mh_store.proofs.ApartLemmas.{parts_apart, edited_parts}
use Rattle.mh_store.proofs.objects.Objects.edit.Goals as goal

pub invariant_of-self : goal.invariant_of-self
invariant_of-self c =
    let same = edited_parts c.edit_scene_first.result c.args.edit c.args.at.now (with_scene c.self.inside.application c.self.inside.scene) (with_scene c.edit_scene_first.new.application c.edit_scene_first.new.scene) c.edit_scene_first.ensures.done c.edit_scene_first.ensures.kept in
    parts_apart c.self.inside.apart c.self.inside.application (of_scene c.self.inside.scene) c.edit_scene_first.new.application (of_scene c.edit_scene_first.new.scene) same.0 same.1 c.self.invariant

pub returns-then-self-clause-own : goal.returns-then-self-clause-own
returns-then-self-clause-own c = rw (← c.self.view_is) (edited_parts c.edit_scene_first.result c.args.edit c.args.at.now (with_scene c.self.inside.application c.self.inside.scene) (with_scene c.edit_scene_first.new.application c.edit_scene_first.new.scene) c.edit_scene_first.ensures.done c.edit_scene_first.ensures.kept).0

pub returns-then-self-clause-others : goal.returns-then-self-clause-others
returns-then-self-clause-others c = rw (← c.self.view_is) (edited_parts c.edit_scene_first.result c.args.edit c.args.at.now (with_scene c.self.inside.application c.self.inside.scene) (with_scene c.edit_scene_first.new.application c.edit_scene_first.new.scene) c.edit_scene_first.ensures.done c.edit_scene_first.ensures.kept).1

pub returns-else-self-clause-own : goal.returns-else-self-clause-own
returns-else-self-clause-own c = rw (← c.self.view_is) (edited_parts c.edit_application_first.result c.args.edit c.args.at.now (with_scene c.self.inside.application c.self.inside.scene) (with_scene c.edit_application_first.new.application c.edit_application_first.new.scene) c.edit_application_first.ensures.done c.edit_application_first.ensures.kept).0

pub returns-else-self-clause-others : goal.returns-else-self-clause-others
returns-else-self-clause-others c = rw (← c.self.view_is) (edited_parts c.edit_application_first.result c.args.edit c.args.at.now (with_scene c.self.inside.application c.self.inside.scene) (with_scene c.edit_application_first.new.application c.edit_application_first.new.scene) c.edit_application_first.ensures.done c.edit_application_first.ensures.kept).1
