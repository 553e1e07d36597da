use Rattle.std.proofs.Common.{true, refl, sym, ◌∙◌}
use Rattle.mh_store.specs.Trying.{of_scene, with_scene}
use Rattle.mh_store.proofs.ApartLemmas.{edited_apart, edited_own}
use Rattle.mh_store.proofs.BothLemmas.{IsEdited}
use Rattle.mh_store.proofs.trying.edit_scene_first.Goals as goal

-- the object is the scene's
pub returns-in-None-clause-done : goal.returns-in-None-clause-done
returns-in-None-clause-done c = (edited_apart {T = Unit {0}} {E = Unit {0}} true c.args.edit c.args.at.now (with_scene c.args.application.now c.args.scene.now) (of_scene c.edit_in.new.scene) (tt {0}) refl c.requires (sym c.in-None.is ∙ c.in_ok-edit_in.ensures.back) c.in_ok-edit_in.ensures.done).done

-- the application was tried
behind : (c : goal.After-edit_alone) → IsEdited c.args.edit c.args.at.now (with_scene c.args.application.now c.args.scene.now) (with_scene c.edit_alone.new.application c.edit_in.new.scene) c.edit_alone.result
behind c = edited_own c.edit_alone.result c.args.edit c.in-Some.edit c.args.at.now (with_scene c.args.application.now c.args.scene.now) c.edit_alone.new.application (of_scene c.edit_in.new.scene) (sym c.in-Some.is ∙ c.in_ok-edit_in.ensures.back) c.in_ok-edit_in.ensures.done c.edit_alone.ensures.done c.edit_alone.ensures.kept

pub returns-in-Some-clause-done : goal.returns-in-Some-clause-done
returns-in-Some-clause-done c = (behind c).done

pub returns-in-Some-clause-kept : goal.returns-in-Some-clause-kept
returns-in-Some-clause-kept c = (behind c).kept
