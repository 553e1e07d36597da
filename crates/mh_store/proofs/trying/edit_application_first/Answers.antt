use Rattle.std.proofs.Common.{sym, ◌∙◌}
use Rattle.mh_store.specs.Trying.{of_scene, with_scene}
use Rattle.mh_store.proofs.BothLemmas.{IsEdited, edited-first, edited-behind}
use Rattle.mh_store.proofs.trying.edit_application_first.Goals as goal

-- the object is the application's
pub returns-in-None-clause-done : goal.returns-in-None-clause-done
returns-in-None-clause-done c = (edited-first {T = Unit {0}} {E = Unit {0}} c.args.edit c.args.at.now (with_scene c.args.application.now c.args.scene.now) c.edit.new.self (tt {0}) (sym c.in-None.is ∙ c.in_ok-edit.ensures.back) c.in_ok-edit.ensures.done).done

-- the scene was tried
behind : (c : goal.After-edit_scene) → IsEdited c.args.edit c.args.at.now (with_scene c.args.application.now c.args.scene.now) (with_scene c.edit.new.self c.edit_scene.new.scene) c.edit_scene.result
behind c = edited-behind c.edit_scene.result c.args.edit c.in-Some.edit c.args.at.now (with_scene c.args.application.now c.args.scene.now) c.edit.new.self (of_scene c.edit_scene.new.scene) (sym c.in-Some.is ∙ c.in_ok-edit.ensures.back) c.in_ok-edit.ensures.done c.edit_scene.ensures.done c.edit_scene.ensures.kept

pub returns-in-Some-clause-done : goal.returns-in-Some-clause-done
returns-in-Some-clause-done c = (behind c).done

pub returns-in-Some-clause-kept : goal.returns-in-Some-clause-kept
returns-in-Some-clause-kept c = (behind c).kept
