use Rattle.std.proofs.Common.{true, refl}
use Rattle.mh_store.specs.Trying.{of_scene, with_scene}
use Rattle.mh_store.proofs.ApartLemmas.{given_apart, given_own}
use Rattle.mh_store.proofs.trying.give_scene_first.Goals as goal

pub returns-in-Some : goal.returns-in-Some
returns-in-Some c = given_own c.args.value c.in-Some.value c.args.at.now (with_scene c.args.application.now c.args.scene.now) c.give.new.self (of_scene c.give_in.new.scene) c.in-Some.ensures.back c.in-Some.ensures.done c.give.ensures.done

pub returns-in_default : goal.returns-in_default
returns-in_default c = given_apart true c.args.value c.args.at.now (with_scene c.args.application.now c.args.scene.now) (of_scene c.give_in.new.scene) refl c.requires c.in_default.ensures.back c.in_default.ensures.done
