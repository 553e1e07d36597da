use Rattle.mh_store.specs.Trying.{of_scene, with_scene}
use Rattle.mh_store.proofs.BothLemmas.{given-first, given-behind}
use Rattle.mh_store.proofs.trying.give_application_first.Goals as goal

pub returns-in-Some : goal.returns-in-Some
returns-in-Some c = given-behind c.args.value c.in-Some.value c.args.at.now (with_scene c.args.application.now c.args.scene.now) c.give.new.self (of_scene c.give_in.new.scene) c.in-Some.ensures.back c.in-Some.ensures.done c.give_in.ensures.done

pub returns-in_default : goal.returns-in_default
returns-in_default c = given-first c.args.value c.args.at.now (with_scene c.args.application.now c.args.scene.now) c.give.new.self c.in_default.ensures.back c.in_default.ensures.done
