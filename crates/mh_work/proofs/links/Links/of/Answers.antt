use Rattle.mh_work.proofs.LinkLemmas.{index_of_two}
use Rattle.mh_work.proofs.links.Links.of.Goals as goal

pub returns : goal.returns
returns c = index_of_two c.in_ok-links.links c.add_parts.new.self c.add_parts-2.new.self c.args.application.now c.args.scene.now c.in_ok-links.ensures c.in_ok-add_parts.ensures c.in_ok-add_parts-2.ensures
