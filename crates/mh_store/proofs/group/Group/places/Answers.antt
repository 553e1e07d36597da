use Rattle.std.proofs.Common.{◌≤◌, length, rules}
use Rattle.mh_store.proofs.NamedLemmas.{all_asked, found_risen}
use Rattle.mh_store.proofs.group.Group.places.Goals as goal

pub returns : goal.returns
returns c =
    let over : length c.args.named.now ≤ c.loop-at.at-index = search rules in
    found_risen c.args.first c.args.named.now c.args.self.now c.loop-at.places.items c.rise.new.places.items
    (all_asked c.args.first c.loop-at.at-index c.args.named.now c.args.self.now c.loop-at.places.items over c.loop-at.invariant)
    c.rise.ensures.rising c.rise.ensures.same
