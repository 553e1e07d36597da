use Rattle.std.proofs.Common.{rules, ◌∙◌}
use Rattle.mh_stack.proofs.PlaceLemmas.{below-at, below-nothing}
use Rattle.mh_stack.proofs.places.insert_below.Goals as goal

pub returns-in-Some : goal.returns-in-Some
returns-in-Some c = c.insert_at.ensures ∙ below-at c.args.at c.args.other.now c.args.places.now.items c.in-Some.place (search rules)

pub returns-in-None : goal.returns-in-None
returns-in-None c = c.push_reserved.ensures.items ∙ below-nothing c.args.at c.args.other.now c.args.places.now.items (search rules)
