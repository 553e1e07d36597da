use Rattle.std.proofs.Common.{rules, ◌∙◌}
use Rattle.mh_stack.proofs.PlaceLemmas.{above-at, above-nothing}
use Rattle.mh_stack.proofs.places.insert_above.Goals as goal

pub returns-in-Some : goal.returns-in-Some
returns-in-Some c = c.insert_at.ensures ∙ above-at c.args.at c.args.other.now c.args.places.now.items c.in-Some.place (search rules)

pub returns-in-None : goal.returns-in-None
returns-in-None c = c.push_reserved.ensures.items ∙ above-nothing c.args.at c.args.other.now c.args.places.now.items (search rules)
