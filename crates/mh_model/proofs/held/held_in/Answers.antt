use Rattle.std.proofs.Common.{◌∙◌, sym}
use Rattle.mh_model.proofs.PropertyLemmas.{held-at, held-none}
use Rattle.mh_model.proofs.held.held_in.Goals as goal

pub returns-in-Some : goal.returns-in-Some
returns-in-Some c = held-at c.args.attribute c.args.list.now c.in-Some.place _ (sym c.place_of.ensures ∙ c.in-Some.is)

pub returns-in-None : goal.returns-in-None
returns-in-None c = held-none c.args.attribute c.args.list.now (sym c.place_of.ensures ∙ c.in-None.is)
