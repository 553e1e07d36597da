use Rattle.std.proofs.Common.{None, Some, ◌∙◌, sym}
use Rattle.mh_flow.proofs.LikelyLemmas.{at_place_found}
use Rattle.mh_flow.proofs.present.Present.find.Goals as goal

pub returns-in-None : goal.returns-in-None
returns-in-None c = at_place_found c.args.self.now c.args.at.now None (sym c.in-None.is ∙ c.place.ensures)

pub returns-in-Some : goal.returns-in-Some
returns-in-Some c = c.at.ensures ∙ at_place_found c.args.self.now c.args.at.now (Some c.in-Some.place) (sym c.in-Some.is ∙ c.place.ensures)
