use Rattle.std.proofs.Common.{None, Some, ap, ◌∙◌, sym}
use Rattle.std.specs.Option.{option_copied}
use Rattle.mh_flow.proofs.LikelyLemmas.{likely_is, listed_is}
use Rattle.mh_flow.proofs.index.likely.place_among.Goals as goal

pub returns-then-has_number : goal.returns-then-has_number
returns-then-has_number c =
    likely_is c.args.service.now c.args.at.now c.args.parts.now c.likely_place-likely.result c.groups.ensures.named.service c.groups.ensures.keys c.requires.parts (sym c.has_number.ensures ∙ c.if-has_number.true)

pub returns-in-None : goal.returns-in-None
returns-in-None c =
    listed_is c.args.service.now c.args.at.now c.args.parts.now c.args.index.now.entries None c.groups.ensures.named c.requires.index c.requires.parts (sym (ap option_copied c.in-None.is) ∙ c.home_of.ensures)

pub returns-in-Some : goal.returns-in-Some
returns-in-Some c =
    ap (λ h. Some h.place) c.home.view_is
    ∙ listed_is c.args.service.now c.args.at.now c.args.parts.now c.args.index.now.entries (Some c.in-Some.home.now) c.groups.ensures.named c.requires.index c.requires.parts (sym (ap option_copied c.in-Some.is) ∙ c.home_of.ensures)
