use Rattle.std.specs.Prelude.{◌≡◌, ◌∷◌, ◌++◌, Some, ℕ}
use Rattle.std.proofs.Common.{ap, ◌∙◌}
use Rattle.mh_told.specs.Printing.{hex_colour}
use Rattle.mh_look.proofs.OptionLemmas.{some_is, nothing_is}
use Rattle.mh_look.proofs.PlaceLemmas.{at_fore, at_back}
use Rattle.mh_look.proofs.report.run.read_colours.Goals as goal

pub returns-in_err-back-clause-found : goal.returns-in_err-back-clause-found
returns-in_err-back-clause-found c = λ fore back colours rest e.
    nothing_is _ _ (c.in_err-back.ensures.found back colours.behind rest (at_back fore back rest c.args.bytes.now e))

pub returns-clause-found : goal.returns-clause-found
returns-clause-found c = λ fore back colours rest e.
    let one : c.in_ok-fore.fore ≡ fore = some_is c.in_ok-fore.fore fore (c.in_ok-fore.ensures.found fore colours.front (47 ∷ (hex_colour back ++ rest)) (at_fore fore back rest c.args.bytes.now e)) in
    let other : c.in_ok-back.back ≡ back = some_is c.in_ok-back.back back (c.in_ok-back.ensures.found back colours.behind rest (at_back fore back rest c.args.bytes.now e)) in
    ap (λ (n : ℕ). Some (n, c.in_ok-back.back)) one ∙ ap (λ (n : ℕ). Some (fore, n)) other
