use Rattle.std.proofs.Common.{◌≡◌, ◌==◌, false, get_or, rules, subst, sym, to_z-of_z, ◌∙◌}
use Rattle.std.specs.Int.{w32}
use Rattle.std.specs.Str.Parse.{ParsesSigned}
use Rattle.mh_actions.proofs.NumeralLemmas.{parsed, not_a_text}
use Rattle.mh_actions.proofs.numerals.number_in.Goals as goal

pub returns-in-Ok : goal.returns-in-Ok
returns-in-Ok c =
    let plain : (get_or c.args.octets.now 0 0 == 43) ≡ false = sym c.has_plus.ensures ∙ c.if-has_plus.false in
    let text = subst (λ bs. ParsesSigned w32 10 bs c.parse.result) c.in-Ok.ensures.cases.0 c.parse.ensures.value.0 in
    let same = c.unwrap_or.ensures ∙ parsed c.args.octets.now c.parse.result plain text in
    search (rules, to_z-of_z, same)

pub returns-in-Err : goal.returns-in-Err
returns-in-Err c = not_a_text c.args.octets.now c.in-Err.ensures.cases.0
