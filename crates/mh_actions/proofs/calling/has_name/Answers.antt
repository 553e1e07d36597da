use Rattle.std.proofs.Common.{◌≡◌, ap, sym, ◌∙◌, true, false, rules}
use Rattle.std.specs.Option.{is_some, option_copied}
use Rattle.std.specs.Str.{bytes_eq}
use Rattle.mh_actions.proofs.CallLemmas.{any_found}
use Rattle.mh_actions.proofs.calling.has_name.Goals as goal

pub returns-in-Some : goal.returns-in-Some
returns-in-Some g c =
    let there : is_some (option_copied c.program_named.result) ≡ true = search rules in
    sym there ∙ ap is_some c.program_named.ensures ∙ any_found (λ s. bytes_eq c.args.name.now s.name) g.P.Resident.signature_of c.args.programs.now

pub returns-in-None : goal.returns-in-None
returns-in-None g c =
    let nowhere : is_some (option_copied c.program_named.result) ≡ false = search rules in
    sym nowhere ∙ ap is_some c.program_named.ensures ∙ any_found (λ s. bytes_eq c.args.name.now s.name) g.P.Resident.signature_of c.args.programs.now
