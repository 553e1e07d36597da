use Rattle.std.specs.Prelude.{ℕ, List, [], Option, unwrap_or}
use Rattle.std.proofs.Common.{ap, sym}
use Rattle.clap.specs.Words.{found_of}
use Rattle.mh_command.proofs.ValueLemmas.{value_found, none_found}
use Rattle.mh_command.proofs.values.text_of.Goals as goal

pub returns-in-Some : goal.returns-in-Some
returns-in-Some c =
    sym (ap (λ (t : Option (List ℕ)). unwrap_or t []) (value_found (found_of c.args.given.now) c.args.name.now c.get_str.result c.in-Some.text c.get_str.ensures c.in-Some.is))

pub returns-in-None : goal.returns-in-None
returns-in-None c =
    sym (ap (λ (t : Option (List ℕ)). unwrap_or t []) (none_found (found_of c.args.given.now) c.args.name.now c.get_str.result c.get_str.ensures c.in-None.is))
