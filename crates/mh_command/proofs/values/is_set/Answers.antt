use Rattle.std.specs.Prelude.{ℕ, false, List, Option, codes}
use Rattle.std.specs.Option.{option_map_or}
use Rattle.std.specs.Str.{bytes_eq}
use Rattle.std.proofs.Common.{ap, sym, ◌∙◌}
use Rattle.clap.specs.Words.{found_of}
use Rattle.mh_command.proofs.ValueLemmas.{value_found, none_found}
use Rattle.mh_command.proofs.values.is_set.Goals as goal

pub returns-in-Some : goal.returns-in-Some
returns-in-Some c =
    c.eq.ensures
    ∙ sym (ap (λ (o : Option (List ℕ)). option_map_or (λ t. bytes_eq t (codes "true")) o false) (value_found (found_of c.args.given.now) c.args.name.now c.get_str.result c.in-Some.text c.get_str.ensures c.in-Some.is))

pub returns-in-None : goal.returns-in-None
returns-in-None c =
    sym (ap (λ (o : Option (List ℕ)). option_map_or (λ t. bytes_eq t (codes "true")) o false) (none_found (found_of c.args.given.now) c.args.name.now c.get_str.result c.get_str.ensures c.in-None.is))
