use Rattle.std.specs.Prelude.{ℕ, List, None, Option, codes, option_map}
use Rattle.std.specs.Option.{option_map_or}
use Rattle.std.specs.Borrow.{Bor}
use Rattle.std.proofs.Common.{ap, sym, ◌∙◌}
use Rattle.clap.specs.Words.{first_of, found_of, rows_of}
use Rattle.mh_look.proofs.command_line.output_of.Goals as goal

pub returns-in-Some : goal.returns-in-Some
returns-in-Some c =
    let rows = rows_of (found_of c.args.given.now) in
    c.file_of-in-Some.ensures
    ∙ ap (λ (o : Option (List ℕ)). option_map_or (λ _. first_of (codes "PATH") rows) o None)
    (sym (ap (option_map (λ (s : Bor (List ℕ)). s.now)) c.in-Some.is) ∙ c.file_of.ensures)

pub returns-in-None : goal.returns-in-None
returns-in-None c =
    let rows = rows_of (found_of c.args.given.now) in
    ap (λ (o : Option (List ℕ)). option_map_or (λ _. first_of (codes "PATH") rows) o None)
    (sym (ap (option_map (λ (s : Bor (List ℕ)). s.now)) c.in-None.is) ∙ c.file_of.ensures)
