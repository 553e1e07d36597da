use Rattle.std.specs.Prelude.{ℕ, List, Option, codes, option_map}
use Rattle.std.specs.Option.{option_map_or}
use Rattle.std.specs.Borrow.{Bor}
use Rattle.std.proofs.Common.{ap, sym, ◌∙◌}
use Rattle.clap.specs.Words.{found_of, rows_of}
use Rattle.mh_command.specs.Values.{text_of}
use Rattle.mh_look.proofs.command_line.folder_of.Goals as goal

pub returns-in-Some : goal.returns-in-Some
returns-in-Some c =
    let rows = rows_of (found_of c.args.given.now) in
    ap (λ (o : Option (List ℕ)). option_map_or (λ dir. dir) o (text_of (codes "PATH") rows))
    (sym (ap (option_map (λ (s : Bor (List ℕ)). s.now)) c.in-Some.is) ∙ c.file_of.ensures)

pub returns-in-None : goal.returns-in-None
returns-in-None c =
    let rows = rows_of (found_of c.args.given.now) in
    c.text_of.ensures
    ∙ ap (λ (o : Option (List ℕ)). option_map_or (λ dir. dir) o (text_of (codes "PATH") rows))
    (sym (ap (option_map (λ (s : Bor (List ℕ)). s.now)) c.in-None.is) ∙ c.file_of.ensures)
