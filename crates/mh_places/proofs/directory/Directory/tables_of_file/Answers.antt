use Rattle.std.proofs.Common.{rules, ◌≡◌, List, ap, subst, sym, ◌∙◌}
use Rattle.std.specs.Option.{option_copied}
use Rattle.std.specs.Prelude.{Option, slice_get}
use Rattle.mh_told.specs.Reading.{Source}
use Rattle.mh_places.specs.Directory.{AreBeside, AreOf, IsFound, Tables, file_of}
use Rattle.mh_places.proofs.DirectoryLemmas.{none_found, one_found}
use Rattle.mh_places.proofs.directory.Directory.tables_of_file.Goals as goal

pub returns-in-Some : goal.returns-in-Some
returns-in-Some c =
    let g = c.args.group.now in
    let found : option_copied c.tables_at.result ≡ slice_get c.self.inside.tables.items c.in-Some.number = c.tables_at.ensures ∙ ap (λ (ts : List Tables). slice_get ts c.in-Some.number) c.as_slice.ensures.value in
    let are : AreBeside AreOf c.args.self.now c.self.inside.tables.items = subst (λ (fs : List Source). AreBeside AreOf fs c.self.inside.tables.items) (search rules) c.self.invariant in
    subst (λ (o : Option Tables). IsFound AreOf (file_of c.args.self.now g) o) (sym found)
    (one_found AreOf c.args.self.now c.self.inside.tables.items g c.in-Some.number are (sym c.file_number.ensures ∙ c.in-Some.is))

pub returns-in-None : goal.returns-in-None
returns-in-None c = none_found {T = Tables} AreOf c.args.self.now c.args.group.now (search rules)
