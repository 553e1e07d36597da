use Rattle.std.proofs.Common.{rules, ◌≡◌, ◌∙◌}
use Rattle.std.specs.Str.{bytes_eq}
use Rattle.mh_carousel.proofs.TableLemmas.{set_nowhere}
use Rattle.mh_carousel.proofs.tables.start_anew.Goals as goal

pub returns-in_default-clause-entries : goal.returns-in_default-clause-entries
returns-in_default-clause-entries c =
    let same : c.get_mut.follows.lender-at-none.entries ≡ c.args.names.now.entries = search rules in
    same ∙ set_nowhere bytes_eq c.args.name.now _ c.args.names.now.entries c.in_default.ensures.value
