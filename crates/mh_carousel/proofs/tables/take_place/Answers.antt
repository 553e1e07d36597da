use Rattle.std.proofs.Common.{rules, ◌≡◌, ◌∙◌, None}
use Rattle.mh_model.specs.Reference.{same_key}
use Rattle.mh_carousel.proofs.TableLemmas.{set_nowhere}
use Rattle.mh_carousel.proofs.tables.take_place.Goals as goal

pub returns-in_default-clause-entries : goal.returns-in_default-clause-entries
returns-in_default-clause-entries c =
    let same : c.get_mut.follows.lender-at-none.entries ≡ c.args.objects.now.entries = search rules in
    same ∙ set_nowhere same_key c.args.object.now None c.args.objects.now.entries c.in_default.ensures.value
