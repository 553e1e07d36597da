use Rattle.std.proofs.Common.{◌≡◌, sym, subst}
use Rattle.std.specs.Prelude.{true, length, suc, ◌<◌, ◌^◌}
use Rattle.std.specs.List.{IsDistinct, list_any}
use Rattle.mh_laws.specs.Least.{are_ascending}
use Rattle.mh_model.specs.Configuration.{configurations, same_config}
use Rattle.mh_model.specs.Reference.{same_ref}
use Rattle.mh_flow.specs.Chart.{IsChart, all_held, all_sets, all_targeted, based}
use Rattle.mh_flow.specs.Index.{held_index, indexed}
use Rattle.mh_flow.proofs.ChartLemmas.{ok_of}
use Rattle.mh_flow.proofs.chart.Chart.of.Goals as goal

pub returns : goal.returns
returns c =
    let v = c.args.service.now in
    let parts = c.in_ok-parts.parts in
    let are = c.in_ok-parts.ensures in
    subst (IsChart v) (sym c.of_parts.ensures) (record {
      service = c.groups.ensures.named.service;
      index = ok_of c.index_of.result parts.0 (λ x. x.entries ≡ indexed v) are.0 c.index_of.ensures;
      holders = ok_of c.holders_of.result parts.1 (λ x. x.entries ≡ held_index v) are.1 c.holders_of.ensures;
      configs = ok_of c.numbers_of.result parts.2 (λ x. x.configs.entries ≡ based v (suc (length (configurations v))) (configurations v)) are.2 c.numbers_of.ensures.configs;
      sets = ok_of c.numbers_of.result parts.2 (λ x. x.sets.items ≡ all_sets v) are.2 c.numbers_of.ensures.sets;
      members = λ q. ok_of c.references_of.result parts.3 (λ x. list_any (same_ref q) x.members.keys ≡ list_any (same_ref q) (all_held v)) are.3 (c.references_of.ensures.members q);
      targeted = λ q. ok_of c.references_of.result parts.3 (λ x. list_any (same_ref q) x.targeted.keys ≡ list_any (same_ref q) (all_targeted v)) are.3 (c.references_of.ensures.targeted q);
      ascending = ok_of c.references_of.result parts.3 (λ x. are_ascending x.members.keys ≡ true) are.3 c.references_of.ensures.ascending;
      fits = ok_of c.numbers_of.result parts.2 (λ x. length x.sets.items < 2 ^ 64) are.2 c.numbers_of.ensures.fits;
      named = c.groups.ensures.named;
      keys = c.groups.ensures.keys;
      once = ok_of c.numbers_of.result parts.2 (λ x. IsDistinct same_config (configurations v)) are.2 c.numbers_of.ensures.once;
    })
