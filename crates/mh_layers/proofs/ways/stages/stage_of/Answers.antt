use Rattle.std.specs.Prelude.{◌<◌, ◌+◌, ℕ}
use Rattle.std.proofs.Common.{◌∙◌, ap, refl, subst, sym}
use Rattle.std.proofs.lemmas.Option.{slice_get_within}
use Rattle.mh_layers.specs.declared.cause.Cause.{Cause}
use Rattle.mh_layers.specs.Dearest.{acts_of}
use Rattle.mh_layers.specs.EffectSites.{effect_named}
use Rattle.mh_layers.proofs.ways.stages.stage_of.Goals as goal

pub dearest_part-requires-clause-costs : goal.dearest_part-requires-clause-costs
dearest_part-requires-clause-costs c = subst (λ (n : ℕ). 0 < n) c.requires.chosen.cost c.requires.chosen.costs

pub index_of-index-requires-clause-within : goal.index_of-index-requires-clause-within
index_of-index-requires-clause-within c =
    let r = c.args.numbered_service.now in
    slice_get_within (acts_of r.service (effect_named r c.args.dearest.node)) c.in_ok-part.part.offset c.in_ok-part.ensures.act c.in_ok-part.ensures.there

pub returns : goal.returns
returns c = record {
  part = c.in_ok-part.part;
  is = c.in_ok-part.ensures;
  node = refl;
  cause = refl;
  cost = refl;
  index = c.index_of-index.ensures ∙ ap (λ (x : Cause). x.index + c.in_ok-part.part.offset) (sym c.requires.chosen.cause);
  action = refl;
  part_cost = refl;
}
