use Rattle.std.specs.Prelude.{[], List}
use Rattle.std.specs.List.{flat_map}
use Rattle.std.proofs.Common.{◌∙◌, ap}
use Rattle.mh_flow.specs.Solved.{flow_in}
use Rattle.mh_model.specs.declared.config.Config.{Config}
use Rattle.mh_verify.specs.Refusals.{all_refusals, refusals_in}
use Rattle.mh_refusals.specs.Places.{listed}
use Rattle.mh_refusals.proofs.ListLemmas.{cut}
use Rattle.mh_refusals.proofs.ToldLemmas.{both_ok, each_wrong}
use Rattle.mh_refusals.proofs.refusals.refusals_by.Goals as goal

pub told_all-requires-clause-wrong : goal.told_all-requires-clause-wrong
told_all-requires-clause-wrong c =
    let s = c.args.service.now in
    let w = flow_in s c.args.flow.now in
    each_wrong s w c.args.most c.in_ok-founds.founds.items
    (c.in_ok-founds.ensures
    ∙ ap (λ (cs : List Config). listed c.args.most [] (flat_map (refusals_in s w) cs)) (c.as_slice.ensures.value ∙ c.in_ok-configs.ensures)
    ∙ cut c.args.most (all_refusals s w))

pub returns : goal.returns
returns c =
    let s = c.args.service.now in
    let w = flow_in s c.args.flow.now in
    both_ok c.told_all.result
    (λ told founds chains. record {
      flow = w;
      least = c.requires.least;
      founds =
          founds
          ∙ c.in_ok-founds.ensures
          ∙ ap (λ (cs : List Config). listed c.args.most [] (flat_map (refusals_in s w) cs)) (c.as_slice.ensures.value ∙ c.in_ok-configs.ensures)
          ∙ cut c.args.most (all_refusals s w);
      chains = chains;
    })
    c.told_all.ensures.founds c.told_all.ensures.chains
