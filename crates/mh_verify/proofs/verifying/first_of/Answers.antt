use Rattle.std.proofs.Common.{◌∙◌, List, None, ap, sym}
use Rattle.std.specs.List.{flat_map}
use Rattle.mh_model.specs.declared.config.Config.{Config}
use Rattle.mh_flow.specs.Solved.{flow_in}
use Rattle.mh_verify.specs.Least.{least_of}
use Rattle.mh_verify.specs.Refusals.{refusals_in}
use Rattle.mh_verify.proofs.RefusalLemmas.{first_found}
use Rattle.mh_verify.proofs.verifying.first_of.Goals as goal

pub named-requires-clause-first : goal.named-requires-clause-first
named-requires-clause-first c =
    let s = c.args.service.now in
    let w = flow_in s c.args.flow.now in
    first_found s w c.in-Some.found
    (sym (c.in_ok-first_in.ensures ∙ ap (λ (cs : List Config). least_of None (flat_map (refusals_in s w) cs)) (c.as_slice.ensures.value ∙ c.in_ok-configs.ensures)) ∙ c.in-Some.is)
