use Rattle.std.proofs.Common.{subst, inl}
use Rattle.mh_flow.specs.Equipment.{equipped}
use Rattle.mh_flow.specs.Solved.{flow_in}
use Rattle.mh_verify.specs.Verdicts.{IsVerdict}
use Rattle.mh_verify.proofs.RefusalLemmas.{first_found}
use Rattle.mh_verify.proofs.verifying.decide.Goals as goal

-- what is found comes first
pub returns-in-Wrong-clause-told : goal.returns-in-Wrong-clause-told
returns-in-Wrong-clause-told c =
    let s = equipped c.args.service c.args.judged.programs.items in
    let f = c.args.judged.flow in
    let judged = subst (IsVerdict s f) c.in-Wrong.is c.requires.verdict in
    inl (inl (record {
      flow = flow_in s f;
      least = c.requires.flow.least;
      found = c.in-Wrong.found;
      first = first_found s (flow_in s f) c.in-Wrong.found judged.first;
      coming = c.in-Wrong.coming;
      named = judged.named;
      names = c.refused.ensures;
    }))
