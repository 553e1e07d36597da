use Rattle.mh_flow.specs.Solved.{flow_in}
use Rattle.mh_verify.specs.declared.refusal.RefusalKind.TheVariants as kind
use Rattle.mh_verify.specs.Naming.{absent_held, class_held}
use Rattle.mh_verify.proofs.CandidateLemmas.{absent_way, are_candidates, class_way}
use Rattle.mh_verify.proofs.named_reference.named.Goals as goal

pub held-requires-clause-candidates : goal.held-requires-clause-candidates
held-requires-clause-candidates c =
    are_candidates c.args.service.now (flow_in c.args.service.now c.args.flow.now) c.args.found.now absent_held kind.HeldAbsent absent_way c.in-HeldAbsent.is c.requires.first

pub held-requires-in-HeldWrongClass-clause-candidates : goal.held-requires-in-HeldWrongClass-clause-candidates
held-requires-in-HeldWrongClass-clause-candidates c =
    are_candidates c.args.service.now (flow_in c.args.service.now c.args.flow.now) c.args.found.now class_held kind.HeldWrongClass class_way c.in-HeldWrongClass.is c.requires.first
