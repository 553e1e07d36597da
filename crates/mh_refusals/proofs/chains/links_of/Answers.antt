use Rattle.mh_flow.specs.Solved.{flow_in}
use Rattle.mh_verify.proofs.CandidateLemmas.{absent_way, class_way}
use Rattle.mh_refusals.proofs.HeldLemmas.{held_there}
use Rattle.mh_refusals.proofs.chains.links_of.Goals as goal

pub links_of_held-requires-clause-held : goal.links_of_held-requires-clause-held
links_of_held-requires-clause-held c =
    held_there absent_way c.args.service.now (flow_in c.args.service.now c.args.flow.now) c.args.found.now c.in-HeldAbsent.is c.requires.wrong

pub links_of_held-requires-in-HeldWrongClass-clause-held : goal.links_of_held-requires-in-HeldWrongClass-clause-held
links_of_held-requires-in-HeldWrongClass-clause-held c =
    held_there class_way c.args.service.now (flow_in c.args.service.now c.args.flow.now) c.args.found.now c.in-HeldWrongClass.is c.requires.wrong
