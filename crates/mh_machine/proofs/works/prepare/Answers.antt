use Rattle.std.proofs.Common.{rules, sym, subst}
use Rattle.mh_model.specs.Service.{group_parts}
use Rattle.mh_work.specs.Links.{IsIndex}
use Rattle.mh_machine.proofs.ChangeLemmas.{begun_parts, begun_own}
use Rattle.mh_machine.proofs.works.prepare.Goals as goal

pub returns-clause-links : goal.returns-clause-links
returns-clause-links c = subst (IsIndex c.in_ok-links.links) (sym (begun_parts c.parts-parts.result.now c.in_ok-links.stage.objects (search rules))) (search rules)

pub returns-clause-own : goal.returns-clause-own
returns-clause-own c = begun_own (group_parts c.args.service.now c.args.service.now.start) c.in_ok-links.stage.objects (search rules)
