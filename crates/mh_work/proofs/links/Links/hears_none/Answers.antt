use Rattle.std.proofs.Common.{rules}
use Rattle.mh_model.specs.State.{all}
use Rattle.mh_work.proofs.LinkLemmas.{unheard-indexed}
use Rattle.mh_work.proofs.links.Links.hears_none.Goals as goal

pub returns : goal.returns
returns c = search (rules, unheard-indexed c.args.event.now c.args.self.now (all c.args.objects.now) c.requires)
