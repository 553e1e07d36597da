use Rattle.std.proofs.Common.{rules}
use Rattle.mh_model.specs.State.{all}
use Rattle.mh_work.proofs.LinkLemmas.{heard-indexed}
use Rattle.mh_work.proofs.links.Links.heard.Goals as goal

pub returns : goal.returns
returns c = search (rules, heard-indexed c.args.event.now c.args.self.now (all c.args.objects.now) c.requires)
