use Rattle.std.proofs.Common.{◌∙◌, arith}
use Rattle.mh_service.proofs.ContentLemmas.{more_inserted}
use Rattle.mh_service.proofs.contents.each_once.Goals as goal

-- the name leaves the ones that are still to come
pub loop-name-preserved : goal.loop-name-preserved
loop-name-preserved c name =
    more_inserted name c.loop-name.names.keys c.insert.new.self.keys c.args.named.now c.loop-name.name-index c.name-item.result c.in_ok-clone.field-0 (omega arith) c.name-item.is c.in_ok-clone.ensures.cases c.in_ok-insert.ensures.keys ∙ c.loop-name.invariant name
