use Rattle.std.proofs.Common.{take}
use Rattle.mh_carousel.specs.Carried.{files_of}
use Rattle.mh_carousel.proofs.AheadLemmas.{there_ahead, brought_ahead}
use Rattle.mh_carousel.proofs.ahead.has_ahead.Goals as goal

pub returns-then-has : goal.returns-then-has
returns-then-has c = there_ahead c.args.name.now (files_of c.args.files.now.entries) (take c.args.count c.args.queue.now.items) c.if-has.ensures

pub returns : goal.returns
returns c = brought_ahead c.args.name.now (files_of c.args.files.now.entries) (take c.args.count c.args.queue.now.items) c.is_brought.result c.if-has.ensures c.is_brought.ensures
