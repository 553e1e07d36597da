use Rattle.std.proofs.Common.{rules}
use Rattle.mh_laws.proofs.EachLemmas.{each_among, got_among}
use Rattle.mh_layers.specs.Reading.{kept}
use Rattle.mh_layers.proofs.ways.caused.open_at.Goals as goal

pub open-requires-clause-kept : goal.open-requires-clause-kept
open-requires-clause-kept c =
    each_among (kept c.args.numbered_service.now) c.args.found.now.keys c.in-Some.node c.requires.kept (got_among c.args.found.now.keys c.args.place c.in-Some.node (search rules))
