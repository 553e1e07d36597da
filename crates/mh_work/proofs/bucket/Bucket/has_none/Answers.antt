use Rattle.std.proofs.Common.{rules}
use Rattle.mh_work.proofs.BucketLemmas.{unmarked_waits_none}
use Rattle.mh_work.proofs.bucket.Bucket.has_none.Goals as goal

pub returns : goal.returns
returns c = search (rules, unmarked_waits_none c.self.inside.types c.args.kind c.type_bit.result c.self.inside.listeners.items c.type_bit.ensures c.self.invariant)
