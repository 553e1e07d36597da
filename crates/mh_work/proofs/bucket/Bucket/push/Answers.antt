use Rattle.std.specs.Prelude.{bit_or}
use Rattle.std.proofs.Common.{sym, subst}
use Rattle.mh_work.specs.Listening.{AreMarked}
use Rattle.mh_work.proofs.BucketLemmas.{marked_one_more}
use Rattle.mh_work.proofs.bucket.Bucket.push.Goals as goal

pub invariant_of-self-2 : goal.invariant_of-self-2
invariant_of-self-2 c = subst (AreMarked (bit_or c.self.inside.types c.type_bit.result)) (sym c.in_ok-push.ensures.ok) (marked_one_more c.self.inside.types c.type_bit.result c.self.inside.listeners.items c.args.listener c.type_bit.ensures c.self.invariant)
