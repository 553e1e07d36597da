use Rattle.std.proofs.Common.{sym, subst}
use Rattle.mh_work.specs.Listening.{AreMarked}
use Rattle.mh_work.proofs.BucketLemmas.{marked-none}
use Rattle.mh_work.proofs.bucket.Bucket.new.Goals as goal

pub invariant_of-result : goal.invariant_of-result
invariant_of-result c = subst (AreMarked 0) (sym c.new.ensures.items) (marked-none 0)
