use Rattle.std.proofs.Common.{◌≡◌, [], replicate}
use Rattle.mh_work.proofs.links.Links.new.Given as goal

abbrev pub invariant-loop : goal.invariant-loop
invariant-loop l = l.buckets.items ≡ replicate l.counter []
