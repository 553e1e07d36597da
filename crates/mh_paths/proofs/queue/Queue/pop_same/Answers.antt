use Rattle.std.proofs.Common.{◌∷◌}
use Rattle.std.specs.BinaryHeap.{heap_items}
use Rattle.std.specs.declared.cmp.Reverse.{Reverse}
use Rattle.std.proofs.lemmas.List.Sorted.{IsPermutation-map}
use Rattle.mh_paths.specs.declared.due.Due.{Due}
use Rattle.mh_paths.proofs.queue.Queue.pop_same.Goals as goal

pub returns-in_ok-next-2-clause-some : goal.returns-in_ok-next-2-clause-some
returns-in_ok-next-2-clause-some c = IsPermutation-map (λ (r : Reverse Due). r.0) (heap_items c.args.self.now.heap) (c.in_ok-next-2.field-0 ∷ heap_items c.pop.new.self) c.in_ok-next-2.ensures.permutation
