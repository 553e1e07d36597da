use Rattle.std.proofs.Common.{◌≡◌, ◌++◌, ◌+◌, ◌≤◌, vec_len, List, ℕ}
use Rattle.std.specs.VecDeque.{deque_len, deque_capacity}
use Rattle.mh_model.specs.declared.item.Item.{Item}
use Rattle.mh_work.specs.declared.batch.Batch.{Batch}
use Rattle.mh_work.specs.declared.portion.Portion.{Portion}
use Rattle.mh_work.specs.Batches.{written}
use Rattle.mh_work.specs.Portions.{AreLive, flat}
use Rattle.mh_work.proofs.work.put_in_front.Given as goal

-- what is left to put, and what is there, is all; and there is room for the rest
pub record HasRoom (left : List Batch) (portions : List Portion) (all : List Item)
    (count len capacity : ℕ) : Type 0 where
  pub whole : written left ++ flat portions ≡ all
  pub live : AreLive portions
  pub room : len + count ≤ capacity

abbrev pub invariant-loop-batch : goal.invariant-loop-batch
invariant-loop-batch l =
    let all = written l.fn.batches.items ++ flat l.fn.portions.items in
    HasRoom l.left.items l.portions.items all (vec_len l.left) (deque_len l.portions) (deque_capacity l.portions)

abbrev pub decreases-loop-batch : goal.decreases-loop-batch
decreases-loop-batch l = vec_len l.left
