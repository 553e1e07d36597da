use Rattle.std.proofs.Common.{◌≡◌, drop, map}
use Rattle.std.specs.List.{flat_map}
use Rattle.mh_laws.specs.Active.{item_wrongs}
use Rattle.mh_verify.specs.Refusals.{found_of_part}
use Rattle.mh_verify.specs.Least.{least_of}
use Rattle.mh_verify.proofs.members.least_of_items.Given as goal

abbrev pub invariant-loop-item : goal.invariant-loop-item
invariant-loop-item l =
    least_of l.best (map (found_of_part l.scope.config.now l.key) (flat_map (item_wrongs l.scope.present l.key) (drop l.item-index l.items)))
    ≡ least_of l.fn.best (map (found_of_part l.scope.config.now l.key) (flat_map (item_wrongs l.scope.present l.key) l.items))
