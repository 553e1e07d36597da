use Rattle.std.proofs.Common.{◌≡◌, drop, map}
use Rattle.std.specs.List.{flat_map}
use Rattle.mh_laws.specs.Active.{item_wrongs}
use Rattle.mh_verify.specs.Refusals.{found_of_part}
use Rattle.mh_refusals.specs.Places.{listed}
use Rattle.mh_refusals.proofs.members.list_items.Given as goal

abbrev pub invariant-loop-item : goal.invariant-loop-item
invariant-loop-item l =
    listed l.most l.list.items (map (found_of_part l.scope.config.now l.key) (flat_map (item_wrongs l.scope.present l.key) (drop l.item-index l.items)))
    ≡ listed l.most l.initial.list.items (map (found_of_part l.scope.config.now l.key) (flat_map (item_wrongs l.scope.present l.key) l.items))
