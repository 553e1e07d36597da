use Rattle.std.proofs.Common.{◌≡◌, drop, []}
use Rattle.mh_model.specs.ListItems.{entries_once}
use Rattle.mh_model.proofs.object.listing.entries_of_members.Given as goal

abbrev pub invariant-loop-member : goal.invariant-loop-member
invariant-loop-member l = entries_once l.entries.items (drop l.member-index l.members) ≡ entries_once [] l.members
