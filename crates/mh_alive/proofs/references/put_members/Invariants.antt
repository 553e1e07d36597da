use Rattle.std.proofs.Common.{◌≡◌, drop, map}
use Rattle.indexmap.specs.IndexSet.{insert_all}
use Rattle.mh_model.specs.Reference.{same_key}
use Rattle.mh_alive.proofs.references.put_members.Given as goal

abbrev pub invariant-loop-member : goal.invariant-loop-member
invariant-loop-member l =
    insert_all same_key l.references.keys (map (λ m. m.object) (drop l.member-index l.members)) ≡ insert_all same_key l.initial.references.keys (map (λ m. m.object) l.members)
