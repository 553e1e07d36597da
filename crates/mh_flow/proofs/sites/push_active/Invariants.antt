use Rattle.std.proofs.Common.{◌≡◌, ◌++◌, drop, filter}
use Rattle.std.specs.List.{flat_map}
use Rattle.mh_laws.specs.Active.{is_active}
use Rattle.mh_flow.specs.Sites.{sites}
use Rattle.mh_flow.proofs.sites.push_active.Given as goal

abbrev pub invariant-loop-part : goal.invariant-loop-part
invariant-loop-part l = l.all.items ++ flat_map sites (filter (is_active l.present) (drop l.part-index l.parts)) ≡ l.initial.all.items ++ flat_map sites (filter (is_active l.present) l.parts)
