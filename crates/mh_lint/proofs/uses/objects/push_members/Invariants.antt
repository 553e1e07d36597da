use Rattle.std.proofs.Common.{◌≡◌, ◌++◌, drop}
use Rattle.std.specs.List.{flat_map}
use Rattle.mh_model.specs.Tokens.{member_actions}
use Rattle.mh_lint.proofs.uses.objects.push_members.Given as goal

abbrev pub invariant-loop-member : goal.invariant-loop-member
invariant-loop-member l =
    l.all.items ++ flat_map member_actions (drop l.member-index l.members) ≡ l.initial.all.items ++ flat_map member_actions l.members
