use Rattle.std.proofs.Common.{◌≡◌, ◌++◌, drop}
use Rattle.std.specs.Prelude.{codes}
use Rattle.std.specs.List.{list_all}
use Rattle.mh_seal.specs.Reading.{is_group}
use Rattle.mh_seal.specs.Text.{group_value, lines}
use Rattle.mh_seal.proofs.printing.put_groups.Given as goal

abbrev pub invariant-loop-group : goal.invariant-loop-group
invariant-loop-group l = record {
  text : l.out.items ++ lines (codes "group ") group_value (drop l.group-index l.groups) ≡ l.fn.out.items ++ lines (codes "group ") group_value l.groups;
  good : list_all is_group (drop l.group-index l.groups) ≡ list_all is_group l.groups;
}
