use Rattle.std.proofs.Common.{◌≡◌, ◌++◌, drop}
use Rattle.std.specs.Prelude.{codes}
use Rattle.std.specs.List.{list_all}
use Rattle.mh_base.specs.Path.{is_path}
use Rattle.mh_seal.specs.Text.{as_is, lines}
use Rattle.mh_seal.proofs.printing.put_names.Given as goal

abbrev pub invariant-loop-name : goal.invariant-loop-name
invariant-loop-name l = record {
  text : l.out.items ++ lines (codes "content ") as_is (drop l.name-index l.names) ≡ l.fn.out.items ++ lines (codes "content ") as_is l.names;
  good : list_all is_path (drop l.name-index l.names) ≡ list_all is_path l.names;
}
