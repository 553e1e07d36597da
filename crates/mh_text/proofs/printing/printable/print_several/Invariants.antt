-- What is printed and what is left are together what is to be printed.
use Rattle.std.proofs.Common.{◌≡◌, ◌++◌, drop}
use Rattle.std.specs.List.{list_all, flat_map}
use Rattle.mh_text.proofs.printing.printable.print_several.Given as goal

abbrev pub invariant-loop-member : goal.invariant-loop-member
invariant-loop-member g l = record {
  printed : l.out.items ++ flat_map g.T.Printable.printed (drop l.member-index l.members) ≡ l.fn.out.items ++ flat_map g.T.Printable.printed l.members;
  fits : list_all g.T.Printable.is_good (drop l.member-index l.members) ≡ list_all g.T.Printable.is_good l.members;
}
