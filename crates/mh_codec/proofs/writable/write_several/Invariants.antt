-- What is written and what is left are together what is to be written.
use Rattle.std.proofs.Common.{◌≡◌, ◌++◌, drop}
use Rattle.std.specs.List.{list_all}
use Rattle.mh_codec.specs.Spelling.{several}
use Rattle.mh_codec.proofs.writable.write_several.Given as goal

abbrev pub invariant-loop-member : goal.invariant-loop-member
invariant-loop-member g l = record {
  written : l.out.items ++ several (g.T.Writable.spelling l.tags) (drop l.member-index l.members) ≡ l.fn.out.items ++ several (g.T.Writable.spelling l.tags) l.members;
  fits : list_all g.T.Writable.is_good (drop l.member-index l.members) ≡ list_all g.T.Writable.is_good l.members;
}
