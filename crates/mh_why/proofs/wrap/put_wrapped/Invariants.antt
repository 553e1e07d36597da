use Rattle.std.proofs.Common.{◌≡◌, ◌≤◌, ◌+◌, ◌++◌, length}
use Rattle.std.specs.List.{flat_map}
use Rattle.mh_told.specs.Printing.{character}
use Rattle.mh_why.specs.Wrapping.{wrapped}
use Rattle.mh_why.proofs.wrap.put_wrapped.Given as goal

abbrev pub invariant-loop-rest : goal.invariant-loop-rest
invariant-loop-rest l = record {
  same : l.text ++ flat_map character (wrapped l.column l.rest) ≡ l.initial.text ++ flat_map character (wrapped 0 l.characters);
  few : length l.rest ≤ length l.characters;
  within : l.column + length l.rest ≤ length l.characters + 4;
}

abbrev pub decreases-loop-rest : goal.decreases-loop-rest
decreases-loop-rest l = length l.rest
