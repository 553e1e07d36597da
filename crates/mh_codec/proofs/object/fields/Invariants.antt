use Rattle.std.proofs.Common.{◌≡◌, ◌-◌, ◌≤◌}
use Rattle.mh_codec.specs.Reading.{fields}
use Rattle.mh_codec.proofs.object.fields.Given as goal

abbrev pub invariant-loop : goal.invariant-loop
invariant-loop l = record {
  same : fields l.tags l.class (64 - l.counter) l.last l.fields l.reader ≡ fields l.tags l.class 64 l.fn.last l.fn.before l.fn.reader;
  risen : l.counter ≤ l.last;
  small : l.last ≤ 38;
}
