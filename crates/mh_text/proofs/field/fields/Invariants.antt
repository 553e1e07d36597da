use Rattle.std.proofs.Common.{◌≡◌, ◌-◌}
use Rattle.mh_base.specs.Limits.{longest_list}
use Rattle.mh_text.specs.Reading.{fields}
use Rattle.mh_text.proofs.field.fields.Given as goal

abbrev pub invariant-loop : goal.invariant-loop
invariant-loop l = fields l.class (longest_list - l.counter) l.fields l.place ≡ fields l.class longest_list l.fn.before l.fn.place
