use Rattle.std.proofs.Common.{◌≡◌, ◌-◌, []}
use Rattle.mh_text.specs.Reading.{listed}
use Rattle.mh_text.proofs.form.members.Given as goal

abbrev pub invariant-loop : goal.invariant-loop
invariant-loop g l = listed g.F.Form.reading (l.fn.most - l.counter) l.members l.place ≡ listed g.F.Form.reading l.fn.most [] l.fn.place
