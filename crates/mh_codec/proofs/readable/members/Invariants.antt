use Rattle.std.proofs.Common.{◌≡◌, ◌-◌, []}
use Rattle.mh_codec.specs.Reading.{listed}
use Rattle.mh_codec.proofs.readable.members.Given as goal

abbrev pub invariant-loop : goal.invariant-loop
invariant-loop g l = listed (g.T.Readable.reading l.tags) (l.fn.limit - l.counter) l.members l.reader ≡ listed (g.T.Readable.reading l.tags) l.fn.limit [] l.fn.reader
