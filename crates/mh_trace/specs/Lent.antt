-- What a picture is lent from stays as it is.
use Rattle.std.specs.Prelude.{◌≡◌}
use Rattle.std.specs.Borrow.{Fml, MutBor}
use Rattle.std.specs.Io.BufRead.{Rests}
use Rattle.mh_trace.specs.Trace.{Tracing}
use Rattle.mh_trace.specs.contracts.tracer.Tracer.{the_row}

abbrev pub TracerStays : MutBor Tracing → Fml
TracerStays t = Rests the_row t (λ n. n ≡ t.now)
