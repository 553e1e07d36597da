-- What a picture is lent from stays as it is.
use Rattle.std.specs.Prelude.{◌≡◌}
use Rattle.std.specs.Borrow.{Fml, MutBor}
use Rattle.std.specs.Io.BufRead.{Rests}
use Rattle.mh_engine.specs.Play.{Play}
use Rattle.mh_engine.specs.Sealed.{SealedPlay}
use Rattle.mh_engine.specs.contracts.engine.Engine.{the_row}
use Rattle.mh_engine.specs.contracts.sealed.SealedEngine.{the_row as sealed_row}

abbrev pub EngineStays : MutBor Play → Fml
EngineStays e = Rests the_row e (λ n. n ≡ e.now)

abbrev pub SealedEngineStays : MutBor SealedPlay → Fml
SealedEngineStays e = Rests sealed_row e (λ n. n ≡ e.now)
