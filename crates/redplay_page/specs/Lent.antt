-- What becomes of a handle whose session is lent.
use base.Fml.{Fml}
use Rattle.std.specs.Prelude.{Some}
use Rattle.std.specs.Borrow.{MutBor, Lends}
use Rattle.redplay_page.specs.Playing.{Playing}
use Rattle.redplay_page.specs.contracts.session.Session.{the_row as S}
use Rattle.redplay_page.specs.declared.handle.Handle.{Handle}
use Rattle.redplay_page.specs.contracts.handle.Handle.{the_row}

-- h with the session s
abbrev pub with_session : Handle → Playing → Handle
with_session h s = record h { session = Some s }

abbrev pub LendsSession : MutBor Handle → MutBor Playing → Fml
LendsSession h s = Lends the_row S h s (with_session h.now)
