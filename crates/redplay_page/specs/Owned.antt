-- What a handle owns: what a box of a session owns; or nothing, and then its address is null.
use base.Fml.{Fml, feq}
use base.Stored.{Coded}
use denote.RawPtr.{Ptr, null_ptr}
use Rattle.std.specs.Prelude.{Option, Some, None}
use Rattle.std.specs.Coded.{coded_option}
use Rattle.std.specs.Box.Ownership.{box_owns}
use Rattle.std.specs.declared.alloc.Global.{Global}
use Rattle.std.specs.contracts.impls.GlobalAllocator.TheImpl.{ghosts}
use Rattle.redplay_page.specs.contracts.session.Session.{the_row}
use Rattle.redplay_page.specs.Playing.{Playing}

abbrev pub owned : Global → Ptr → Option Playing → Fml
owned alloc at None = feq Ptr at null_ptr
owned alloc at (Some s) = box_owns (ghosts.dealloc_token alloc) the_row at s

abbrev pub coded_session : Coded (Option Playing)
coded_session = coded_option the_row.coded
