-- What is refused since something else is.
use Rattle.std.specs.Prelude.{Bool, true, false, ◌&&◌, ◌||◌, List, Option}
use Rattle.std.specs.List.{find, list_any}
use Rattle.std.specs.Ordering.{is_lt, is_ne}
use Rattle.mh_flow.specs.declared.chain.link.Link.{Link}
use Rattle.mh_model.specs.Reference.{same_key}
use Rattle.mh_verify.specs.declared.refusal.Found.{Found}
use Rattle.mh_verify.specs.declared.refusal.Place.{Place}
use Rattle.mh_verify.specs.declared.refusal.RefusalKind.{RefusalKind}
use Rattle.mh_verify.specs.declared.refusal.RefusalKind.TheVariants as kind
use Rattle.mh_verify.specs.Naming.{is_at}
use Rattle.mh_verify.specs.Order.{by_place}
use Rattle.mh_refusals.specs.declared.told.Told.{Told}

-- the reference came by way of the action at the place

abbrev pub is_link_at : Place → Link → Bool
is_link_at p l = is_at p l.key l.index

abbrev pub pass : List Link → Place → Bool
pass ls p = list_any (is_link_at p) ls

-- the reference came by way of the action at another place
abbrev pub is_brought_by : Told → Told → Bool
is_brought_by t y = is_ne (by_place y.found.place t.found.place) && pass t.chain y.found.place

-- both are refused since one object is absent, which the second names

abbrev pub is_absence : RefusalKind → Bool
is_absence kind.AbsentObject = true
is_absence kind.HeldAbsent = true
is_absence _ = false

abbrev pub names_absent : RefusalKind → Bool
names_absent kind.AbsentObject = true
names_absent _ = false

abbrev pub want_one : Found → Found → Bool
want_one x y = is_absence x.kind && names_absent y.kind && same_key x.object y.object

abbrev pub shares : Told → Told → Bool
shares t y = is_lt (by_place y.found.place t.found.place) && want_one t.found y.found

-- what is wrong there may be why this is refused
unfoldable pub may_cause : Told → Told → Bool
may_cause t y = is_brought_by t y || shares t y

-- the first such
abbrev pub cause_of : List Told → Told → Option Told
cause_of ts t = find (may_cause t) ts
