-- Where actions are written in files: the file, the line and the column.
use Rattle.std.specs.Prelude.{ℕ, ◌+◌, if◌then◌else◌, List, [], ◌∷◌, ◌++◌, codes, Option, Some, None, option_and_then}
use Rattle.mh_base.specs.declared.obj_ref.ObjRef.{ObjRef}
use Rattle.mh_group.specs.declared.action_name.ActionName.{ActionName}
use Rattle.mh_group.specs.declared.attribute.Attribute.{Attribute}
use Rattle.mh_group.specs.declared.attribute.Attribute.TheVariants as attribute
use Rattle.mh_places.specs.declared.place.Place.{Place}
use Rattle.mh_places.specs.Places.{place_at, place_text}
use Rattle.mh_text.specs.declared.mark.Mark.{Mark}
use Rattle.mh_text.specs.Marks.{marks}
use Rattle.mh_told.specs.Reading.{Source}
use Rattle.mh_trace.specs.declared.site.EffectKind.{EffectKind}
use Rattle.mh_trace.specs.declared.site.EffectKind.TheVariants as kind
use Rattle.mh_trace.specs.declared.site.Site.{Site}
use Rattle.mh_trace.specs.Sites.{is_in}
use Rattle.mh_trace.specs.Directory.{Directory, with_entry}

-- the effect that a field is
abbrev pub kind_of : Attribute → Option EffectKind
kind_of attribute.OnStartUp = Some kind.StartUp
kind_of attribute.OnCloseDown = Some kind.CloseDown
kind_of attribute.LinkEffect = Some kind.Link
kind_of _ = None

-- the effect in which an action is marked
abbrev pub kind_if : Option ActionName → Attribute → Option EffectKind
kind_if None a = None
kind_if (Some name) a = kind_of a

abbrev pub marked_kind : Mark → Option EffectKind
marked_kind m = kind_if m.action m.field

-- the next action of an effect has the next number, the first of another effect 1
abbrev pub number_behind : Site → ObjRef → EffectKind → ℕ
number_behind s r k = if is_in r k s then s.number + 1 else 1

abbrev pub site_behind : Site → ObjRef → EffectKind → Site
site_behind s r k = record { object = r; kind = k; number = number_behind s r k }

abbrev pub object_in : List ℕ → ℕ → ObjRef
object_in group n = record { group = group; number = n }

-- before the first action of a file
abbrev pub beginning_of : List ℕ → Site
beginning_of group = record { object = object_in group 0; kind = kind.StartUp; number = 0 }

-- the file, the line and the column
unfoldable pub written_at : List ℕ → Place → List ℕ
written_at group p = group ++ codes ":" ++ place_text p

abbrev pub written : List ℕ → List ℕ → Mark → List ℕ
written group bytes m = written_at group (place_at bytes m.start)

-- the place of an action that is marked, behind the action that was marked before
abbrev pub site_of : List ℕ → Site → Mark → Option Site
site_of group s m = option_and_then (λ k. Some (site_behind s (object_in group m.object) k)) (marked_kind m)

abbrev pub last_of : Option Site → Site → Site
last_of None s = s
last_of (Some t) s = t

abbrev pub with_mark : Option Site → List ℕ → Directory → Directory
with_mark None text ws = ws
with_mark (Some t) text ws = with_entry t text ws

-- with the actions of these marks of a file, of which the last one before them stands there
abbrev pub with_marks : List ℕ → List ℕ → Site → List Mark → Directory → Directory
with_marks group bytes s [] ws = ws
with_marks group bytes s (m ∷ ms) ws =
    with_marks group bytes (last_of (site_of group s m) s) ms (with_mark (site_of group s m) (written group bytes m) ws)

abbrev pub with_file : Source → Directory → Directory
with_file f ws = with_marks f.0 f.1.items (beginning_of f.0) (marks f.1.items) ws

abbrev pub with_files : List Source → Directory → Directory
with_files [] ws = ws
with_files (f ∷ fs) ws = with_files fs (with_file f ws)

-- WHERE THE ACTIONS OF THESE FILES ARE WRITTEN
abbrev pub directory_of : List Source → Directory
directory_of files = with_files files []
