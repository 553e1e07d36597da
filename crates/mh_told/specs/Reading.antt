-- What files are read as: a service, or the first of them that cannot be read.
use Rattle.std.specs.Prelude.{◌≡◌, ℕ, ◌-◌, Bool, ◌&&◌, ◌||◌, not, if◌then◌else◌, List, [], ◌∷◌, ◌++◌, length, take, drop, Option, Some, None, Result, Ok, Err, Vec, map, unwrap_or, nat_eq}
use Rattle.std.specs.List.{find}
use Rattle.std.specs.Cmp.Lexicographic.{pointwise}
use Rattle.std.specs.Str.{bytes_eq}
use Rattle.std.specs.declared.alloc.Global.{Global}
use Rattle.bstr.specs.Text.{lines_of}
use Rattle.indexmap.specs.IndexSet.{insert_all}
use Rattle.mh_base.specs.Path.{is_path}
use Rattle.mh_group.specs.declared.written.Written.{Written}
use Rattle.mh_group.specs.Table.{is_scene}
use Rattle.mh_model.specs.Configuration.{is_group_of}
use Rattle.mh_model.specs.Service.{Service}
use Rattle.mh_service.specs.Refusals.{File, Refusal as ServiceRefusal, refusal_of, for_reason, double_name}
use Rattle.mh_service.specs.Resolved.{resolved}
use Rattle.mh_service.specs.Numbers.{why_number}
use Rattle.mh_service.specs.declared.service_error.Why.TheVariants as why
use Rattle.mh_text.specs.Lexing.{begins_group}
use Rattle.mh_text.specs.Reading.{read}
use Rattle.mh_text.specs.Numbers.{number_of}
use Rattle.mh_text.specs.Gives.{Refusal as TextRefusal}
use Rattle.mh_codec.specs.Reading.{read as read_octets, begins_group as begins_octets}
use Rattle.mh_codec.specs.Tags.{Tags, profile}
use Rattle.mh_codec.specs.TagLines.{TagRefusal, WrongLine, DoubleTag, read_table}
use Rattle.mh_codec.specs.Numbers.{number_of as octets_number_of}
use Rattle.mh_codec.specs.Gives.{Refusal as OctetsRefusal}
use Rattle.mh_told.specs.declared.unplayable.Unplayable.{Unplayable}
use Rattle.mh_told.specs.declared.unplayable.Unplayable.TheVariants as unplayable

infixl 10 ◌>>=◌
abbrev pub ◌>>=◌ : {A B : Type 0} → Result A Unplayable → (A → Result B Unplayable) → Result B Unplayable
(Ok x) >>= f = f x
(Err e) >>= f = Err e

-- Reading.

-- a file as it was handed in: its path and its bytes
abbrev pub Source : Type 0
Source = List ℕ × Vec ℕ Global

-- a file that writes no group is what cannot be read
abbrev pub named : List ℕ → Result Written TextRefusal → Result Written Unplayable
named name (Ok group) = Ok group
named name (Err e) = Err (unplayable.File name (number_of e.why) e.offset)

-- the same, of a file in the binary notation
abbrev pub spelled : List ℕ → Result Written OctetsRefusal → Result Written Unplayable
spelled name (Ok group) = Ok group
spelled name (Err e) = Err (unplayable.File name (octets_number_of e.why) e.offset)

-- a file of tags that makes no table is what cannot be read
abbrev pub tagged : Result Tags TagRefusal → Result Tags Unplayable
tagged (Ok tags) = Ok tags
tagged (Err (WrongLine line)) = Err (unplayable.Tags 60 line)
tagged (Err (DoubleTag context)) = Err (unplayable.Tags 61 context)

-- the table of tags that a file gives; without one it is the profile's
unfoldable pub table_of : Option (List ℕ) → Result Tags Unplayable
table_of None = Ok profile
table_of (Some bytes) = tagged (read_table bytes)

-- Groups, where the binary notation has the tags of a table.
module _ (tags : Tags) where
  -- the bytes begin as a group does, in either notation
  abbrev pub is_group_file : List ℕ → Bool
  is_group_file bytes = begins_group bytes || begins_octets tags bytes

  -- the group that the bytes of this file write, in the notation in which they begin
  unfoldable pub group_in : List ℕ → List ℕ → Result Written Unplayable
  group_in name bytes = if begins_octets tags bytes then spelled name (read_octets tags bytes) else named name (read bytes)

  -- the groups with that of a file behind them; a file that does not begin as a group does is passed over
  unfoldable pub with_file : List File → Source → Result (List File) Unplayable
  with_file done f =
      if is_group_file f.1.items then group_in f.0 f.1.items >>= (λ (group : Written). Ok (done ++ (f.0, group) ∷ []))
      else Ok done

  -- the groups of the files in order behind these, or the first file that cannot be read
  abbrev pub read_files : List File → List Source → Result (List File) Unplayable
  read_files done [] = Ok done
  read_files done (f ∷ fs) = with_file done f >>= (λ (more : List File). read_files more fs)

-- why the groups make no service with this start; a text that is no path is the name of no group
abbrev pub unstartable_for : List ℕ → List File → ServiceRefusal
unstartable_for start groups = unwrap_or (for_reason why.DoubleName (double_name [] groups)) (why.NoStart, start)

unfoldable pub refusal_for : List ℕ → List File → Option ServiceRefusal
refusal_for start groups = if is_path start then refusal_of start groups else Some (unstartable_for start groups)

abbrev pub unserviceable : ServiceRefusal → Unplayable
unserviceable r = unplayable.Service (why_number r.0) r.1

abbrev pub unless_refused : {A : Type 0} → Option ServiceRefusal → A → Result A Unplayable
unless_refused None x = Ok x
unless_refused (Some r) x = Err (unserviceable r)

unfoldable pub service_of : List ℕ → List File → Result Service Unplayable
service_of start groups = unless_refused (refusal_for start groups) (record { groups = map resolved groups; start = start; programs = []; files = groups; late = [] })

-- Late scenes. The file that names them has a name a line.

-- a line without the line feed that ends it
abbrev pub without_feed : List ℕ → List ℕ
without_feed line = if bytes_eq (drop (length line - 1) line) (10 ∷ []) then take (length line - 1) line else line

-- its lines, of which the last may lack the line feed; no bytes are no line
abbrev pub late_lines : List ℕ → List (List ℕ)
late_lines bytes = map without_feed (lines_of bytes)

-- no scene of the service has this line as its name
abbrev pub names_no_scene : Service → List ℕ → Bool
names_no_scene service line = not (is_path line && is_group_of is_scene service line)

-- 37: the line that is told names no scene
abbrev pub unless_no_scene : {A : Type 0} → Option (List ℕ) → A → Result A Unplayable
unless_no_scene None x = Ok x
unless_no_scene (Some line) x = Err (unplayable.Service 37 line)

-- these names, each once, in the order in which they are first named
abbrev pub each_once : List (List ℕ) → List (List ℕ)
each_once names = insert_all (pointwise nat_eq) [] names

-- the service in which these scenes come late, unless one of them is none
unfoldable pub with_names : List (List ℕ) → Service → Result Service Unplayable
with_names names service = unless_no_scene (find (names_no_scene service) names) (record service { late = each_once names })

-- the service in which the scenes that a file names come late; without a file none does
abbrev pub with_late : Option (List ℕ) → Service → Result Service Unplayable
with_late None service = Ok service
with_late (Some bytes) service = with_names (late_lines bytes) service

-- the service of the groups among the files, with its start and its late scenes, or the first thing that is in the way
unfoldable pub service_read : Tags → List ℕ → Option (List ℕ) → List Source → Result Service Unplayable
service_read tags start late files = read_files tags [] files >>= service_of start >>= with_late late

-- the same with the table that a file gives, which is read before all others
unfoldable pub service_tagged : Option (List ℕ) → List ℕ → Option (List ℕ) → List Source → Result Service Unplayable
service_tagged tags start late files = table_of tags >>= (λ (t : Tags). service_read t start late files)

-- Answers of functions.

-- the error is what the reading says, or memory was refused
abbrev pub Fails : {Y : Type 0} → Unplayable → Result Y Unplayable → Type 0
Fails (unplayable.File name number offset) r = r ≡ Err (unplayable.File name number offset)
Fails (unplayable.Service number group) r = r ≡ Err (unplayable.Service number group)
Fails (unplayable.Tags number place) r = r ≡ Err (unplayable.Tags number place)
Fails (unplayable.Script number) r = r ≡ Err (unplayable.Script number)
Fails unplayable.NoMemory r = Unit {0}

-- what a function answered, seen by view, is what the reading says, unless memory was refused
abbrev pub Gives : {X Y : Type 0} → (X → Y) → Result X Unplayable → Result Y Unplayable → Type 0
Gives view (Ok x) r = r ≡ Ok (view x)
Gives view (Err e) r = Fails e r
