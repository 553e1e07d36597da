-- A service that is known in part: a stub, its group with its class alone, stands for each scene whose file is not there yet.
use Rattle.std.specs.Prelude.{ℕ, ◌&&◌, not, if◌then◌else◌, List, [], filter, map, Option, Some, None, is_none, unwrap_or}
use Rattle.std.specs.Str.{bytes_eq}
use Rattle.mh_group.specs.declared.class.Class.TheVariants as class
use Rattle.mh_group.specs.declared.written.Written.{Written}
use Rattle.mh_group.specs.Table.{is_scene}
use Rattle.mh_model.specs.declared.object.Fixed.{Fixed}
use Rattle.mh_model.specs.Configuration.{is_group_of}
use Rattle.mh_model.specs.First.{put_first}
use Rattle.mh_model.specs.Service.{Service}
use Rattle.mh_service.specs.declared.sealed.UnfilledWhy.{UnfilledWhy}
use Rattle.mh_service.specs.declared.sealed.UnfilledWhy.TheVariants as unfilled
use Rattle.mh_service.specs.declared.service_error.Why.TheVariants as why
use Rattle.mh_service.specs.Limits.{has_room, whole_room}
use Rattle.mh_service.specs.Refusals.{File, has_double_number}
use Rattle.mh_service.specs.Resolved.{group_leads}

-- the scene of which nothing is written
abbrev pub stub : Written
stub = record { class = class.Scene; identifier = []; fields = []; items = None }

-- the name of a group, and what its file writes, if it is there
abbrev pub Entry : Type 0
Entry = List ℕ × Option Written

-- a stub stands for what is not there
abbrev pub as_file : Entry → File
as_file e = (e.0, unwrap_or e.1 stub)

-- the names of those that are not there
abbrev pub missing : List Entry → List (List ℕ)
missing es = map (λ e. e.0) (filter (λ e. is_none e.1) es)

-- the service with these parts as those of the group
abbrev pub with_group : List ℕ → List Fixed → Service → Service
with_group g ps v = record v { groups = put_first (λ e. bytes_eq e.0 g) (g, ps) v.groups }

-- why the group is not put in the place of a stub, if it is not: the first of these
abbrev pub unfilled_by : Service → List ℕ → Written → Option UnfilledWhy
unfilled_by v g w =
    if not (is_group_of is_scene v g && is_scene w.class) then Some unfilled.NotAScene
    else (if has_double_number w then Some (unfilled.Unfit why.DoubleNumber)
    else (if not (has_room whole_room w) then Some (unfilled.Unfit why.Limit)
    else (if not (group_leads g w) then Some (unfilled.Unfit why.BadReference) else None)))
