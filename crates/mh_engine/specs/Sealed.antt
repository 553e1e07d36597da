-- An engine that goes by a seal: what it begins with, and what a post comes to. Its posts and steps are the moves of
-- `sealed_run` of `mh_seal_laws` with the seal `by_told`, of which the law `told_seal_goes_well` speaks.
use Rattle.std.specs.Prelude.{◌≡◌, ℕ, if◌then◌else◌, List, [], ◌∷◌, map, Option, Some, None}
use Rattle.std.specs.List.{position, remove}
use Rattle.std.specs.Option.{option_map, option_map_or, option_or}
use Rattle.std.specs.Str.{bytes_eq}
use Rattle.mh_group.specs.declared.written.Written.{Written}
use Rattle.mh_laws.specs.Budget.{bound_of}
use Rattle.mh_model.specs.declared.input.Input.{Input}
use Rattle.mh_model.specs.declared.transition.Transition.{Transition}
use Rattle.mh_model.specs.declared.transition.Transition.TheVariants as transition
use Rattle.mh_model.specs.Late.{written_at}
use Rattle.mh_model.specs.Service.{Service}
use Rattle.mh_model.specs.State.{State}
use Rattle.mh_seal.specs.declared.seal.Seal.{Seal}
use Rattle.mh_seal.specs.declared.seal.SealedGroup.{SealedGroup}
use Rattle.mh_seal_laws.specs.Seal.{sealed_posted}
use Rattle.mh_seal_laws.specs.Told.{bounds_in, by_told}
use Rattle.mh_service.specs.Numbers.{why_number}
use Rattle.mh_service.specs.Refusals.{File, Refusal, refusal_of}
use Rattle.mh_service.specs.Resolved.{resolved}
use Rattle.mh_service.specs.Sealed.{Entry, as_file, missing}
use Rattle.mh_engine.specs.declared.sealed.starting.Unsealed.{Unsealed}
use Rattle.mh_engine.specs.declared.sealed.starting.Unsealed.TheVariants as unsealed
use Rattle.mh_engine.specs.Play.{with_more}

-- what an engine by a seal has: the machine's state, the seal, and the most steps that may be taken for what was posted
-- so far, if it is the seal of an accepted service
pub record SealedPlay : Type 0 where
  pub state : State
  pub seal : Seal
  pub budget : ℕ

-- What is there at the start

-- the file of a group, if it does not come late
abbrev pub file_at : SealedGroup → List File → Option Written
file_at g fs = if g.is_late then None else written_at g.name fs

-- the files without it
abbrev pub files_behind : SealedGroup → List File → List File
files_behind g fs = if g.is_late then fs else option_map_or (remove fs) (position (λ f. bytes_eq f.0 g.name) fs) fs

-- the groups of a seal, each with its file; late ones come by posts
abbrev pub entries_of : List SealedGroup → List File → List Entry
entries_of [] fs = []
entries_of (g ∷ gs) fs = (g.name, file_at g fs) ∷ entries_of gs (files_behind g fs)

-- why the file of a group stands in the way, if it does: it is not there, or is another than the sealed one

abbrev pub unsealed_by : Seal → List ℕ → Option Written → Option Unsealed
unsealed_by s name None = Some (unsealed.Missing name)
unsealed_by s name (Some x) = if (by_told s).fits name x then None else Some (unsealed.Differs name)

abbrev pub unsealed_at : Seal → SealedGroup → Option Written → Option Unsealed
unsealed_at s g x = if g.is_late then None else unsealed_by s g.name x

-- the first of these groups whose file does
abbrev pub first_unsealed : Seal → List SealedGroup → List File → Option Unsealed
first_unsealed s [] fs = None
first_unsealed s (g ∷ gs) fs = option_or (unsealed_at s g (written_at g.name fs)) (first_unsealed s gs (files_behind g fs))

abbrev pub no_service : Refusal → Unsealed
no_service r = unsealed.NoService r.0 r.1

-- why no engine begins by a seal with these files, if none does: a file that is not the sealed one is told before what is
-- wrong with the service
abbrev pub sealed_refusal : Seal → List File → Option Unsealed
sealed_refusal s fs =
    option_or (first_unsealed s s.groups fs) (option_map no_service (refusal_of s.start (map as_file (entries_of s.groups fs))))

-- this is told, or memory was refused
abbrev pub IsToldOf : Option Unsealed → Unsealed → Type 0
IsToldOf told (unsealed.Missing name) = told ≡ Some (unsealed.Missing name)
IsToldOf told (unsealed.Differs name) = told ≡ Some (unsealed.Differs name)
IsToldOf told (unsealed.NoService why name) = told ≡ Some (unsealed.NoService why name)
IsToldOf told unsealed.NoMemory = Unit {0}

-- the number of a refusal, and the group that it names; want of memory has none

abbrev pub unsealed_number : Unsealed → Option ℕ
unsealed_number (unsealed.Missing name) = Some 72
unsealed_number (unsealed.Differs name) = Some 58
unsealed_number (unsealed.NoService why name) = Some (why_number why)
unsealed_number unsealed.NoMemory = None

abbrev pub unsealed_group : Unsealed → Option (List ℕ)
unsealed_group (unsealed.Missing name) = Some name
unsealed_group (unsealed.Differs name) = Some name
unsealed_group (unsealed.NoService why name) = Some name
unsealed_group unsealed.NoMemory = None

-- the service that is known of a seal and these files
abbrev pub service_of : Seal → List File → Service
service_of s fs = record {
  groups = map resolved (map as_file (entries_of s.groups fs));
  start = s.start;
  programs = [];
  files = [];
  late = missing (entries_of s.groups fs);
}

-- Posts

-- it moves as the sealed run of the laws does, and an input that is taken up adds its bound
abbrev pub taken_up : Input → SealedPlay → SealedPlay
taken_up i p = record p {
  state = sealed_posted (by_told p.seal) i p.state;
  budget = with_more p.budget (bound_of (bounds_in p.seal.bounds) i);
}

-- the scene for whose file a transition waits
abbrev pub awaited_by : Transition → Option (List ℕ)
awaited_by (transition.Awaits g) = Some g
awaited_by _ = None
