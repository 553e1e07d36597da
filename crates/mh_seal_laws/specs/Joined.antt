-- What is made of the groups of a seal is what the laws speak of.
use Rattle.std.specs.Prelude.{◌≡◌, ℕ, if◌then◌else◌, List, [], filter, map, Some, None}
use Rattle.mh_model.specs.Late.{is_late_scene}
use Rattle.mh_model.specs.Service.{Service}
use Rattle.mh_service.specs.Refusals.{File}
use Rattle.mh_service.specs.Resolved.{resolved}
use Rattle.mh_service.specs.Sealed.{Entry, as_file, missing}
use Rattle.mh_seal_laws.specs.Stubs.{stubbed}

-- a group as one has it where no late scene is there
abbrev pub as_entry : List (List ℕ) → File → Entry
as_entry late f = (f.0, if is_late_scene f.0 late then None else Some f.1)

abbrev pub entries : Service → List Entry
entries v = map (as_entry v.late) v.files

-- the service is that of its files, with the built-in programs alone and its late scenes in the order of the files
pub record IsOfFiles (v : Service) : Type 0 where
  pub groups : v.groups ≡ map resolved v.files
  pub programs : v.programs ≡ []
  pub late : v.late ≡ map (λ f. f.0) (filter (λ f. is_late_scene f.0 v.late) v.files)

-- and this one is that of these groups, as `Service::of_seal` makes it
pub record IsOfSeal (u : Service) (application : List ℕ) (es : List Entry) : Type 0 where
  pub groups : u.groups ≡ map resolved (map as_file es)
  pub start : u.start ≡ application
  pub programs : u.programs ≡ []
  pub files : u.files ≡ []
  pub late : u.late ≡ missing es

-- What `Service::of_seal` makes of a service's groups without its late scenes is the service with stubs.
abbrev pub OfSealIsStubbed : Type 0
OfSealIsStubbed = (v u : Service) → IsOfFiles v → IsOfSeal u v.start (entries v) → u ≡ stubbed v
