-- What a head end has to do with a service, and what it tells of it.
use Rattle.std.specs.Prelude.{◌≡◌, ℕ, List, [], filter, map}
use Rattle.std.specs.List.{Contains}
use Rattle.sha2.specs.Sha256.{sha256}
use Rattle.mh_codec.specs.Tags.{profile}
use Rattle.mh_codec.specs.Unwritable.{HasNoSpelling}
use Rattle.mh_laws.specs.Budget.{Bounds}
use Rattle.mh_model.specs.Late.{is_late_scene}
use Rattle.mh_model.specs.Service.{Service}
use Rattle.mh_service.specs.Refusals.{File}
use Rattle.mh_service.specs.Resolved.{resolved}
use Rattle.mh_seal.specs.declared.seal.Seal.{Seal}
use Rattle.mh_seal_laws.specs.Bringing.{AreScenes}
use Rattle.mh_seal_laws.specs.Digests.{IsSealable}
use Rattle.mh_seal_laws.specs.Joined.{IsOfFiles}
use Rattle.mh_seal_laws.specs.Told.{IsSealOf}
use Rattle.mh_told.specs.declared.unplayable.Unplayable.{Unplayable}
use Rattle.mh_told.specs.declared.unplayable.Unplayable.TheVariants as unplayable

-- the service is that of its files, with the built-in programs alone, and what is late are scenes
pub record IsWhole (v : Service) : Type 0 where
  pub groups : v.groups ≡ map resolved v.files
  pub programs : v.programs ≡ []
  pub scenes : AreScenes v v.late

-- the names of the files that are among the late ones
abbrev pub late_among : List (List ℕ) → List File → List (List ℕ)
late_among late fs = map (λ f. f.0) (filter (λ f. is_late_scene f.0 late) fs)

-- its late scenes in the order of its groups
abbrev pub in_order : Service → Service
in_order v = record v { late = late_among v.late v.files }

-- the file's group has no spelling, and is told by its name
abbrev pub IsUnspelled : File → Unplayable → Type 0
IsUnspelled f (unplayable.File name number offset) = (name ≡ f.0) × (number ≡ 13) × (offset ≡ 0) × HasNoSpelling profile f.1
IsUnspelled f _ = ⊥

-- a group of these files has none
abbrev pub IsUnsealable : List File → Unplayable → Type 0
IsUnsealable fs e = (f : File) × Contains fs f × IsUnspelled f e

-- THE SEAL IS ONE OF WHICH THE LAWS SPEAK: it is that of the service with these bounds and these octets of the file of tags, and
-- the service is one that can be sealed, whose late scenes are those that `Service::of_seal` finds missing.
pub record IsToldOf (v : Service) (b : Bounds) (tags : List ℕ) (s : Seal) : Type 0 where
  pub files : IsOfFiles v
  pub scenes : AreScenes v v.late
  pub sealable : IsSealable profile sha256 v
  pub seal : IsSealOf v b tags s
