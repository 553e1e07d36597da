-- The seal that a head end prints, and the run of whoever goes by it.
use Rattle.std.specs.Prelude.{◌≡◌, ℕ, true, false, List, map}
use Rattle.std.specs.List.{list_all, list_any}
use Rattle.sha2.specs.Sha256.{sha256}
use Rattle.mh_codec.specs.Tags.{profile}
use Rattle.mh_model.specs.declared.file.File.{File}
use Rattle.mh_model.specs.declared.input.Move.{Move}
use Rattle.mh_model.specs.Late.{is_late_scene}
use Rattle.mh_model.specs.Picture.{shown}
use Rattle.mh_model.specs.Service.{Service}
use Rattle.mh_model.specs.Step.{run}
use Rattle.mh_laws.specs.Budget.{Bounds, GoesWell, IsAccepted, bounds}
use Rattle.mh_laws.specs.Headline.{begun_with}
use Rattle.mh_service.specs.Contents.{AreFilesOf}
use Rattle.mh_service.specs.Refusals.{File as GroupFile}
use Rattle.mh_seal.specs.declared.seal.Seal.{Seal as TextSeal}
use Rattle.mh_seal.specs.declared.seal.SealedBounds.{SealedBounds}
use Rattle.mh_seal.specs.declared.seal.SealedGroup.{SealedGroup}
use Rattle.mh_seal.specs.Digests.{digest_of}
use Rattle.mh_seal_laws.specs.Bringing.{AreScenes}
use Rattle.mh_seal_laws.specs.Digests.{IsSealable, brings_group, meets_collision, seal_by}
use Rattle.mh_seal_laws.specs.Seal.{Seal, sealed_run}
use Rattle.mh_seal_laws.specs.Sealed.{sealed_budget}
use Rattle.mh_seal_laws.specs.Stubs.{stubbed}

-- what is told of a group: its digest by the tags of the profile, and whether it is late
abbrev pub told_group : List (List ℕ) → GroupFile → SealedGroup
told_group late f = record { name = f.0; digest = digest_of f.1; is_late = is_late_scene f.0 late }

abbrev pub told_bounds : Bounds → SealedBounds
told_bounds b = record { start = b.start; key = b.key; tick = b.tick; stream = b.stream; engine = b.engine; arrive = b.arrive }

-- the seal is that of the service, with these bounds and these octets of the file that names tags
pub record IsSealOf (v : Service) (b : Bounds) (tags : List ℕ) (s : TextSeal) : Type 0 where
  pub start : s.start ≡ v.start
  pub groups : s.groups ≡ map (told_group v.late) v.files
  pub contents : AreFilesOf v s.contents
  pub stated : s.bounds ≡ told_bounds b
  pub tags_told : s.tags ≡ sha256 tags

-- each service has a seal
abbrev pub EachHasSeal : Type 0
EachHasSeal = (v : Service) (b : Bounds) (tags : List ℕ) → (s : TextSeal) × IsSealOf v b tags s

-- the seal of the laws that goes by what is told
abbrev pub by_told : TextSeal → Seal
by_told s = seal_by profile sha256 (map (λ g. (g.name, g.digest)) s.groups)

abbrev pub bounds_in : SealedBounds → Bounds
bounds_in b = record { start = b.start; key = b.key; tick = b.tick; stream = b.stream; engine = b.engine; arrive = b.arrive }

-- WITH THE SEAL OF AN ACCEPTED SERVICE nothing is stuck in a run, it takes no more steps than the bounds that the seal tells
-- allow, and the picture is that of the whole service, unless two groups with one digest are met.
abbrev pub ToldSealGoesWell : Type 0
ToldSealGoesWell =
    (most : ℕ) (v : Service) (a : IsAccepted most v) → AreScenes v v.late → IsSealable profile sha256 v →
    (tags : List ℕ) (s : TextSeal) → IsSealOf v (bounds a) tags s →
    (mjd : ℕ) (fs : List File) (ms : List Move) →
    list_all brings_group ms ≡ true → list_any (meets_collision profile sha256 v.files) ms ≡ false →
    GoesWell (sealed_budget (bounds_in s.bounds) (by_told s) ms s.bounds.start (begun_with (stubbed v) mjd fs))
    (sealed_run (by_told s) ms (begun_with (stubbed v) mjd fs))
    × (shown (sealed_run (by_told s) ms (begun_with (stubbed v) mjd fs)) ≡ shown (run ms (begun_with v mjd fs)))
