-- The law of an engine by a seal: it begins as the laws of `mh_seal_laws` want it, so it goes well.
use Rattle.std.specs.Prelude.{◌≡◌, ◌++◌, ℕ, true, false, List, map, None}
use Rattle.std.specs.List.{list_all, list_any}
use Rattle.sha2.specs.Sha256.{sha256}
use Rattle.mh_codec.specs.Tags.{profile}
use Rattle.mh_laws.specs.Budget.{Bounds, GoesWell}
use Rattle.mh_laws.specs.Headline.{begun_with}
use Rattle.mh_model.specs.declared.file.File.{File as Content}
use Rattle.mh_model.specs.declared.input.Input.TheVariants as input
use Rattle.mh_model.specs.declared.input.Move.{Move}
use Rattle.mh_model.specs.declared.input.Move.TheVariants as move
use Rattle.mh_model.specs.Picture.{shown}
use Rattle.mh_model.specs.Service.{Service}
use Rattle.mh_model.specs.Step.{run}
use Rattle.mh_seal.specs.declared.seal.Seal.{Seal}
use Rattle.mh_seal_laws.specs.Bringing.{AreScenes}
use Rattle.mh_seal_laws.specs.Digests.{IsSealable, brings_group, meets_collision}
use Rattle.mh_seal_laws.specs.Joined.{IsOfFiles}
use Rattle.mh_seal_laws.specs.Seal.{sealed_run}
use Rattle.mh_seal_laws.specs.Sealed.{sealed_budget}
use Rattle.mh_seal_laws.specs.Stubs.{stubbed}
use Rattle.mh_seal_laws.specs.Told.{IsSealOf, bounds_in, by_told}
use Rattle.mh_service.specs.Refusals.{File}
use Rattle.mh_verify.specs.Free.{IsVerified, Verified}
use Rattle.mh_engine.specs.Sealed.{sealed_refusal, service_of}

-- a file that is there from the start is met as one that comes
abbrev pub as_post : File → Move
as_post f = move.Post (input.Scene f.0 f.1)

-- Where nothing is in the way it begins as the service with stubs, unless two groups with one digest are met.
abbrev pub BeginsStubbed : Type 0
BeginsStubbed =
    (v : Service) (b : Bounds) (tags : List ℕ) (s : Seal) → IsOfFiles v → IsSealable profile sha256 v → IsSealOf v b tags s →
    (fs : List File) → list_all brings_group (map as_post fs) ≡ true →
    list_any (meets_collision profile sha256 v.files) (map as_post fs) ≡ false →
    sealed_refusal s fs ≡ None → service_of s fs ≡ stubbed v

-- STARTED BY THE SEAL OF AN ACCEPTED SERVICE, whatever files are there and whatever comes, it meets no fault, takes no more
-- steps than the bounds that the seal states allow, and shows what the whole service shows, UNLESS TWO GROUPS WITH ONE DIGEST
-- ARE MET.
abbrev pub StartedGoesWell : Type 0
StartedGoesWell =
    (a : Verified) → IsVerified a → IsOfFiles a.service → AreScenes a.service a.service.late → IsSealable profile sha256 a.service →
    (tags : List ℕ) (s : Seal) → IsSealOf a.service a.bounds tags s →
    (fs : List File) → sealed_refusal s fs ≡ None → (mjd : ℕ) (cs : List Content) (ms : List Move) →
    list_all brings_group (map as_post fs ++ ms) ≡ true →
    list_any (meets_collision profile sha256 a.service.files) (map as_post fs ++ ms) ≡ false →
    GoesWell (sealed_budget (bounds_in s.bounds) (by_told s) ms s.bounds.start (begun_with (service_of s fs) mjd cs))
    (sealed_run (by_told s) ms (begun_with (service_of s fs) mjd cs))
    × (shown (sealed_run (by_told s) ms (begun_with (service_of s fs) mjd cs)) ≡ shown (run ms (begun_with a.service mjd cs)))
