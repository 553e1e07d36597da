-- What a session begins with that is started by a seal, and why there is none.
use Rattle.std.specs.Prelude.{◌≡◌, ◌⊎◌, ℕ, ◌<◌, ◌≤◌, true, false, Bool, List, [], Option, Some, None, Ok, Err}
use Rattle.std.specs.Str.{bytes_eq}
use Rattle.sha2.specs.Sha256.{sha256}
use Rattle.mh_codec.specs.Tags.{profile}
use Rattle.mh_engine.specs.declared.sealed.starting.Unsealed.{Unsealed}
use Rattle.mh_engine.specs.Sealed.{SealedPlay, sealed_refusal, service_of, unsealed_number}
use Rattle.mh_machine.specs.declared.refusal.RefusedWhy.{RefusedWhy}
use Rattle.mh_model.specs.declared.file.File.{File as Content}
use Rattle.mh_model.specs.Planes.{blank}
use Rattle.mh_model.specs.State.{begun}
use Rattle.mh_seal.specs.declared.seal.Seal.{Seal}
use Rattle.mh_seal.specs.declared.seal_error.SealError.{SealError}
use Rattle.mh_seal.specs.Numbers.{error_number}
use Rattle.mh_seal.specs.Reading.{IsRefusal, is_seal}
use Rattle.mh_seal.specs.Text.{seal_text}
use Rattle.mh_sealing.specs.Here.{contents_by, groups_here}
use Rattle.mh_service.specs.Refusals.{File as GroupFile}
use Rattle.mh_told.specs.declared.unplayable.Unplayable.{Unplayable}
use Rattle.mh_told.specs.Reading.{Source as File}
use Rattle.redplay_c.specs.Answers.{start_number}
use Rattle.redplay_c.specs.declared.crossing.Source.{Source}
use Rattle.redplay_c.specs.declared.start_refusal.StartRefusal.{StartRefusal}
use Rattle.redplay_c.specs.declared.start_refusal.StartRefusal.TheVariants as unstarted
use Rattle.redplay_c.specs.Files.{AreHanded, have_paths, reading_number}
use Rattle.redplay_c.specs.Playing.{Playing, of_sealed}
use Rattle.redplay_c.specs.Starts.{last_day, presets}

-- the seal tells of no file of tags
abbrev pub has_own_tags : Seal → Bool
has_own_tags s = bytes_eq s.tags (sha256 [])

-- Of the groups that are here and the content files.

-- an engine that begins with these groups, by this seal and on this day
abbrev pub sealed_begun : Seal → List GroupFile → ℕ → SealedPlay
sealed_begun s groups day = record { state = begun (service_of s groups) day; seal = s; budget = s.bounds.start }

-- the session begins with it, black, once these content files are there
pub record SealedPlays (s : Seal) (groups : List GroupFile) (files : List Content) (day : ℕ) (p : Playing) : Type 0 where
  pub accepted : sealed_refusal s groups ≡ None
  pub set : presets files (begun (service_of s groups) day) ≡ Ok p.engine.state
  pub same :
      p ≡ record {
        engine = record (of_sealed (sealed_begun s groups day)).play { state = p.engine.state };
        seal = Some s;
        seen = blank;
      }

-- a group stands in the way
pub record IsUnfit (s : Seal) (groups : List GroupFile) (number : ℕ) : Type 0 where
  pub why : Unsealed
  pub stands : sealed_refusal s groups ≡ Some why
  pub told : unsealed_number why ≡ Some number

-- none does, but a content file cannot be there
pub record IsUnsetBy (s : Seal) (groups : List GroupFile) (files : List Content) (day : ℕ) (why : RefusedWhy) : Type 0 where
  pub accepted : sealed_refusal s groups ≡ None
  pub stands : presets files (begun (service_of s groups) day) ≡ Err why

-- why there is no engine; want of memory says nothing of the groups
abbrev pub Unfits : Seal → List GroupFile → StartRefusal → Type 0
Unfits s groups unstarted.NoMemory = Unit {0}
Unfits s groups (unstarted.Unreadable number) = IsUnfit s groups number
Unfits s groups (unstarted.Unset why) = ⊥
Unfits s groups unstarted.Unaccepted = ⊥
Unfits s groups unstarted.NoDay = ⊥
Unfits s groups unstarted.NoPath = ⊥

-- why there is no session
abbrev pub SealedStops : Seal → List GroupFile → List Content → ℕ → StartRefusal → Type 0
SealedStops s groups files day unstarted.NoMemory = Unit {0}
SealedStops s groups files day (unstarted.Unreadable number) = IsUnfit s groups number
SealedStops s groups files day (unstarted.Unset why) = IsUnsetBy s groups files day why
SealedStops s groups files day unstarted.Unaccepted = ⊥
SealedStops s groups files day unstarted.NoDay = ⊥
SealedStops s groups files day unstarted.NoPath = ⊥

-- Of the files: the session of these files by this seal has the groups that it tells to be here from the start, stubs for its late
-- scenes, and the content files that it names.
pub record SealedBegins (s : Seal) (files : List File) (day : ℕ) (p : Playing) : Type 0 where
  pub tags : has_own_tags s ≡ true
  pub groups : List GroupFile
  pub read : groups_here s profile files ≡ Ok groups
  pub plays : SealedPlays s groups (contents_by s profile files) day p

-- a file that is here cannot be read
pub record IsUnreadBy (s : Seal) (files : List File) (number : ℕ) : Type 0 where
  pub why : Unplayable
  pub read : groups_here s profile files ≡ Err why
  pub told : reading_number why ≡ Some number
  pub some : 0 < number
  pub small : number < 100

-- all can be read, and this stands in the way
pub record IsStoppedBy (s : Seal) (files : List File) (day : ℕ) (why : StartRefusal) : Type 0 where
  pub groups : List GroupFile
  pub read : groups_here s profile files ≡ Ok groups
  pub stops : SealedStops s groups (contents_by s profile files) day why

-- the seal tells of a file of tags
abbrev pub HasOtherTags : Seal → ℕ → Type 0
HasOtherTags s number = (number ≡ 73) × (has_own_tags s ≡ false)

abbrev pub SealedBars : Seal → List File → ℕ → StartRefusal → Type 0
SealedBars s files day unstarted.NoMemory = Unit {0}
SealedBars s files day (unstarted.Unreadable number) =
    HasOtherTags s number ⊎ (IsUnreadBy s files number ⊎ IsStoppedBy s files day (unstarted.Unreadable number))
SealedBars s files day (unstarted.Unset why) = IsStoppedBy s files day (unstarted.Unset why)
SealedBars s files day unstarted.Unaccepted = ⊥
SealedBars s files day unstarted.NoDay = ⊥
SealedBars s files day unstarted.NoPath = ⊥

-- Of what a caller hands in beside a seal.
module _ (sources : List Source) (s : Seal) (day : ℕ) where
  -- the files in memory of the library's own begin so
  pub record IsBegunBy (p : Playing) : Type 0 where
    pub paths : have_paths sources ≡ true
    pub files : List File
    pub same : AreHanded sources files
    pub begins : SealedBegins s files day p

  -- they are barred
  pub record AreBarredBy (why : StartRefusal) : Type 0 where
    pub files : List File
    pub same : AreHanded sources files
    pub barred : SealedBars s files day why

  abbrev pub IsUnbegunBy : StartRefusal → Type 0
  IsUnbegunBy unstarted.NoPath = have_paths sources ≡ false
  IsUnbegunBy unstarted.NoMemory = Unit {0}
  IsUnbegunBy (unstarted.Unreadable number) = AreBarredBy (unstarted.Unreadable number)
  IsUnbegunBy (unstarted.Unset why) = AreBarredBy (unstarted.Unset why)
  IsUnbegunBy unstarted.Unaccepted = ⊥
  IsUnbegunBy unstarted.NoDay = ⊥

-- Of all that a caller hands in.
module _ (bytes : List ℕ) (sources : List Source) (day : ℕ) where
  -- the bytes are a seal, and by it the files begin so
  pub record IsSealed (p : Playing) : Type 0 where
    pub in_time : day ≤ last_day
    pub seal : Seal
    pub good : is_seal seal ≡ true
    pub text : bytes ≡ seal_text seal
    pub begun : IsBegunBy sources seal day p

  -- the bytes are a seal, and this stands in the way
  pub record IsBarredSeal (why : StartRefusal) : Type 0 where
    pub seal : Seal
    pub good : is_seal seal ≡ true
    pub text : bytes ≡ seal_text seal
    pub barred : IsUnbegunBy sources seal day why

  -- the bytes are no seal, for the reason of this number
  pub record IsNoSeal (number : ℕ) : Type 0 where
    pub why : SealError
    pub refused : IsRefusal bytes why
    pub told : error_number why ≡ Some number

  abbrev pub IsUnsealed : StartRefusal → Type 0
  IsUnsealed unstarted.NoDay = last_day < day
  IsUnsealed unstarted.NoMemory = Unit {0}
  IsUnsealed unstarted.NoPath = IsBarredSeal unstarted.NoPath
  IsUnsealed (unstarted.Unreadable number) = IsNoSeal number ⊎ IsBarredSeal (unstarted.Unreadable number)
  IsUnsealed (unstarted.Unset why) = IsBarredSeal (unstarted.Unset why)
  IsUnsealed unstarted.Unaccepted = ⊥

  -- the number that is answered is that of what stands in the way
  pub record IsUnsealedBy (n : ℕ) : Type 0 where
    pub why : StartRefusal
    pub stands : IsUnsealed why
    pub number : n ≡ start_number why

  -- a handle has such a session
  abbrev pub HasSealed : Option Playing → Type 0
  HasSealed None = ⊥
  HasSealed (Some p) = IsSealed p
