-- What a session begins with, and why there is none.
use Rattle.std.specs.Prelude.{◌≡◌, ℕ, ◌<◌, ◌≤◌, Bool, true, false, not, List, [], ◌∷◌, Option, Some, None, Result, Ok, Err}
use Rattle.std.specs.Option.{option_map_or}
use Rattle.mh_codec.specs.Tags.{profile}
use Rattle.mh_machine.specs.Refusal.{preset_refusal}
use Rattle.mh_engine.specs.Play.{Play, unbounded}
use Rattle.mh_machine.specs.declared.refusal.RefusedWhy.{RefusedWhy}
use Rattle.mh_machine.specs.declared.refusal.RefusedWhy.TheVariants as refused
use Rattle.mh_model.specs.declared.file.File.{File as Content}
use Rattle.mh_model.specs.Planes.{blank}
use Rattle.mh_model.specs.Service.{Service}
use Rattle.mh_model.specs.State.{State, begun}
use Rattle.mh_model.specs.Step.{preset}
use Rattle.mh_told.specs.Reading.{Source as File}
use Rattle.mh_verify.specs.declared.refusal.Refusal.{Refusal}
use Rattle.mh_verify.specs.Free.{IsVerified}
use Rattle.mh_verify.specs.Order.{Names}
use Rattle.redplay_c.specs.declared.crossing.Source.{Source}
use Rattle.redplay_c.specs.declared.start_refusal.StartRefusal.{StartRefusal}
use Rattle.redplay_c.specs.declared.start_refusal.StartRefusal.TheVariants as unstarted
use Rattle.redplay_c.specs.Answers.{start_number}
use Rattle.mh_script.specs.Contents.{contents}
use Rattle.redplay_c.specs.Files.{AreHanded, Choice, IsUnreadable, chosen_service, have_paths}
use Rattle.redplay_c.specs.Playing.{Playing}

-- the last modified Julian day on which a play may begin
abbrev pub last_day : ℕ
last_day = 1000000

-- the state with all of the files there, or why the first that is refused is
abbrev pub presets : List Content → State → Result State RefusedWhy
presets [] s = Ok s
presets (f ∷ fs) s = option_map_or (λ why. Err why) (preset_refusal f s) (presets fs (preset f s))

-- what is refused is told so, unless memory was refused
abbrev pub Refuses : {X : Type 0} → RefusedWhy → Result X RefusedWhy → Type 0
Refuses why r = (why ≡ refused.NoMemory → ⊥) → r ≡ Err why

abbrev pub IsRefusedFor : RefusedWhy → Option RefusedWhy → Type 0
IsRefusedFor why o = (why ≡ refused.NoMemory → ⊥) → o ≡ Some why

-- An engine for the service begins. Unless the verifier was not asked it has accepted the service, with the bounds that the
-- engine has.
pub record IsEngineOf (c : Choice) (service : Service) (p : Play) : Type 0 where
  pub state : p.state ≡ begun service c.day
  pub accepted : p.accepted ≡ not c.lenient
  pub verified : c.lenient ≡ false → IsVerified (record { service = service; bounds = p.bounds })
  pub unknown : c.lenient ≡ true → p.bounds ≡ unbounded
  pub budget : p.budget ≡ p.bounds.start

-- A session begins with an engine for the service, black, once these content files are there.
pub record Plays (c : Choice) (service : Service) (files : List Content) (s : Playing) : Type 0 where
  pub engine : Play
  pub begun : IsEngineOf c service engine
  pub set : presets files engine.state ≡ Ok s.engine.state
  pub same : s ≡ record { engine = record engine { state = s.engine.state }; seal = None; seen = blank }

-- the verifier refuses the service
pub record IsRefused (service : Service) : Type 0 where
  pub refusal : Refusal
  pub names : Names service [] refusal

-- and was asked
pub record IsUnaccepted (c : Choice) (service : Service) : Type 0 where
  pub asked : c.lenient ≡ false
  pub refused : IsRefused service

-- why there is no engine for the service that the verifier is asked for; want of memory says nothing of it
abbrev pub Judges : Service → StartRefusal → Type 0
Judges service unstarted.NoMemory = Unit {0}
Judges service unstarted.Unaccepted = IsRefused service
Judges service unstarted.NoDay = ⊥
Judges service unstarted.NoPath = ⊥
Judges service (unstarted.Unreadable number) = ⊥
Judges service (unstarted.Unset why) = ⊥

-- the same, unless it was not asked
abbrev pub Halts : Choice → Service → StartRefusal → Type 0
Halts c service unstarted.NoMemory = Unit {0}
Halts c service unstarted.Unaccepted = IsUnaccepted c service
Halts c service unstarted.NoDay = ⊥
Halts c service unstarted.NoPath = ⊥
Halts c service (unstarted.Unreadable number) = ⊥
Halts c service (unstarted.Unset why) = ⊥

-- how it is told that a content file is refused
abbrev pub refusal_of : RefusedWhy → StartRefusal
refusal_of refused.NoMemory = unstarted.NoMemory
refusal_of why = unstarted.Unset why

-- why content files cannot be there
abbrev pub Unsets : Result State RefusedWhy → StartRefusal → Type 0
Unsets r unstarted.NoMemory = Unit {0}
Unsets r (unstarted.Unset why) = r ≡ Err why
Unsets r unstarted.Unaccepted = ⊥
Unsets r unstarted.NoDay = ⊥
Unsets r unstarted.NoPath = ⊥
Unsets r (unstarted.Unreadable number) = ⊥

-- why there is no session for the service with these content files; want of memory says nothing of them
abbrev pub Stops : Choice → Service → List Content → StartRefusal → Type 0
Stops c service files unstarted.NoMemory = Unit {0}
Stops c service files unstarted.Unaccepted = IsUnaccepted c service
Stops c service files (unstarted.Unset why) = presets files (begun service c.day) ≡ Err why
Stops c service files unstarted.NoDay = ⊥
Stops c service files unstarted.NoPath = ⊥
Stops c service files (unstarted.Unreadable number) = ⊥

-- The session of these files: of the service that they make, with the content files that it names.
pub record Begins (c : Choice) (files : List File) (s : Playing) : Type 0 where
  pub service : Service
  pub read : chosen_service c.start c.late files ≡ Ok service
  pub plays : Plays c service (contents profile service files) s

-- They make a service, for which there is none.
pub record IsStopped (c : Choice) (files : List File) (why : StartRefusal) : Type 0 where
  pub service : Service
  pub read : chosen_service c.start c.late files ≡ Ok service
  pub stops : Stops c service (contents profile service files) why

-- why these files make no session
abbrev pub Bars : Choice → List File → StartRefusal → Type 0
Bars c files unstarted.NoMemory = Unit {0}
Bars c files (unstarted.Unreadable number) = IsUnreadable (chosen_service c.start c.late files) number
Bars c files unstarted.Unaccepted = IsStopped c files unstarted.Unaccepted
Bars c files (unstarted.Unset why) = IsStopped c files (unstarted.Unset why)
Bars c files unstarted.NoDay = ⊥
Bars c files unstarted.NoPath = ⊥

-- Of what a caller hands in.
module _ (sources : List Source) (c : Choice) where
  -- the files in memory of the library's own begin so
  pub record IsStarted (s : Playing) : Type 0 where
    pub day : c.day ≤ last_day
    pub paths : have_paths sources ≡ true
    pub files : List File
    pub same : AreHanded sources files
    pub begins : Begins c files s

  -- they are barred
  pub record AreBarred (why : StartRefusal) : Type 0 where
    pub files : List File
    pub same : AreHanded sources files
    pub barred : Bars c files why

  abbrev pub IsUnstarted : StartRefusal → Type 0
  IsUnstarted unstarted.NoDay = last_day < c.day
  IsUnstarted unstarted.NoPath = have_paths sources ≡ false
  IsUnstarted unstarted.NoMemory = Unit {0}
  IsUnstarted (unstarted.Unreadable number) = AreBarred (unstarted.Unreadable number)
  IsUnstarted unstarted.Unaccepted = AreBarred unstarted.Unaccepted
  IsUnstarted (unstarted.Unset why) = AreBarred (unstarted.Unset why)

  -- the number that is answered is that of what stands in the way
  pub record IsToldBy (n : ℕ) : Type 0 where
    pub why : StartRefusal
    pub stands : IsUnstarted why
    pub number : n ≡ start_number why

  -- a handle has such a session
  abbrev pub HasStarted : Option Playing → Type 0
  HasStarted None = ⊥
  HasStarted (Some s) = IsStarted s
