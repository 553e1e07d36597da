-- What the calls on a session do with it, each by the clauses of the engine's own call.
use Rattle.std.specs.Prelude.{◌≡◌, ℕ, ◌≤◌, codes, length, List, [], ◌∷◌, ◌++◌, Option, Some, None, MatchOption, Result, Ok, Err, ◌⊎◌, slice_get}
use Rattle.std.specs.Bool.{MatchBool}
use Rattle.std.specs.List.{flat_map}
use Rattle.mh_base.specs.Path.{is_path}
use Rattle.mh_carousel.specs.Carried.{awaited_names}
use Rattle.mh_codec.specs.Tags.{profile}
use Rattle.mh_engine.specs.Play.{Play}
use Rattle.mh_group.specs.declared.written.Written.{Written}
use Rattle.mh_laws.specs.Budget.{Bounds as Limits}
use Rattle.mh_machine.specs.Working.{IsPartly}
use Rattle.mh_model.specs.declared.input.Input.{Input}
use Rattle.mh_model.specs.declared.input.Input.TheVariants as input
use Rattle.mh_model.specs.declared.key.Key.{Key}
use Rattle.mh_model.specs.declared.transition.Transition.{Transition}
use Rattle.mh_model.specs.declared.transition.Transition.TheVariants as transition
use Rattle.mh_model.specs.State.{State}
use Rattle.mh_model.specs.Step.{advanced}
use Rattle.mh_told.specs.declared.unplayable.Unplayable.{Unplayable}
use Rattle.mh_told.specs.Reading.{group_in}
use Rattle.mh_told.specs.Told.{fault_line}
use Rattle.redplay_c.specs.declared.crossing.Bounds.{Bounds}
use Rattle.redplay_c.specs.declared.crossing.Counts.{Counts}
use Rattle.redplay_c.specs.Answers.{IsDone, no_key, no_memory, no_path, out_of_range}
use Rattle.redplay_c.specs.Files.{reading_number}
use Rattle.redplay_c.specs.Players.{IsTaken}
use Rattle.redplay_c.specs.Playing.{Playing, player_of}
use Rattle.redplay_c.specs.Verdicts.{IsPut, IsUnput}

-- what a post does: what plays takes up the input or says why it does not, and what was seen stays
abbrev pub IsPosted : Input → Playing → Playing → ℕ → Type 0
IsPosted i s t n = IsTaken i (player_of s) (player_of t) n × (t.seen ≡ s.seen)

-- of a number that is no key's
abbrev pub IsPressed : Option Key → Playing → Playing → ℕ → Type 0
IsPressed (Some k) s t n = IsPosted (input.Key k) s t n
IsPressed None s t n = (n ≡ no_key) × (t ≡ s)

-- memory was refused, and nothing changes
abbrev pub IsStarved : Playing → Playing → ℕ → Type 0
IsStarved s t n = (n ≡ no_memory) × (t ≡ s)

-- a content file is posted, if its name is a path
abbrev pub IsArrived : List ℕ → List ℕ → Playing → Playing → ℕ → Type 0
IsArrived name content s t n =
    MatchBool (is_path name) (IsPosted (input.Arrive (record { name = name; content = content })) s t n) ((n ≡ no_path) × (t ≡ s)) ⊎ IsStarved s t n

-- the file of a scene is posted, which reads so; or the number says why it cannot be read
abbrev pub IsSent : List ℕ → Result Written Unplayable → Playing → Playing → ℕ → Type 0
IsSent name (Ok group) s t n = IsPosted (input.Scene name group) s t n
IsSent name (Err why) s t n = (reading_number why ≡ Some n) × (t ≡ s)

-- and if its name is a path
abbrev pub IsBrought : List ℕ → List ℕ → Playing → Playing → ℕ → Type 0
IsBrought name content s t n =
    MatchBool (is_path name) (IsSent name (group_in profile name content) s t n) ((n ≡ no_path) × (t ≡ s)) ⊎ IsStarved s t n

-- so many steps are made, or as many as there is something to do; where memory was refused some of them
pub record IsAdvanced (most : ℕ) (s t : Playing) (n : ℕ) : Type 0 where
  pub done : IsDone n (t.engine ≡ record s.engine { state = advanced most s.engine.state }) (IsPartly most s.engine.state t.engine.state)
  pub accepted : t.engine.accepted ≡ s.engine.accepted
  pub bounds : t.engine.bounds ≡ s.engine.bounds
  pub budget : t.engine.budget ≡ s.engine.budget
  pub seal : t.seal ≡ s.seal
  -- by a seal that is not the service's own more may be taken than it states
  pub within : s.seal ≡ None → t.engine.state.taken ≤ t.engine.budget
  pub seen : t.seen ≡ s.seen

abbrev pub counts_of : Play → Counts
counts_of p = record { taken = p.state.taken; budget = p.budget; faults = length p.state.faults }

abbrev pub bounds_of : Limits → Bounds
bounds_of b = record { start = b.start; key = b.key; tick = b.tick; stream = b.stream; engine = b.engine; arrive = b.arrive }

-- the line of the fault with this place, the first at 0, stands in the room; of these its text and a length before and behind
pub record IsFaultTold (at : ℕ) (before after : List ℕ) (old new : ℕ) (s t : Playing) (n : ℕ) : Type 0 where
  pub told :
      MatchOption (slice_get s.engine.state.faults at) ((n ≡ out_of_range) × IsUnput before after old new)
      (λ f. IsDone n (IsPut (fault_line f) before after new) (IsUnput before after old new))
  pub same : t ≡ s

-- What is waited for is told, a line each: the scene for whose file a transition waits, then the content files.

abbrev line_on : List ℕ → List ℕ → List ℕ
line_on word name = (word ++ name) ++ 10 ∷ []

abbrev pub scene_lines : Transition → List ℕ
scene_lines (transition.Awaits scene) = line_on (codes "scene ") scene
scene_lines _ = []

abbrev pub file_line : List ℕ → List ℕ
file_line name = line_on (codes "file ") name

abbrev pub awaited_lines : State → List ℕ
awaited_lines s = scene_lines s.transition ++ flat_map file_line (awaited_names s.waits)

-- these lines stand in the room, unless memory was refused
abbrev pub IsAwaitedTold : List ℕ → List ℕ → ℕ → ℕ → Playing → Playing → ℕ → Type 0
IsAwaitedTold before after old new s t n =
    IsDone n (IsPut (awaited_lines s.engine.state) before after new) (IsUnput before after old new) × (t ≡ s)
