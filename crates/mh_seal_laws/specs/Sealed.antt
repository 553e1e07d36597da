-- The law of seals: started with stubs for its late scenes, and with a seal that is right of the files that are met, an
-- accepted service is played as if all of it were there.
use Rattle.std.specs.Prelude.{◌≡◌, ℕ, ◌+◌, true, List, [], ◌∷◌}
use Rattle.mh_model.specs.declared.file.File.{File}
use Rattle.mh_model.specs.declared.input.Input.TheVariants as input
use Rattle.mh_model.specs.declared.input.Move.{Move}
use Rattle.mh_model.specs.declared.input.Move.TheVariants as move
use Rattle.mh_model.specs.Picture.{shown}
use Rattle.mh_model.specs.Service.{Service}
use Rattle.mh_model.specs.State.{State}
use Rattle.mh_model.specs.Step.{run}
use Rattle.mh_laws.specs.Acceptable.{IsAcceptable}
use Rattle.mh_laws.specs.Budget.{Bounds, GoesWell, IsAccepted, bound_of, bounds, paid_unless}
use Rattle.mh_laws.specs.Headline.{begun_with}
use Rattle.mh_seal_laws.specs.Bringing.{AreScenes}
use Rattle.mh_seal_laws.specs.Part.{beside}
use Rattle.mh_seal_laws.specs.Seal.{Seal, sealed_moved, sealed_obstacle, sealed_run}
use Rattle.mh_seal_laws.specs.Stubs.{seal_of, stubbed}

-- Of the files that are met, and of no others, the one seal says what the other does.

abbrev pub AgreesAt : Seal → Seal → Move → Type 0
AgreesAt k l (move.Post (input.Scene g x)) =
    (k.fits g x ≡ l.fits g x) × (l.fits g x ≡ true → (w : Service) → k.grown g x w ≡ l.grown g x w)
AgreesAt k l _ = Unit {0}

abbrev pub Agrees : Seal → Seal → List Move → Type 0
Agrees k l [] = Unit {0}
Agrees k l (m ∷ ms) = AgreesAt k l m × Agrees k l ms

-- THE LAW OF SEALS. The sealed run is the run of the whole service; only what is known of the service is less.
abbrev pub SealedPlays : Type 0
SealedPlays =
    (k : Seal) (v : Service) → IsAcceptable v → AreScenes v v.late →
    (mjd : ℕ) (fs : List File) (ms : List Move) → Agrees k (seal_of v) ms →
    (u : Service) × (sealed_run k ms (begun_with (stubbed v) mjd fs) ≡ beside u (run ms (begun_with v mjd fs)))

-- A sealed run with a budget: each input that is taken up adds its bound.

abbrev pub sealed_paid : Bounds → Seal → Move → State → ℕ
sealed_paid b k (move.Post i) t = paid_unless (sealed_obstacle k i t) (bound_of b i)
sealed_paid b k move.Step t = 0

abbrev pub sealed_budget : Bounds → Seal → List Move → ℕ → State → ℕ
sealed_budget b k [] n t = n
sealed_budget b k (m ∷ ms) n t = sealed_budget b k ms (n + sealed_paid b k m t) (sealed_moved k m t)

-- AND SO nothing is stuck in it, no fault is met, no more steps are taken than the whole service's bounds allow of what was
-- taken up, and the picture is that of the whole service.
abbrev pub SealedGoesWell : Type 0
SealedGoesWell =
    (k : Seal) (most : ℕ) (v : Service) (a : IsAccepted most v) → AreScenes v v.late →
    (mjd : ℕ) (fs : List File) (ms : List Move) → Agrees k (seal_of v) ms →
    GoesWell (sealed_budget (bounds a) k ms (bounds a).start (begun_with (stubbed v) mjd fs))
    (sealed_run k ms (begun_with (stubbed v) mjd fs))
    × (shown (sealed_run k ms (begun_with (stubbed v) mjd fs)) ≡ shown (run ms (begun_with v mjd fs)))
