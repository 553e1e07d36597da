-- Seals that agree of what is met play the same.
use Rattle.std.specs.Prelude.{◌≡◌, ◌+◌, ◌∷◌, Bool, List, None, Option, Some, [], not, ℕ}
use Rattle.std.proofs.Common.{ap, refl, subst, sym, ◌∙◌}
use Rattle.mh_group.specs.declared.written.Written.{Written}
use Rattle.mh_model.specs.declared.input.Input.{Input}
use Rattle.mh_model.specs.declared.input.Input.TheVariants as input
use Rattle.mh_model.specs.declared.input.Move.{Move}
use Rattle.mh_model.specs.declared.input.Move.TheVariants as move
use Rattle.mh_model.specs.declared.input.Obstacle.{Obstacle}
use Rattle.mh_model.specs.Service.{Service}
use Rattle.mh_model.specs.State.{State}
use Rattle.mh_model.specs.Step.{is_full, is_not_late, obstacle_if, posted, posted_by, run, stepped}
use Rattle.mh_laws.specs.Headline.{begun_with}
use Rattle.mh_seal_laws.specs.Part.{IsAlike, beside}
use Rattle.mh_seal_laws.specs.Bringing.{AreScenes}
use Rattle.mh_seal_laws.proofs.PartLemmas.{shown_alike, stuck_alike}
use Rattle.mh_laws.specs.Acceptable.{IsAcceptable}
use Rattle.mh_laws.specs.Budget.{Bounds, GoesWell, IsAccepted, IsPaidRun, bounds, paid, paid_unless}
use Rattle.mh_laws.proofs.BudgetLemmas.{never_wrong}
use Rattle.mh_laws.proofs.ReceiverLemmas.{stepped_alone}
use Rattle.mh_model.specs.Receiver.{anything}
use Rattle.mh_model.specs.Picture.{shown}
use Rattle.mh_model.specs.declared.file.File.{File}
use Rattle.mh_seal_laws.specs.Seal.{Seal, is_unfit, sealed_by, sealed_moved, sealed_posted, sealed_run, with_brought}
use Rattle.mh_seal_laws.specs.Sealed.{Agrees, AgreesAt, SealedGoesWell, SealedPlays, sealed_budget, sealed_paid}
use Rattle.mh_seal_laws.specs.Stubs.{seal_of, stubbed}
use Rattle.mh_seal_laws.proofs.NeverLemmas.{never_late}
use Rattle.mh_seal_laws.proofs.SealLemmas.{seal_exists}
use Rattle.mh_seal_laws.proofs.PlayLemmas.{Goes, fits_where_taken, goes_so, not_false, pays_so, whole_budget}
use Rattle.mh_seal_laws.proofs.StubLemmas.{stubs_part}

scene_same : (k l : Seal) (g : List ℕ) (x : Written) (t : State) → AgreesAt k l (move.Post (input.Scene g x)) → sealed_posted k (input.Scene g x) t ≡ sealed_posted l (input.Scene g x) t
scene_same k l g x t a =
    ap (λ (b : Bool). sealed_by (obstacle_if (not b) (input.Scene g x) t) k (input.Scene g x) t) a.0
    ∙ by (obstacle_if (not (l.fits g x)) (input.Scene g x) t) refl
  where
    by : (m : Option Obstacle) → obstacle_if (not (l.fits g x)) (input.Scene g x) t ≡ m → sealed_by m k (input.Scene g x) t ≡ sealed_by m l (input.Scene g x) t
    by None e =
        let fits = not_false (l.fits g x) (fits_where_taken t.ended (is_not_late (input.Scene g x) t) (not (l.fits g x)) (is_full t) e) in
        ap (λ (w : Service). posted_by None (input.Scene g x) (beside w t)) (a.1 fits t.service)
    by (Some o) e = refl

-- any other post asks no seal
post_same : (k l : Seal) (i : Input) (t : State) → is_unfit k i ≡ is_unfit l i → with_brought k i t.service ≡ with_brought l i t.service → sealed_posted k i t ≡ sealed_posted l i t
post_same k l i t a b = ap (λ (c : Bool). sealed_by (obstacle_if c i t) k i t) a ∙ by (obstacle_if (is_unfit l i) i t)
  where
    by : (m : Option Obstacle) → sealed_by m k i t ≡ sealed_by m l i t
    by None = ap (λ (w : Service). posted_by None i (beside w t)) b
    by (Some o) = refl

move_same : (k l : Seal) (m : Move) (t : State) → AgreesAt k l m → sealed_moved k m t ≡ sealed_moved l m t
move_same k l (move.Post (input.Scene g x)) t a = scene_same k l g x t a
move_same k l (move.Post (input.Key x)) t a = post_same k l (input.Key x) t refl refl
move_same k l (move.Post (input.Tick n)) t a = post_same k l (input.Tick n) t refl refl
move_same k l (move.Post (input.Stream n)) t a = post_same k l (input.Stream n) t refl refl
move_same k l (move.Post (input.Engine n)) t a = post_same k l (input.Engine n) t refl refl
move_same k l (move.Post (input.Arrive f)) t a = post_same k l (input.Arrive f) t refl refl
move_same k l move.Step t a = refl

run_same : (k l : Seal) (ms : List Move) (t : State) → Agrees k l ms → sealed_run k ms t ≡ sealed_run l ms t
run_same k l [] t a = refl
run_same k l (m ∷ ms) t a = ap (sealed_run k ms) (move_same k l m t a.0) ∙ run_same k l ms (sealed_moved l m t) a.1

paid_same : (b : Bounds) (k l : Seal) (m : Move) (t : State) → AgreesAt k l m → sealed_paid b k m t ≡ sealed_paid b l m t
paid_same b k l (move.Post (input.Scene g x)) t a = ap (λ (c : Bool). paid_unless (obstacle_if (not c) (input.Scene g x) t) b.arrive) a.0
paid_same b k l (move.Post (input.Key x)) t a = refl
paid_same b k l (move.Post (input.Tick n)) t a = refl
paid_same b k l (move.Post (input.Stream n)) t a = refl
paid_same b k l (move.Post (input.Engine n)) t a = refl
paid_same b k l (move.Post (input.Arrive f)) t a = refl
paid_same b k l move.Step t a = refl

budget_same : (b : Bounds) (k l : Seal) (ms : List Move) (n : ℕ) (t : State) → Agrees k l ms → sealed_budget b k ms n t ≡ sealed_budget b l ms n t
budget_same b k l [] n t a = refl
budget_same b k l (m ∷ ms) n t a =
    ap (λ (x : ℕ). sealed_budget b k ms (n + x) (sealed_moved k m t)) (paid_same b k l m t a.0)
    ∙ ap (sealed_budget b k ms (n + sealed_paid b l m t)) (move_same k l m t a.0)
    ∙ budget_same b k l ms (n + sealed_paid b l m t) (sealed_moved l m t) a.1

-- the run of the whole service beside what is known of it at its end
goes_met : (k : Seal) (v : Service) → IsAcceptable v → AreScenes v v.late → (mjd : ℕ) (fs : List File) (ms : List Move) → Agrees k (seal_of v) ms → Goes v (sealed_run k ms (begun_with (stubbed v) mjd fs)) (run ms (begun_with v mjd fs))
goes_met k v good scenes mjd fs ms a =
    let goes = goes_so (seal_of v) v (stubbed v) (seal_exists v) (stubs_part v good scenes) mjd fs ms (never_late v good scenes mjd fs ms) in
    (goes.0, run_same k (seal_of v) ms (begun_with (stubbed v) mjd fs) a ∙ goes.1, goes.2)

pub met_so : SealedPlays
met_so k v good scenes mjd fs ms a = let goes = goes_met k v good scenes mjd fs ms a in (goes.0, goes.1)

-- the run of the whole service has the budget
whole_paid : (b : Bounds) (ms : List Move) (n : ℕ) (s : State) → IsPaidRun b [] anything ms n s (whole_budget b ms n s) (run ms s)
whole_paid b [] n s = (refl, refl)
whole_paid b (move.Post i ∷ ms) n s = (posted i s, refl, whole_paid b ms (n + paid b (move.Post i) s) (posted i s))
whole_paid b (move.Step ∷ ms) n s = (stepped s, stepped_alone anything s, whole_paid b ms (n + 0) (stepped s))

goes_beside : (u : Service) (s : State) (n : ℕ) → IsAlike u s → GoesWell n s → GoesWell n (beside u s)
goes_beside u s n alike g = record { faultless = record { front = stuck_alike u s alike ∙ (g.faultless).front; faults = (g.faultless).faults }; steps = g.steps }

acceptable_of : (most : ℕ) (v : Service) → IsAccepted most v → IsAcceptable v
acceptable_of most v a = record { flow = a.flow; by = a.acceptable }

pub goes_well : SealedGoesWell
goes_well k most v a scenes mjd fs ms agrees =
    let good = acceptable_of most v a in
    let goes = goes_met k v good scenes mjd fs ms agrees in
    let b = bounds a in
    let budget = budget_same b k (seal_of v) ms b.start (begun_with (stubbed v) mjd fs) agrees ∙ pays_so b (seal_of v) v (stubbed v) (seal_exists v) (stubs_part v good scenes) mjd fs ms (never_late v good scenes mjd fs ms) b.start in
    let well = never_wrong most v a mjd fs [] ms (whole_budget b ms b.start (begun_with v mjd fs)) (run ms (begun_with v mjd fs)) (whole_paid b ms b.start (begun_with v mjd fs)) in (
      subst (λ (t : State). GoesWell (sealed_budget b k ms b.start (begun_with (stubbed v) mjd fs)) t) (sym goes.1)
          (subst (λ (n : ℕ). GoesWell n (beside goes.0 (run ms (begun_with v mjd fs)))) (sym budget) (goes_beside goes.0 (run ms (begun_with v mjd fs)) (whole_budget b ms b.start (begun_with v mjd fs)) (goes.2).alike well)),
      ap shown goes.1 ∙ shown_alike goes.0 (run ms (begun_with v mjd fs)),
    )
