-- A run beside a seal.
use Rattle.std.specs.List.{list_any}
use Rattle.std.specs.Option.{option_map_or}
use Rattle.std.specs.Prelude.{◌≡◌, ◌⊎◌, ◌++◌, ◌+◌, ◌∷◌, ◌||◌, ◌==◌, Bool, List, None, Option, Some, [], false, if◌then◌else◌, map, not, slice_get, true, ℕ}
use Rattle.std.specs.Str.{bytes_eq}
use Rattle.std.proofs.Common.{ap, refl, subst, sym, inl, inr, ◌∙◌}
use Rattle.std.proofs.lemmas.Slice.Eq.{bytes_eq-Decides}
use Rattle.mh_base.specs.declared.obj_ref.ObjRef.{ObjRef}
use Rattle.mh_group.specs.declared.written.Written.{Written}
use Rattle.mh_model.specs.declared.file.File.{File}
use Rattle.mh_model.specs.declared.input.Input.{Input}
use Rattle.mh_model.specs.declared.input.Input.TheVariants as input
use Rattle.mh_model.specs.declared.input.Move.{Move}
use Rattle.mh_model.specs.declared.input.Move.TheVariants as move
use Rattle.mh_model.specs.declared.input.Obstacle.{Obstacle}
use Rattle.mh_model.specs.declared.input.Obstacle.TheVariants as refused
use Rattle.mh_model.specs.declared.input.Waiting.TheVariants as waiting
use Rattle.mh_model.specs.declared.item.Item.{Item}
use Rattle.mh_model.specs.declared.item.Item.TheVariants as item
use Rattle.mh_model.specs.declared.key.Key.{Key}
use Rattle.mh_model.specs.declared.object.Fixed.{Fixed}
use Rattle.mh_model.specs.Known.{class_at}
use Rattle.mh_model.specs.Late.{is_late_scene}
use Rattle.mh_model.specs.Limits.{most_steps}
use Rattle.mh_model.specs.Service.{Service, fresh, group_parts, with_parts}
use Rattle.mh_model.specs.State.{State}
use Rattle.mh_model.specs.Step.{is_file_of, is_full, is_not_late, moved, posted, posted_by, run, step, stepped, obstacle_if}
use Rattle.mh_laws.specs.Budget.{Bounds, bound_of, paid, paid_unless}
use Rattle.mh_laws.specs.Headline.{begun_with}
use Rattle.mh_seal_laws.proofs.Whole.{IsPartOf, IsSealOf}
use Rattle.mh_seal_laws.specs.Bringing.{BringsHere, EachBringsHere}
use Rattle.mh_seal_laws.specs.Part.{IsAlike, TellsOf, beside}
use Rattle.mh_seal_laws.specs.Sealed.{sealed_budget, sealed_paid}
use Rattle.mh_seal_laws.specs.Seal.{Seal, is_unfit, sealed_by, sealed_moved, sealed_posted, sealed_run, with_brought}
use Rattle.mh_seal_laws.proofs.PartLemmas.{step_beside}
use Rattle.mh_seal_laws.proofs.PostLemmas.{obstacle_beside, unfit_same}
use Rattle.mh_seal_laws.proofs.LeaveLemmas.{Passes, either_of, some_appended, step_passes}

-- The run

pub record Stands (v w : Service) (s : State) : Type 0 where
  pub service : s.service ≡ v
  pub alike : IsAlike w s
  pub known : (g : List ℕ) → is_late_scene g s.late ≡ false → group_parts w g ≡ group_parts s.service g
  pub coming : (g : List ℕ) → list_any (is_file_of g) s.queue ≡ true → group_parts w g ≡ group_parts s.service g

told_of : (v w : Service) (s : State) → Stands v w s → BringsHere s → TellsOf w s.service (slice_get s.work 0)
told_of v w s k here = by (slice_get s.work 0) refl
  where
    by : (m : Option Item) → slice_get s.work 0 ≡ m → TellsOf w s.service m
    by None e = tt
    by (Some (item.Enter g)) e = k.known g (here g (inl e))
    by (Some (item.Exchange g)) e = k.known g (here g (inr e))
    by (Some _) e = tt

stands_step : (v w : Service) (s : State) → Stands v w s → BringsHere s → (step (beside w s) ≡ beside w (step s)) × Stands v w (step s)
stands_step v w s k here = (
  steps.0,
  record {
    service = passes.service ∙ k.service;
    alike = steps.1;
    known = λ g h. now g (known_by g (passes.late g h));
    coming = λ g h. now g (k.coming g (passes.queue g h));
  },
)
  where
    steps : (step (beside w s) ≡ beside w (step s)) × IsAlike w (step s)
    steps = step_beside w s k.alike (told_of v w s k here)

    passes : Passes s (step s)
    passes = step_passes s

    now : (g : List ℕ) → group_parts w g ≡ group_parts s.service g → group_parts w g ≡ group_parts (step s).service g
    now g e = e ∙ ap (λ (u : Service). group_parts u g) (sym passes.service)

    known_by : (g : List ℕ) → (is_late_scene g s.late ≡ false) ⊎ (list_any (is_file_of g) s.queue ≡ true) → group_parts w g ≡ group_parts s.service g
    known_by g (inl h) = k.known g h
    known_by g (inr h) = k.coming g h

stands_stepped : (v w : Service) (s : State) → Stands v w s → BringsHere s → (stepped (beside w s) ≡ beside w (stepped s)) × Stands v w (stepped s)
stands_stepped v w s k here = by (s.taken == most_steps)
  where
    by : (b : Bool) → ((if b then beside w s else step (beside w s)) ≡ beside w (if b then s else step s)) × Stands v w (if b then s else step s)
    by true = (refl, k)
    by false = stands_step v w s k here

-- what is taken up fits
pub fits_where_taken : (e l b f : Bool) → (if e then Some refused.Ended else (if l then Some refused.NotLate else (if b then Some refused.Differs else (if f then Some refused.QueueFull else None)))) ≡ None → b ≡ false
fits_where_taken true l b f h = absurd cc
fits_where_taken false true b f h = absurd cc
fits_where_taken false false true f h = absurd cc
fits_where_taken false false false f h = refl

pub not_false : (b : Bool) → not b ≡ false → b ≡ true
not_false true e = refl
not_false false e = absurd cc

-- the service with the group that has come
stands_grown : (k : Seal) (v w : Service) (s : State) → IsSealOf k v → Stands v w s → (g : List ℕ) (x : Written) → k.fits g x ≡ true → Stands v (k.grown g x w) (record s { queue = s.queue ++ waiting.Input (input.Scene g x) ∷ [] })
stands_grown k v w s is st g x fits = record {
  service = st.service;
  alike = record { programs = is.programs g x w ∙ (st.alike).programs; classes = classes; own = still s.application (st.alike).own; others = scene s.scene (st.alike).others };
  known = λ h e. still h (st.known h e);
  coming = λ h e. coming h (some_appended (is_file_of h) s.queue (waiting.Input (input.Scene g x) ∷ []) e);
}
  where
    u : Service
    u = k.grown g x w

    of_whole : (h : List ℕ) → group_parts u h ≡ group_parts v h → group_parts u h ≡ group_parts s.service h
    of_whole h e = e ∙ ap (λ (z : Service). group_parts z h) (sym st.service)

    still : (h : List ℕ) → group_parts w h ≡ group_parts s.service h → group_parts u h ≡ group_parts s.service h
    still h e = by (is.others g h x w fits)
      where
        by : (group_parts u h ≡ group_parts w h) ⊎ (group_parts u h ≡ group_parts v h) → group_parts u h ≡ group_parts s.service h
        by (inl a) = a ∙ e
        by (inr b) = of_whole h b

    classes : (r : ObjRef) → (r.number == 0) ≡ true → class_at r (group_parts u r.group) ≡ class_at r (group_parts s.service r.group)
    classes r e = by (is.others g r.group x w fits)
      where
        by : (group_parts u r.group ≡ group_parts w r.group) ⊎ (group_parts u r.group ≡ group_parts v r.group) → class_at r (group_parts u r.group) ≡ class_at r (group_parts s.service r.group)
        by (inl a) = ap (class_at r) a ∙ (st.alike).classes r e
        by (inr b) = ap (class_at r) (of_whole r.group b)

    scene : (m : Option (List ℕ)) → with_parts w m ≡ with_parts s.service m → with_parts u m ≡ with_parts s.service m
    scene None e = refl
    scene (Some h) e = ap (λ (ps : List Fixed). Some (h, ps)) (still h (ap (λ (o : Option (List ℕ × List Fixed)). option_map_or (λ (y : List ℕ × List Fixed). y.1) o []) e))

    coming : (h : List ℕ) → (list_any (is_file_of h) s.queue ≡ true) ⊎ (list_any (is_file_of h) (waiting.Input (input.Scene g x) ∷ []) ≡ true) → group_parts u h ≡ group_parts s.service h
    coming h (inl e) = still h (st.coming h e)
    coming h (inr e) = by (either_of (bytes_eq h g) false e)
      where
        none : false ≡ true → group_parts u h ≡ group_parts s.service h
        none h = absurd cc

        by : (bytes_eq h g ≡ true) ⊎ (false ≡ true) → group_parts u h ≡ group_parts s.service h
        by (inl same) = of_whole h (subst (λ (y : List ℕ). group_parts u y ≡ group_parts v y) (sym ((bytes_eq-Decides h g).0 same)) (is.itself g x w fits))
        by (inr wrong) = none wrong

-- any other input
stands_queued : (v w : Service) (s : State) (i : Input) → ((g : List ℕ) → is_file_of g (waiting.Input i) ≡ false) → Stands v w s → Stands v w (record s { queue = s.queue ++ waiting.Input i ∷ [] })
stands_queued v w s i none st = record {
  service = st.service;
  alike = st.alike;
  known = st.known;
  coming = λ g e. by g (some_appended (is_file_of g) s.queue (waiting.Input i ∷ []) e);
}
  where
    no : (b : Bool) → b ≡ false → (b || false) ≡ true → false ≡ true
    no true e h = sym e
    no false e h = h

    nothing : (g : List ℕ) → false ≡ true → group_parts w g ≡ group_parts s.service g
    nothing g h = absurd cc

    by : (g : List ℕ) → (list_any (is_file_of g) s.queue ≡ true) ⊎ (list_any (is_file_of g) (waiting.Input i ∷ []) ≡ true) → group_parts w g ≡ group_parts s.service g
    by g (inl h) = st.coming g h
    by g (inr h) = nothing g (no (is_file_of g (waiting.Input i)) (none g) h)

abbrev pub Goes : Service → State → State → Type 0
Goes v t s = (u : Service) × (t ≡ beside u s) × Stands v u s

stands_posted : (k : Seal) (v w : Service) (s : State) → IsSealOf k v → Stands v w s → (i : Input) → Goes v (sealed_posted k i (beside w s)) (posted i s)
stands_posted k v w s is st i =
    let same = obstacle_beside w s (is_unfit k i) i in
    subst (λ (m : Option Obstacle). Goes v (sealed_by m k i (beside w s)) (posted i s)) (sym same)
    (subst (λ (m : Option Obstacle). Goes v (sealed_by (obstacle_if (is_unfit k i) i s) k i (beside w s)) (posted_by m i s)) (ap (λ (b : Bool). obstacle_if b i s) (unfit_same k v s is st.service i)) (by (obstacle_if (is_unfit k i) i s) refl))
  where
    plain : (j : Input) → ((g : List ℕ) → is_file_of g (waiting.Input j) ≡ false) → Stands v w (posted_by None j s)
    plain j none = stands_queued v w s j none st

    taken : (j : Input) → obstacle_if (is_unfit k j) j s ≡ None → Stands v (with_brought k j w) (posted_by None j s)
    taken (input.Key x) e = plain (input.Key x) (λ g. refl)
    taken (input.Tick n) e = plain (input.Tick n) (λ g. refl)
    taken (input.Stream n) e = plain (input.Stream n) (λ g. refl)
    taken (input.Engine n) e = plain (input.Engine n) (λ g. refl)
    taken (input.Arrive f) e = plain (input.Arrive f) (λ g. refl)
    taken (input.Scene g x) e =
        let fits = not_false (k.fits g x) (fits_where_taken s.ended (is_not_late (input.Scene g x) s) (not (k.fits g x)) (is_full s) e) in
        stands_grown k v w s is st g x fits

    by : (m : Option Obstacle) → obstacle_if (is_unfit k i) i s ≡ m → Goes v (sealed_by m k i (beside w s)) (posted_by m i s)
    by None e = (with_brought k i w, refl, taken i e)
    by (Some o) e = (w, refl, st)

stands_moved : (k : Seal) (v w : Service) (s : State) → IsSealOf k v → Stands v w s → BringsHere s → (m : Move) → Goes v (sealed_moved k m (beside w s)) (moved m s)
stands_moved k v w s is st here (move.Post i) = stands_posted k v w s is st i
stands_moved k v w s is st here move.Step = let goes = stands_stepped v w s st here in (w, goes.0, goes.1)

plays : (k : Seal) (v w : Service) (s : State) → IsSealOf k v → Stands v w s → (ms : List Move) → EachBringsHere ms s → Goes v (sealed_run k ms (beside w s)) (run ms s)
plays k v w s is st [] here = (w, refl, st)
plays k v w s is st (m ∷ ms) here =
    let goes = stands_moved k v w s is st here.0 m in
    let rest = plays k v goes.0 (moved m s) is goes.2 ms here.1 in
    (rest.0, ap (sealed_run k ms) goes.1 ∙ rest.1, rest.2)

-- the budget is that of the whole run

abbrev pub whole_budget : Bounds → List Move → ℕ → State → ℕ
whole_budget b [] n s = n
whole_budget b (m ∷ ms) n s = whole_budget b ms (n + paid b m s) (moved m s)

paid_alike : (b : Bounds) (k : Seal) (v w : Service) (s : State) → IsSealOf k v → Stands v w s → (m : Move) → sealed_paid b k m (beside w s) ≡ paid b m s
paid_alike b k v w s is st (move.Post i) = ap (λ (o : Option Obstacle). paid_unless o (bound_of b i)) (obstacle_beside w s (is_unfit k i) i ∙ ap (λ (t : Bool). obstacle_if t i s) (unfit_same k v s is st.service i))
paid_alike b k v w s is st move.Step = refl

pays : (b : Bounds) (k : Seal) (v w : Service) (s : State) → IsSealOf k v → Stands v w s → (ms : List Move) → EachBringsHere ms s → (n : ℕ) → sealed_budget b k ms n (beside w s) ≡ whole_budget b ms n s
pays b k v w s is st [] here n = refl
pays b k v w s is st (m ∷ ms) here n =
    let goes = stands_moved k v w s is st here.0 m in
    ap (λ (x : ℕ). sealed_budget b k ms (n + x) (sealed_moved k m (beside w s))) (paid_alike b k v w s is st m)
    ∙ ap (sealed_budget b k ms (n + paid b m s)) goes.1
    ∙ pays b k v goes.0 (moved m s) is goes.2 ms here.1 (n + paid b m s)

-- from the start on

begins_alike : (v w : Service) → IsPartOf w v → (mjd : ℕ) (fs : List File) → begun_with w mjd fs ≡ beside w (begun_with v mjd fs)
begins_alike v w part mjd fs =
    ap (λ (app : List ℕ). record (begun_with w mjd fs) { application = app; objects = record { application = map fresh (group_parts w app); scene = [] }; work = item.Enter app ∷ [] }) part.start
    ∙ ap (λ (ps : List Fixed). record (begun_with w mjd fs) { application = v.start; objects = record { application = map fresh ps; scene = [] }; work = item.Enter v.start ∷ [] }) part.own
    ∙ ap (λ (gs : List (List ℕ)). record (beside w (begun_with v mjd fs)) { late = gs }) part.late

begins_so : (v w : Service) → IsPartOf w v → (mjd : ℕ) (fs : List File) → Stands v w (begun_with v mjd fs)
begins_so v w part mjd fs = record {
  service = refl;
  alike = record { programs = part.programs; classes = part.classes; own = part.own; others = refl };
  known = part.here;
  coming = λ g h. absurd cc;
}

pub goes_so : (k : Seal) (v w : Service) → IsSealOf k v → IsPartOf w v → (mjd : ℕ) (fs : List File) (ms : List Move) → EachBringsHere ms (begun_with v mjd fs) → Goes v (sealed_run k ms (begun_with w mjd fs)) (run ms (begun_with v mjd fs))
goes_so k v w is part mjd fs ms here =
    let goes = plays k v w (begun_with v mjd fs) is (begins_so v w part mjd fs) ms here in
    (goes.0, ap (sealed_run k ms) (begins_alike v w part mjd fs) ∙ goes.1, goes.2)

pub pays_so : (b : Bounds) (k : Seal) (v w : Service) → IsSealOf k v → IsPartOf w v → (mjd : ℕ) (fs : List File) (ms : List Move) → EachBringsHere ms (begun_with v mjd fs) → (n : ℕ) → sealed_budget b k ms n (begun_with w mjd fs) ≡ whole_budget b ms n (begun_with v mjd fs)
pays_so b k v w is part mjd fs ms here n = ap (sealed_budget b k ms n) (begins_alike v w part mjd fs) ∙ pays b k v w (begun_with v mjd fs) is (begins_so v w part mjd fs) ms here n
