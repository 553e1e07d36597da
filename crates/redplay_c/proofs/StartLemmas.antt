-- How a session begins, from the engine up to the files that were handed in.
use Rattle.std.specs.Prelude.{◌≡◌, ℕ, ◌<◌, ◌≤◌, Bool, true, false, not, List, [], Option, Some, None, Result, Ok, Err, IfOk, IfErr, OnOk, IsErrOf, IsErrAnd, IsOk, refl}
use Rattle.std.specs.Option.{option_map_or}
use Rattle.std.proofs.Common.{ap, ◌∙◌, sym, subst, lit<, inl, inr}
use Rattle.mh_base.specs.declared.name_error.NameError.{NameError}
use Rattle.mh_base.specs.declared.name_error.NameError.TheVariants as unnamed
use Rattle.mh_codec.specs.Tags.{Tags, profile}
use Rattle.mh_engine.specs.Play.{Play, unbounded}
use Rattle.mh_machine.specs.declared.refusal.RefusedWhy.{RefusedWhy}
use Rattle.mh_machine.specs.declared.refusal.RefusedWhy.TheVariants as refused
use Rattle.mh_flow.specs.Equipment.{equipped}
use Rattle.mh_laws.specs.Budget.{Bounds}
use Rattle.mh_layers.specs.Known.{top}
use Rattle.mh_model.specs.Planes.{Planes, blank}
use Rattle.mh_model.specs.Service.{Service}
use Rattle.mh_model.specs.State.{State, begun}
use Rattle.mh_model.specs.declared.file.File.{File as Content}
use Rattle.mh_model.specs.declared.program.Signature.{Signature}
use Rattle.mh_told.specs.Reading.{Source as File}
use Rattle.mh_told.specs.declared.unplayable.Unplayable.{Unplayable}
use Rattle.mh_verify.specs.Free.{IsVerified, Verified}
use Rattle.mh_verify.specs.Order.{IsTold, Names}
use Rattle.mh_verify.specs.declared.refusal.Refusal.{Refusal}
use Rattle.mh_verify.specs.declared.refusal.RefusalKind.TheVariants as kind
use Rattle.redplay_c.specs.Answers.{of_name, start_number}
use Rattle.mh_script.specs.Contents.{contents}
use Rattle.redplay_c.specs.Files.{AreHanded, Choice, IsUnreadable, chosen_service, have_paths, reading_number}
use Rattle.redplay_c.specs.Playing.{Engined, Playing, of_whole}
use Rattle.redplay_c.specs.Starts.{Bars, Begins, Halts, HasStarted, IsEngineOf, IsRefused, IsStarted, IsUnstarted, Judges, Plays, Refuses, Stops, Unsets, last_day, presets, refusal_of}
use Rattle.redplay_c.specs.declared.crossing.Source.{Source}
use Rattle.redplay_c.specs.declared.start_refusal.StartRefusal.{StartRefusal}
use Rattle.redplay_c.specs.declared.start_refusal.StartRefusal.TheVariants as unstarted
use Rattle.redplay_c.proofs.AnswerLemmas.{why_some}

-- The verdict.

-- a refusal that is not for want of memory is one of the service
pub refused_so : (s : Service) (r : Refusal) → IsTold s [] r → (r.kind ≡ kind.NoMemory → ⊥) → IsRefused s
refused_so s r (inl first) other = record { refusal = r; names = first }
refused_so s r (inr same) other = absurd (other (ap (λ (x : Refusal). x.kind) same))

-- a service without programs is the one that is verified
pub plain_service : (s : Service) (a : Verified) → s.programs ≡ [] → a.service ≡ equipped s [] → a.service ≡ s
plain_service s a none same = same ∙ ap (λ (ps : List Signature). record s { programs = ps }) (sym none)

abbrev begun_by : Service → ℕ → Bounds → Play
begun_by s day b = record { state = begun s day; accepted = true; bounds = b; budget = b.start }

-- an engine for what was verified
pub verified_so : (s : Service) (day : ℕ) (a : Verified) (r : Result Play StartRefusal) → a.service ≡ s → IfOk r (λ p. p ≡ begun_by a.service day a.bounds) → IfOk r (λ p. p ≡ begun_by s day p.bounds)
verified_so s day a (Err e) same so = tt
verified_so s day a (Ok p) same so =
    so ∙ (λ i. begun_by (same i) day (ap (λ (q : Play). q.bounds) (sym so) i))

pub bounded_so : (s : Service) (day : ℕ) (a : Verified) (r : Result Play StartRefusal) → a.service ≡ s → IsVerified a → IfOk r (λ p. p ≡ begun_by a.service day a.bounds) → IfOk r (λ p. IsVerified (record { service = s; bounds = p.bounds }))
bounded_so s day a (Err e) same so is = tt
bounded_so s day a (Ok p) same so is =
    let bounds : a.bounds ≡ p.bounds = ap (λ (q : Play). q.bounds) (sym is) in
    let whole : a ≡ record { service = s; bounds = p.bounds } = λ i. record { service = same i; bounds = bounds i } in
    subst IsVerified whole so

pub judged_memory : (s : Service) (r : Result Play StartRefusal) → IfErr r (λ w. w ≡ unstarted.NoMemory) → IfErr r (λ w. Judges s w)
judged_memory s (Ok p) is = tt
judged_memory s (Err w) is = subst (λ (x : StartRefusal). Judges s x) (sym is) tt

-- The engine.

pub lenient_so : (c : Choice) (s : Service) (r : Result Play StartRefusal) → c.lenient ≡ true → IfOk r (λ p. p ≡ record { state = begun s c.day; accepted = false; bounds = unbounded; budget = top }) → IfOk r (λ p. IsEngineOf c s p)
lenient_so c s (Err e) yes_ is = tt
lenient_so c s (Ok p) yes_ is =
    let none : false ≡ not c.lenient = ap (λ (b : Bool). not b) (sym yes_) in
    record {
      state = ap (λ (q : Play). q.state) is;
      accepted = ap (λ (q : Play). q.accepted) is ∙ none;
      verified = λ no_. absurd (subst (λ (b : Bool). b ≡ true → ⊥) (sym no_) (λ e. cc) yes_);
      unknown = λ _. ap (λ (q : Play). q.bounds) is;
      budget = ap (λ (q : Play). q.budget) is ∙ ap (λ (q : Play). q.bounds.start) (sym is);
    }

pub strict_so : (c : Choice) (s : Service) (r : Result Play StartRefusal) → c.lenient ≡ false → IfOk r (λ p. p ≡ begun_by s c.day p.bounds) → IfOk r (λ p. IsVerified (record { service = s; bounds = p.bounds })) → IfOk r (λ p. IsEngineOf c s p)
strict_so c s (Err e) no_ is so = tt
strict_so c s (Ok p) no_ is so =
    let all : true ≡ not c.lenient = ap (λ (b : Bool). not b) (sym no_) in
    record {
      state = ap (λ (q : Play). q.state) is;
      accepted = ap (λ (q : Play). q.accepted) is ∙ all;
      verified = λ _. so;
      unknown = λ yes_. absurd (subst (λ (b : Bool). b ≡ false → ⊥) (sym yes_) (λ e. cc) no_);
      budget = ap (λ (q : Play). q.budget) is;
    }

pub lenient_halts : (c : Choice) (s : Service) (r : Result Play StartRefusal) → IfErr r (λ w. w ≡ unstarted.NoMemory) → IfErr r (λ w. Halts c s w)
lenient_halts c s (Ok p) is = tt
lenient_halts c s (Err w) is = subst (λ (x : StartRefusal). Halts c s x) (sym is) tt

halted : (c : Choice) (s : Service) (w : StartRefusal) → c.lenient ≡ false → Judges s w → Halts c s w
halted c s unstarted.NoMemory no_ so = tt
halted c s unstarted.Unaccepted no_ so = record { asked = no_; refused = so }
halted c s unstarted.NoDay no_ so = absurd so
halted c s unstarted.NoPath no_ so = absurd so
halted c s (unstarted.Unreadable n) no_ so = absurd so
halted c s (unstarted.Unset why) no_ so = absurd so

pub strict_halts : (c : Choice) (s : Service) (r : Result Play StartRefusal) → c.lenient ≡ false → IfErr r (λ w. Judges s w) → IfErr r (λ w. Halts c s w)
strict_halts c s (Ok p) no_ so = tt
strict_halts c s (Err w) no_ so = halted c s w no_ so

-- Content files.

unset : (u : RefusedWhy) (x : Result State RefusedWhy) → Refuses u x → Unsets x (refusal_of u)
unset refused.NoMemory x so = tt
unset refused.Ended x so = so (λ e. cc)
unset refused.TickRange x so = so (λ e. cc)
unset refused.Begun x so = so (λ e. cc)
unset refused.NotLate x so = so (λ e. cc)
unset refused.Differs x so = so (λ e. cc)
unset refused.TooLarge x so = so (λ e. cc)
unset refused.TooMany x so = so (λ e. cc)
unset refused.ClockFull x so = so (λ e. cc)
unset refused.QueueFull x so = so (λ e. cc)

-- a session is handed out where the files were set
pub set_so : (set : Result (Unit {0}) RefusedWhy) (r : Result Playing StartRefusal) (x : Result State RefusedWhy) (whole : Playing) → IfOk r (λ g. g ≡ whole) → OnOk r (IsOk set) → OnOk set (x ≡ Ok whole.engine.state)
    → IfOk r (λ s. x ≡ Ok s.engine.state)
set_so set (Err w) x whole same good so = tt
set_so (Ok u) (Ok s) x whole same good so = so ∙ ap (λ (g : Playing). Ok g.engine.state) (sym same)
set_so (Err e) (Ok s) x whole same good so = absurd cc

pub kept_so : (r : Result Playing StartRefusal) (p : Engined) (seen : Planes) (whole : Playing) → IfOk r (λ g. g ≡ whole) → whole ≡ record { engine = record p.play { state = whole.engine.state }; seal = p.seal; seen = seen }
    → IfOk r (λ s. s ≡ record { engine = record p.play { state = s.engine.state }; seal = p.seal; seen = seen })
kept_so (Err w) p seen whole same is = tt
kept_so (Ok s) p seen whole same is =
    subst (λ (g : Playing). g ≡ record { engine = record p.play { state = g.engine.state }; seal = p.seal; seen = seen }) (sym same) is

pub unset_so : (set : Result (Unit {0}) RefusedWhy) (r : Result Playing StartRefusal) (x : Result State RefusedWhy) → IfErr r (λ w. IsErrAnd set (λ u. w ≡ refusal_of u)) → IfErr set (λ u. Refuses u x) → IfErr r (λ w. Unsets x w)
unset_so set (Ok s) x told so = tt
unset_so (Ok u) (Err w) x told so = absurd told
unset_so (Err u) (Err w) x told so = subst (λ (y : StartRefusal). Unsets x y) (sym told) (unset u x so)

-- A session of a service.

pub plays_so : (c : Choice) (s : Service) (fs : List Content) (p : Play) (q : Engined) (seen : Planes) (r : Result Playing StartRefusal) → IsEngineOf c s p → q ≡ of_whole p → seen ≡ blank → IfOk r (λ x. presets fs q.play.state ≡ Ok x.engine.state)
    → IfOk r (λ x. x ≡ record { engine = record q.play { state = x.engine.state }; seal = q.seal; seen = seen }) → IfOk r (λ x. Plays c s fs x)
plays_so c s fs p q seen (Err e) so is black set same = tt
plays_so c s fs p q seen (Ok x) so is black set same =
    record {
      engine = p;
      begun = so;
      set = subst (λ (e : Engined). presets fs e.play.state ≡ Ok x.engine.state) is set;
      same = subst (λ (e : Engined). x ≡ record { engine = record e.play { state = x.engine.state }; seal = e.seal; seen = blank }) is
          (subst (λ (v : Planes). x ≡ record { engine = record q.play { state = x.engine.state }; seal = q.seal; seen = v }) black same);
    }

stopped : (c : Choice) (s : Service) (fs : List Content) (st : State) (w : StartRefusal) → st ≡ begun s c.day → Unsets (presets fs st) w → Stops c s fs w
stopped c s fs st unstarted.NoMemory is so = tt
stopped c s fs st (unstarted.Unset why) is so = subst (λ (x : State). presets fs x ≡ Err why) is so
stopped c s fs st unstarted.Unaccepted is so = absurd so
stopped c s fs st unstarted.NoDay is so = absurd so
stopped c s fs st unstarted.NoPath is so = absurd so
stopped c s fs st (unstarted.Unreadable n) is so = absurd so

pub stops_so : (c : Choice) (s : Service) (fs : List Content) (p : Play) (q : Engined) (r : Result Playing StartRefusal) → IsEngineOf c s p → q ≡ of_whole p → IfErr r (λ w. Unsets (presets fs q.play.state) w) → IfErr r (λ w. Stops c s fs w)
stops_so c s fs p q (Ok x) so is un = tt
stops_so c s fs p q (Err w) so is un = stopped c s fs p.state w so.state (subst (λ (e : Engined). Unsets (presets fs e.play.state) w) is un)

pub halts_so : (c : Choice) (s : Service) (fs : List Content) (w : StartRefusal) → Halts c s w → Stops c s fs w
halts_so c s fs unstarted.NoMemory so = tt
halts_so c s fs unstarted.Unaccepted so = so
halts_so c s fs unstarted.NoDay so = absurd so
halts_so c s fs unstarted.NoPath so = absurd so
halts_so c s fs (unstarted.Unreadable n) so = absurd so
halts_so c s fs (unstarted.Unset why) so = absurd so

-- A session of files.

pub begins_so : (c : Choice) (files : List File) (tags : Tags) (s : Service) (r : Result Playing StartRefusal) → tags ≡ profile → chosen_service c.start c.late files ≡ Ok s → IfOk r (λ x. Plays c s (contents tags s files) x)
    → IfOk r (λ x. Begins c files x)
begins_so c files tags s (Err e) is read so = tt
begins_so c files tags s (Ok x) is read so =
    record { service = s; read = read; plays = subst (λ (t : Tags). Plays c s (contents t s files) x) is so }

barred : (c : Choice) (files : List File) (s : Service) (w : StartRefusal) → chosen_service c.start c.late files ≡ Ok s → Stops c s (contents profile s files) w → Bars c files w
barred c files s unstarted.NoMemory read so = tt
barred c files s unstarted.Unaccepted read so = record { service = s; read = read; stops = so }
barred c files s (unstarted.Unset why) read so = record { service = s; read = read; stops = so }
barred c files s unstarted.NoDay read so = absurd so
barred c files s unstarted.NoPath read so = absurd so
barred c files s (unstarted.Unreadable n) read so = absurd so

pub bars_so : (c : Choice) (files : List File) (tags : Tags) (s : Service) (r : Result Playing StartRefusal) → tags ≡ profile → chosen_service c.start c.late files ≡ Ok s → IfErr r (λ w. Stops c s (contents tags s files) w)
    → IfErr r (λ w. Bars c files w)
bars_so c files tags s (Ok x) is read so = tt
bars_so c files tags s (Err w) is read so = barred c files s w read (subst (λ (t : Tags). Stops c s (contents t s files) w) is so)

pub unread_so : (c : Choice) (files : List File) (e : Unplayable) → ((n : ℕ) → reading_number e ≡ Some n → IsUnreadable (chosen_service c.start c.late files) n)
    → Bars c files (option_map_or (λ n. unstarted.Unreadable n) (reading_number e) unstarted.NoMemory)
unread_so c files e told = by (reading_number e) refl
  where
    by : (o : Option ℕ) → reading_number e ≡ o → Bars c files (option_map_or (λ n. unstarted.Unreadable n) o unstarted.NoMemory)
    by None is = tt
    by (Some n) is = told n is

-- Of what was handed in.

pub started_so : (sources : List Source) (c : Choice) (files : List File) (r : Result Playing StartRefusal) → c.day ≤ last_day → have_paths sources ≡ true → AreHanded sources files → IfOk r (λ x. Begins c files x)
    → IfOk r (λ x. IsStarted sources c x)
started_so sources c files (Err w) day paths same so = tt
started_so sources c files (Ok x) day paths same so = record { day = day; paths = paths; files = files; same = same; begins = so }

unbegun : (sources : List Source) (c : Choice) (files : List File) (w : StartRefusal) → AreHanded sources files → Bars c files w → IsUnstarted sources c w
unbegun sources c files unstarted.NoMemory same so = tt
unbegun sources c files (unstarted.Unreadable n) same so = record { files = files; same = same; barred = so }
unbegun sources c files unstarted.Unaccepted same so = record { files = files; same = same; barred = so }
unbegun sources c files (unstarted.Unset why) same so = record { files = files; same = same; barred = so }
unbegun sources c files unstarted.NoDay same so = absurd so
unbegun sources c files unstarted.NoPath same so = absurd so

pub unstarted_so : (sources : List Source) (c : Choice) (files : List File) (r : Result Playing StartRefusal) → AreHanded sources files → IfErr r (λ w. Bars c files w) → IfErr r (λ w. IsUnstarted sources c w)
unstarted_so sources c files (Ok x) same so = tt
unstarted_so sources c files (Err w) same so = unbegun sources c files w same so

unpathed : {X : Type 0} (sources : List Source) (c : Choice) (why : NameError) (r : Result X NameError) → r ≡ Err why → (IsErrOf r unnamed.BadName → have_paths sources ≡ false) → IsUnstarted sources c (of_name why)
unpathed {X} sources c unnamed.BadName r is bad = bad (subst (λ (x : Result X NameError). IsErrOf x unnamed.BadName) (sym is) refl)
unpathed sources c unnamed.NoMemory r is bad = tt

pub unnamed_so : {X : Type 0} (sources : List Source) (c : Choice) (why : NameError) (r : Result X NameError) (w : StartRefusal) → r ≡ Err why → (IsErrOf r unnamed.BadName → have_paths sources ≡ false) → w ≡ of_name why
    → IsUnstarted sources c w
unnamed_so sources c why r w is bad same = subst (λ (x : StartRefusal). IsUnstarted sources c x) (sym same) (unpathed sources c why r is bad)

-- no number of these is 0
pub told_some : (sources : List Source) (c : Choice) (w : StartRefusal) → IsUnstarted sources c w → 0 < start_number w
told_some sources c unstarted.NoMemory so = lit< tt
told_some sources c unstarted.NoDay so = lit< tt
told_some sources c unstarted.NoPath so = lit< tt
told_some sources c (unstarted.Unreadable n) so = so.barred.some
told_some sources c unstarted.Unaccepted so = lit< tt
told_some sources c (unstarted.Unset why) so = why_some why

pub has_started : (sources : List Source) (c : Choice) (o : Option Playing) (s : Playing) → o ≡ Some s → IsStarted sources c s → HasStarted sources c o
has_started sources c o s is so = subst (λ (x : Option Playing). HasStarted sources c x) (sym is) so
