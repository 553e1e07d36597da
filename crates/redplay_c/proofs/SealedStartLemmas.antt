-- How a session begins by a seal, from the engine up to what was handed in.
use Rattle.std.specs.Prelude.{◌≡◌, ℕ, ◌<◌, ◌≤◌, true, false, List, filter, Option, Some, None, Result, Ok, Err, IfOk, IfErr, IsErrOf, refl}
use Rattle.std.specs.Option.{option_map_or}
use Rattle.std.proofs.Common.{ap, ◌∙◌, sym, subst, lit<, inl, inr}
use Rattle.mh_base.specs.declared.name_error.NameError.{NameError}
use Rattle.mh_base.specs.declared.name_error.NameError.TheVariants as unnamed
use Rattle.mh_codec.specs.Tags.{Tags, profile}
use Rattle.mh_engine.specs.declared.sealed.starting.Unsealed.{Unsealed}
use Rattle.mh_engine.specs.declared.sealed.starting.Unsealed.TheVariants as unsealed
use Rattle.mh_engine.specs.Sealed.{IsToldOf, SealedPlay, sealed_refusal, service_of, unsealed_number}
use Rattle.mh_model.specs.declared.file.File.{File as Content}
use Rattle.mh_model.specs.Planes.{Planes, blank}
use Rattle.mh_model.specs.State.{begun}
use Rattle.mh_seal.specs.declared.seal.Seal.{Seal}
use Rattle.mh_seal.specs.declared.seal_error.SealError.{SealError}
use Rattle.mh_seal.specs.declared.seal_error.SealError.TheVariants as error
use Rattle.mh_seal.specs.Numbers.{error_number}
use Rattle.mh_seal.specs.Reading.{IsRefusal, is_seal}
use Rattle.mh_seal.specs.Text.{seal_text}
use Rattle.mh_sealing.specs.Here.{contents_by, groups_here, is_here}
use Rattle.mh_service.specs.Numbers.{why_number as service_number}
use Rattle.mh_service.specs.Refusals.{File as GroupFile}
use Rattle.mh_service.specs.declared.service_error.Why.{Why as ServiceWhy}
use Rattle.mh_service.specs.declared.service_error.Why.TheVariants as service
use Rattle.mh_told.specs.declared.unplayable.Unplayable.{Unplayable}
use Rattle.mh_told.specs.Reading.{Source as File, Fails}
use Rattle.redplay_c.specs.Answers.{of_name, start_number}
use Rattle.redplay_c.specs.declared.crossing.Source.{Source}
use Rattle.redplay_c.specs.declared.start_refusal.StartRefusal.{StartRefusal}
use Rattle.redplay_c.specs.declared.start_refusal.StartRefusal.TheVariants as unstarted
use Rattle.redplay_c.specs.Files.{AreHanded, have_paths, reading_number}
use Rattle.redplay_c.specs.Playing.{Engined, Playing, of_sealed}
use Rattle.redplay_c.specs.SealedStarts.{HasSealed, IsBegunBy, IsSealed, IsUnbegunBy, IsUnsealed, SealedBars, SealedBegins, SealedPlays, SealedStops, Unfits, has_own_tags, sealed_begun}
use Rattle.redplay_c.specs.Starts.{Unsets, last_day, presets}
use Rattle.redplay_c.proofs.AnswerLemmas.{why_some}
use Rattle.redplay_c.proofs.ReadingLemmas.{IsSmall, small_groups, unread_groups}

-- The engine.

-- what stands in its way, by its number
pub unfit_so : (s : Seal) (groups : List GroupFile) (e : Unsealed) (w : StartRefusal) → IsToldOf (sealed_refusal s groups) e → w ≡ option_map_or (λ n. unstarted.Unreadable n) (unsealed_number e) unstarted.NoMemory
    → Unfits s groups w
unfit_so s groups e w told same = subst (λ (x : StartRefusal). Unfits s groups x) (sym same) (by e told)
  where
    by : (e : Unsealed) → IsToldOf (sealed_refusal s groups) e → Unfits s groups (option_map_or (λ n. unstarted.Unreadable n) (unsealed_number e) unstarted.NoMemory)
    by (unsealed.Missing name) is = record { why = unsealed.Missing name; stands = is; told = refl }
    by (unsealed.Differs name) is = record { why = unsealed.Differs name; stands = is; told = refl }
    by (unsealed.NoService why name) is = record { why = unsealed.NoService why name; stands = is; told = refl }
    by unsealed.NoMemory is = tt

-- A session of these groups.

pub sealed_plays : (s : Seal) (groups : List GroupFile) (fs : List Content) (day : ℕ) (q : Engined) (seen : Planes) (r : Result Playing StartRefusal) → sealed_refusal s groups ≡ None
    → q ≡ of_sealed (sealed_begun s groups day) → seen ≡ blank → IfOk r (λ x. presets fs q.play.state ≡ Ok x.engine.state)
    → IfOk r (λ x. x ≡ record { engine = record q.play { state = x.engine.state }; seal = q.seal; seen = seen }) → IfOk r (λ x. SealedPlays s groups fs day x)
sealed_plays s groups fs day q seen (Err e) free is black set same = tt
sealed_plays s groups fs day q seen (Ok x) free is black set same =
    record {
      accepted = free;
      set = subst (λ (e : Engined). presets fs e.play.state ≡ Ok x.engine.state) is set;
      same = subst (λ (e : Engined). x ≡ record { engine = record e.play { state = x.engine.state }; seal = e.seal; seen = blank }) is
          (subst (λ (v : Planes). x ≡ record { engine = record q.play { state = x.engine.state }; seal = q.seal; seen = v }) black same);
    }

stopped_by : (s : Seal) (groups : List GroupFile) (fs : List Content) (day : ℕ) (w : StartRefusal) → sealed_refusal s groups ≡ None → Unsets (presets fs (begun (service_of s groups) day)) w → SealedStops s groups fs day w
stopped_by s groups fs day unstarted.NoMemory free so = tt
stopped_by s groups fs day (unstarted.Unset why) free so = record { accepted = free; stands = so }
stopped_by s groups fs day unstarted.Unaccepted free so = absurd so
stopped_by s groups fs day unstarted.NoDay free so = absurd so
stopped_by s groups fs day unstarted.NoPath free so = absurd so
stopped_by s groups fs day (unstarted.Unreadable n) free so = absurd so

pub sealed_stops : (s : Seal) (groups : List GroupFile) (fs : List Content) (day : ℕ) (q : Engined) (r : Result Playing StartRefusal) → sealed_refusal s groups ≡ None
    → q ≡ of_sealed (sealed_begun s groups day) → IfErr r (λ w. Unsets (presets fs q.play.state) w) → IfErr r (λ w. SealedStops s groups fs day w)
sealed_stops s groups fs day q (Ok x) free is un = tt
sealed_stops s groups fs day q (Err w) free is un = stopped_by s groups fs day w free (subst (λ (e : Engined). Unsets (presets fs e.play.state) w) is un)

pub unfit_stops : (s : Seal) (groups : List GroupFile) (fs : List Content) (day : ℕ) (w : StartRefusal) → Unfits s groups w → SealedStops s groups fs day w
unfit_stops s groups fs day unstarted.NoMemory so = tt
unfit_stops s groups fs day (unstarted.Unreadable n) so = so
unfit_stops s groups fs day (unstarted.Unset why) so = absurd so
unfit_stops s groups fs day unstarted.Unaccepted so = absurd so
unfit_stops s groups fs day unstarted.NoDay so = absurd so
unfit_stops s groups fs day unstarted.NoPath so = absurd so

-- A session of files.

pub sealed_begins : (s : Seal) (files : List File) (day : ℕ) (tags : Tags) (groups : List GroupFile) (fs : List Content) (r : Result Playing StartRefusal) → tags ≡ profile → has_own_tags s ≡ true
    → groups_here s tags files ≡ Ok groups → fs ≡ contents_by s tags files → IfOk r (λ x. SealedPlays s groups fs day x) → IfOk r (λ x. SealedBegins s files day x)
sealed_begins s files day tags groups fs (Err e) is own read found so = tt
sealed_begins s files day tags groups fs (Ok x) is own read found so =
    record {
      tags = own;
      groups = groups;
      read = subst (λ (t : Tags). groups_here s t files ≡ Ok groups) is read;
      plays = subst (λ (l : List Content). SealedPlays s groups l day x) (found ∙ ap (λ (t : Tags). contents_by s t files) is) so;
    }

barred_by : (s : Seal) (files : List File) (day : ℕ) (groups : List GroupFile) (w : StartRefusal) → groups_here s profile files ≡ Ok groups → SealedStops s groups (contents_by s profile files) day w → SealedBars s files day w
barred_by s files day groups unstarted.NoMemory read so = tt
barred_by s files day groups (unstarted.Unreadable n) read so = inr (inr (record { groups = groups; read = read; stops = so }))
barred_by s files day groups (unstarted.Unset why) read so = record { groups = groups; read = read; stops = so }
barred_by s files day groups unstarted.Unaccepted read so = absurd so
barred_by s files day groups unstarted.NoDay read so = absurd so
barred_by s files day groups unstarted.NoPath read so = absurd so

pub sealed_bars : (s : Seal) (files : List File) (day : ℕ) (tags : Tags) (groups : List GroupFile) (fs : List Content) (r : Result Playing StartRefusal) → tags ≡ profile
    → groups_here s tags files ≡ Ok groups → fs ≡ contents_by s tags files → IfErr r (λ w. SealedStops s groups fs day w) → IfErr r (λ w. SealedBars s files day w)
sealed_bars s files day tags groups fs (Ok x) is read found so = tt
sealed_bars s files day tags groups fs (Err w) is read found so =
    barred_by s files day groups w (subst (λ (t : Tags). groups_here s t files ≡ Ok groups) is read)
    (subst (λ (l : List Content). SealedStops s groups l day w) (found ∙ ap (λ (t : Tags). contents_by s t files) is) so)

-- a file that is here cannot be read
pub unread_bars : (s : Seal) (files : List File) (day : ℕ) (tags : Tags) (e : Unplayable) (w : StartRefusal) → tags ≡ profile → Fails e (groups_here s tags files)
    → w ≡ option_map_or (λ n. unstarted.Unreadable n) (reading_number e) unstarted.NoMemory → SealedBars s files day w
unread_bars s files day tags e w is fails same =
    subst (λ (x : StartRefusal). SealedBars s files day x) (sym same) (by (reading_number e) refl)
  where
    here : Fails e (groups_here s profile files)
    here = subst (λ (t : Tags). Fails e (groups_here s t files)) is fails

    by : (o : Option ℕ) → reading_number e ≡ o → SealedBars s files day (option_map_or (λ n. unstarted.Unreadable n) o unstarted.NoMemory)
    by None told = tt
    by (Some n) told =
        let small : IsSmall n = small_groups profile (filter (is_here s) files) e n here told in
        inr (inl (record { why = e; read = unread_groups profile (filter (is_here s) files) e n here told; told = told; some = small.0; small = small.1 }))

-- its tags are others
pub tags_bar : (s : Seal) (files : List File) (day : ℕ) → has_own_tags s ≡ false → SealedBars s files day (unstarted.Unreadable 73)
tags_bar s files day other = inl (refl, other)

-- Of what was handed in.

pub begun_by : (sources : List Source) (s : Seal) (day : ℕ) (files : List File) (r : Result Playing StartRefusal) → have_paths sources ≡ true → AreHanded sources files → IfOk r (λ x. SealedBegins s files day x)
    → IfOk r (λ x. IsBegunBy sources s day x)
begun_by sources s day files (Err w) paths same so = tt
begun_by sources s day files (Ok x) paths same so = record { paths = paths; files = files; same = same; begins = so }

unbegun : (sources : List Source) (s : Seal) (day : ℕ) (files : List File) (w : StartRefusal) → AreHanded sources files → SealedBars s files day w → IsUnbegunBy sources s day w
unbegun sources s day files unstarted.NoMemory same so = tt
unbegun sources s day files (unstarted.Unreadable n) same so = record { files = files; same = same; barred = so }
unbegun sources s day files (unstarted.Unset why) same so = record { files = files; same = same; barred = so }
unbegun sources s day files unstarted.Unaccepted same so = absurd so
unbegun sources s day files unstarted.NoDay same so = absurd so
unbegun sources s day files unstarted.NoPath same so = absurd so

pub unbegun_by : (sources : List Source) (s : Seal) (day : ℕ) (files : List File) (r : Result Playing StartRefusal) → AreHanded sources files → IfErr r (λ w. SealedBars s files day w)
    → IfErr r (λ w. IsUnbegunBy sources s day w)
unbegun_by sources s day files (Ok x) same so = tt
unbegun_by sources s day files (Err w) same so = unbegun sources s day files w same so

unpathed : {X : Type 0} (sources : List Source) (s : Seal) (day : ℕ) (why : NameError) (r : Result X NameError) → r ≡ Err why → (IsErrOf r unnamed.BadName → have_paths sources ≡ false) → IsUnbegunBy sources s day (of_name why)
unpathed {X} sources s day unnamed.BadName r is bad = bad (subst (λ (x : Result X NameError). IsErrOf x unnamed.BadName) (sym is) refl)
unpathed sources s day unnamed.NoMemory r is bad = tt

pub unnamed_by : {X : Type 0} (sources : List Source) (s : Seal) (day : ℕ) (why : NameError) (r : Result X NameError) (w : StartRefusal) → r ≡ Err why → (IsErrOf r unnamed.BadName → have_paths sources ≡ false) → w ≡ of_name why
    → IsUnbegunBy sources s day w
unnamed_by sources s day why r w is bad same = subst (λ (x : StartRefusal). IsUnbegunBy sources s day x) (sym same) (unpathed sources s day why r is bad)

-- Of a seal as it was handed in.

pub sealed_so : (bytes : List ℕ) (sources : List Source) (day : ℕ) (s : Seal) (r : Result Playing StartRefusal) → day ≤ last_day → (is_seal s ≡ true) × (bytes ≡ seal_text s) → IfOk r (λ x. IsBegunBy sources s day x)
    → IfOk r (λ x. IsSealed bytes sources day x)
sealed_so bytes sources day s (Err w) in_time known so = tt
sealed_so bytes sources day s (Ok x) in_time known so = record { in_time = in_time; seal = s; good = known.0; text = known.1; begun = so }

barred_seal : (bytes : List ℕ) (sources : List Source) (day : ℕ) (s : Seal) (w : StartRefusal) → (is_seal s ≡ true) × (bytes ≡ seal_text s) → IsUnbegunBy sources s day w → IsUnsealed bytes sources day w
barred_seal bytes sources day s unstarted.NoMemory known so = tt
barred_seal bytes sources day s unstarted.NoPath known so = record { seal = s; good = known.0; text = known.1; barred = so }
barred_seal bytes sources day s (unstarted.Unreadable n) known so = inr (record { seal = s; good = known.0; text = known.1; barred = so })
barred_seal bytes sources day s (unstarted.Unset why) known so = record { seal = s; good = known.0; text = known.1; barred = so }
barred_seal bytes sources day s unstarted.Unaccepted known so = absurd so
barred_seal bytes sources day s unstarted.NoDay known so = absurd so

pub unsealed_so : (bytes : List ℕ) (sources : List Source) (day : ℕ) (s : Seal) (r : Result Playing StartRefusal) → (is_seal s ≡ true) × (bytes ≡ seal_text s) → IfErr r (λ w. IsUnbegunBy sources s day w)
    → IfErr r (λ w. IsUnsealed bytes sources day w)
unsealed_so bytes sources day s (Ok x) known so = tt
unsealed_so bytes sources day s (Err w) known so = barred_seal bytes sources day s w known so

pub no_seal_so : (bytes : List ℕ) (sources : List Source) (day : ℕ) (e : SealError) (w : StartRefusal) → IsRefusal bytes e → w ≡ option_map_or (λ n. unstarted.Unreadable n) (error_number e) unstarted.NoMemory
    → IsUnsealed bytes sources day w
no_seal_so bytes sources day e w is same = subst (λ (x : StartRefusal). IsUnsealed bytes sources day x) (sym same) (by e is)
  where
    by : (e : SealError) → IsRefusal bytes e → IsUnsealed bytes sources day (option_map_or (λ n. unstarted.Unreadable n) (error_number e) unstarted.NoMemory)
    by (error.Line n) so = inl (record { why = error.Line n; refused = so; told = refl })
    by error.Version so = inl (record { why = error.Version; refused = so; told = refl })
    by error.NoMemory so = tt

-- No number of these is 0.

service_some : (w : ServiceWhy) → 0 < service_number w
service_some service.DoubleName = lit< tt
service_some service.NoStart = lit< tt
service_some service.DoubleNumber = lit< tt
service_some service.NotAnApplication = lit< tt
service_some service.Limit = lit< tt
service_some service.BadReference = lit< tt

-- of a number that is told
abbrev IsSome : Option ℕ → Type 0
IsSome None = Unit {0}
IsSome (Some n) = 0 < n

unfit_some : (e : Unsealed) → IsSome (unsealed_number e)
unfit_some (unsealed.Missing name) = lit< tt
unfit_some (unsealed.Differs name) = lit< tt
unfit_some (unsealed.NoService why name) = service_some why
unfit_some unsealed.NoMemory = tt

no_seal_some : (e : SealError) → IsSome (error_number e)
no_seal_some (error.Line n) = lit< tt
no_seal_some error.Version = lit< tt
no_seal_some error.NoMemory = tt

bars_some : (s : Seal) (files : List File) (day n : ℕ) → SealedBars s files day (unstarted.Unreadable n) → 0 < n
bars_some s files day n (inl other) = subst (λ (m : ℕ). 0 < m) (sym other.0) (lit< tt)
bars_some s files day n (inr (inl unread)) = unread.some
bars_some s files day n (inr (inr stopped)) = subst IsSome stopped.stops.told (unfit_some stopped.stops.why)

number_some : (bytes : List ℕ) (sources : List Source) (day n : ℕ) → IsUnsealed bytes sources day (unstarted.Unreadable n) → 0 < n
number_some bytes sources day n (inl none) = subst IsSome none.told (no_seal_some none.why)
number_some bytes sources day n (inr barred) = bars_some barred.seal barred.barred.files day n barred.barred.barred

pub unsealed_some : (bytes : List ℕ) (sources : List Source) (day : ℕ) (w : StartRefusal) → IsUnsealed bytes sources day w → 0 < start_number w
unsealed_some bytes sources day unstarted.NoMemory so = lit< tt
unsealed_some bytes sources day unstarted.NoDay so = lit< tt
unsealed_some bytes sources day unstarted.NoPath so = lit< tt
unsealed_some bytes sources day (unstarted.Unreadable n) so = number_some bytes sources day n so
unsealed_some bytes sources day unstarted.Unaccepted so = lit< tt
unsealed_some bytes sources day (unstarted.Unset why) so = why_some why

pub has_sealed : (bytes : List ℕ) (sources : List Source) (day : ℕ) (o : Option Playing) (p : Playing) → o ≡ Some p → IsSealed bytes sources day p → HasSealed bytes sources day o
has_sealed bytes sources day o p is so = subst (λ (x : Option Playing). HasSealed bytes sources day x) (sym is) so
