-- What is meant of the files that were handed in, for the calls of archives.
use Rattle.std.specs.Prelude.{◌≡◌, ℕ, ◌⊎◌, true, false, List, Result, Ok, Err, IfOk, IsErrOf, refl}
use Rattle.std.proofs.Common.{subst, sym, inl, inr}
use Rattle.mh_base.specs.declared.name_error.NameError.{NameError}
use Rattle.mh_base.specs.declared.name_error.NameError.TheVariants as unnamed
use Rattle.mh_crossing.specs.declared.source.Source.{Source}
use Rattle.mh_crossing.specs.Answers.{name_number}
use Rattle.mh_crossing.specs.Files.{AreHanded, File, have_paths}
use Rattle.mh_crossing.specs.Rooms.{AreMeant, IsUnanswered}

-- what is meant of the files in memory of the library's own is meant of what was handed in
pub meant_so : (Means : List File → List ℕ → ℕ → Type 0) (sources : List Source) (files : List File) (text : List ℕ) (n : ℕ) → have_paths sources ≡ true → AreHanded sources files → Means files text n
    → AreMeant Means sources text n
meant_so Means sources files text n paths same so = record { paths = paths; files = files; same = same; meant = so }

unanswered : {X : Type 0} (sources : List Source) (why : NameError) (r : Result X NameError) → r ≡ Err why → (IsErrOf r unnamed.BadName → have_paths sources ≡ false) → IsUnanswered sources (name_number why)
unanswered {X} sources unnamed.BadName r is bad = inr (refl, bad (subst (λ (x : Result X NameError). IsErrOf x unnamed.BadName) (sym is) refl))
unanswered sources unnamed.NoMemory r is bad = inl refl

pub unanswered_so : {X : Type 0} (sources : List Source) (why : NameError) (n : ℕ) (r : Result X NameError) → r ≡ Err why → (IsErrOf r unnamed.BadName → have_paths sources ≡ false) → n ≡ name_number why → IsUnanswered sources n
unanswered_so sources why n r is bad same = subst (λ (m : ℕ). IsUnanswered sources m) (sym same) (unanswered sources why r is bad)
