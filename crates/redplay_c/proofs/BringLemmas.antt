-- Files that arrive.
use Rattle.std.specs.Prelude.{◌≡◌, ℕ, List, Option, Some, None, Result, Ok, Err, IsErrOf, Bool, true, false, refl, ◌⊎◌, unwrap_or}
use Rattle.std.specs.Bool.{MatchBool}
use Rattle.std.proofs.Common.{ap, ◌∙◌, sym, subst, inl, inr}
use Rattle.mh_base.specs.Path.{is_path}
use Rattle.mh_base.specs.declared.name_error.NameError.{NameError}
use Rattle.mh_base.specs.declared.name_error.NameError.TheVariants as unnamed
use Rattle.mh_codec.specs.Tags.{profile}
use Rattle.mh_group.specs.declared.written.Written.{Written}
use Rattle.mh_model.specs.declared.file.File.{File}
use Rattle.mh_model.specs.declared.input.Input.{Input}
use Rattle.mh_model.specs.declared.input.Input.TheVariants as input
use Rattle.mh_told.specs.Reading.{Fails, group_in}
use Rattle.mh_told.specs.declared.unplayable.Unplayable.{Unplayable}
use Rattle.mh_told.specs.declared.unplayable.Unplayable.TheVariants as unplayable
use Rattle.redplay_c.specs.Answers.{name_number, no_memory, no_path}
use Rattle.redplay_c.specs.Calls.{IsArrived, IsBrought, IsPosted, IsSent, IsStarved}
use Rattle.redplay_c.specs.Files.{reading_number}
use Rattle.redplay_c.specs.Playing.{Playing}

-- the name is a path
pathed : (b : Bool) (P Q : Type 0) → b ≡ true → P → MatchBool b P Q
pathed b P Q is so = subst (λ (x : Bool). MatchBool x P Q) (sym is) so

-- or it is none
unpathed : (b : Bool) (P Q : Type 0) → b ≡ false → Q → MatchBool b P Q
unpathed b P Q is so = subst (λ (x : Bool). MatchBool x P Q) (sym is) so

-- what is answered where there is no name
unnamed_so : {X : Type 0} (b : Bool) (P : Type 0) (why : NameError) (r : Result X NameError) (s t : Playing) (n : ℕ) → r ≡ Err why → (IsErrOf r unnamed.BadName → b ≡ false) → n ≡ name_number why → t ≡ s
    → MatchBool b P ((n ≡ no_path) × (t ≡ s)) ⊎ IsStarved s t n
unnamed_so {X} b P unnamed.BadName r s t n is bad number same =
    inl (unpathed b P ((n ≡ no_path) × (t ≡ s)) (bad (subst (λ (x : Result X NameError). IsErrOf x unnamed.BadName) (sym is) refl)) (number, same))
unnamed_so b P unnamed.NoMemory r s t n is bad number same = inr (number, same)

-- a content file
pub arrived_so : (name content : List ℕ) (f : File) (s t : Playing) (n : ℕ) → is_path name ≡ true → f ≡ record { name = name; content = content } → IsPosted (input.Arrive f) s t n → IsArrived name content s t n
arrived_so name content f s t n path same so =
    inl (pathed (is_path name) (IsPosted (input.Arrive (record { name = name; content = content })) s t n) ((n ≡ no_path) × (t ≡ s)) path (subst (λ (x : File). IsPosted (input.Arrive x) s t n) same so))

pub unarrived_so : {X : Type 0} (name content : List ℕ) (why : NameError) (r : Result X NameError) (s t : Playing) (n : ℕ) → r ≡ Err why → (IsErrOf r unnamed.BadName → is_path name ≡ false) → n ≡ name_number why → t ≡ s
    → IsArrived name content s t n
unarrived_so name content why r s t n is bad number same =
    unnamed_so (is_path name) (IsPosted (input.Arrive (record { name = name; content = content })) s t n) why r s t n is bad number same

-- the file of a scene
pub sent_so : (name : List ℕ) (r : Result Written Unplayable) (g : Written) (s t : Playing) (n : ℕ) → r ≡ Ok g → IsPosted (input.Scene name g) s t n → IsSent name r s t n ⊎ IsStarved s t n
sent_so name r g s t n is so = inl (subst (λ (x : Result Written Unplayable). IsSent name x s t n) (sym is) so)

pub unsent_so : (name : List ℕ) (r : Result Written Unplayable) (e : Unplayable) (s t : Playing) (n : ℕ) → Fails e r → (reading_number e ≡ None → e ≡ unplayable.NoMemory) → n ≡ unwrap_or (reading_number e) no_memory → t ≡ s
    → IsSent name r s t n ⊎ IsStarved s t n
unsent_so name r (unplayable.File file number offset) s t n fails told is same = inl (subst (λ (x : Result Written Unplayable). IsSent name x s t n) (sym fails) (ap Some (sym is), same))
unsent_so name r (unplayable.Service number group) s t n fails told is same = inl (subst (λ (x : Result Written Unplayable). IsSent name x s t n) (sym fails) (ap Some (sym is), same))
unsent_so name r (unplayable.Tags number place) s t n fails told is same = inl (subst (λ (x : Result Written Unplayable). IsSent name x s t n) (sym fails) (ap Some (sym is), same))
unsent_so name r (unplayable.Script line) s t n fails told is same = inr (is, same)
unsent_so name r unplayable.NoMemory s t n fails told is same = inr (is, same)

by_sent : (b : Bool) (P Q R : Type 0) → b ≡ true → P ⊎ R → MatchBool b P Q ⊎ R
by_sent b P Q R path (inl so) = inl (pathed b P Q path so)
by_sent b P Q R path (inr so) = inr so

pub brought_so : (name made content : List ℕ) (s t : Playing) (n : ℕ) → is_path name ≡ true → made ≡ name → IsSent made (group_in profile made content) s t n ⊎ IsStarved s t n → IsBrought name content s t n
brought_so name made content s t n path same so =
    by_sent (is_path name) (IsSent name (group_in profile name content) s t n) ((n ≡ no_path) × (t ≡ s)) (IsStarved s t n) path
    (subst (λ (x : List ℕ). IsSent x (group_in profile x content) s t n ⊎ IsStarved s t n) same so)

pub unbrought_so : {X : Type 0} (name content : List ℕ) (why : NameError) (r : Result X NameError) (s t : Playing) (n : ℕ) → r ≡ Err why → (IsErrOf r unnamed.BadName → is_path name ≡ false) → n ≡ name_number why → t ≡ s
    → IsBrought name content s t n
unbrought_so name content why r s t n is bad number same =
    unnamed_so (is_path name) (IsSent name (group_in profile name content) s t n) why r s t n is bad number same
