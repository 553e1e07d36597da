-- What is told of an object whose group's name is a path, or is none.
use Rattle.std.specs.Prelude.{◌≡◌, ℕ, ◌⊎◌, Bool, true, false, List, Result, Err, IsErrOf, refl}
use Rattle.std.specs.Bool.{MatchBool}
use Rattle.std.proofs.Common.{sym, subst, inl, inr}
use Rattle.mh_base.specs.Path.{is_path}
use Rattle.mh_base.specs.declared.name_error.NameError.{NameError}
use Rattle.mh_base.specs.declared.name_error.NameError.TheVariants as unnamed
use Rattle.mh_crossing.specs.Answers.{name_number, no_memory, no_path}
use Rattle.mh_crossing.specs.Rooms.{HandsOut, IsUnput}
use Rattle.redplay_page.specs.Playing.{Playing}
use Rattle.redplay_page.specs.Standing.{IsObjectTold, TellsObject}

pub pathed_so : (group made : List ℕ) (number : ℕ) (s : Playing) (before after : List ℕ) (old new n : ℕ) → is_path group ≡ true → made ≡ group
    → HandsOut (TellsObject s (record { group = made; number = number })) before after old new n → IsObjectTold group number s before after old new n
pathed_so group made number s before after old new n path same so =
    subst (λ (b : Bool). MatchBool b (HandsOut (TellsObject s (record { group = group; number = number })) before after old new n) (((n ≡ no_path) ⊎ (n ≡ no_memory)) × IsUnput before after old new)) (sym path)
    (subst (λ (g : List ℕ). HandsOut (TellsObject s (record { group = g; number = number })) before after old new n) same so)

-- memory was refused
starved : (b : Bool) (Means : List ℕ → ℕ → Type 0) (before after : List ℕ) (old new n : ℕ) → n ≡ no_memory → IsUnput before after old new
    → MatchBool b (HandsOut Means before after old new n) (((n ≡ no_path) ⊎ (n ≡ no_memory)) × IsUnput before after old new)
starved true Means before after old new n number unput = inr (number, unput)
starved false Means before after old new n number unput = (inr number, unput)

pub unpathed_so : {X : Type 0} (group : List ℕ) (number : ℕ) (why : NameError) (r : Result X NameError) (s : Playing) (before after : List ℕ) (old new n : ℕ) → r ≡ Err why
    → (IsErrOf r unnamed.BadName → is_path group ≡ false) → n ≡ name_number why → IsUnput before after old new → IsObjectTold group number s before after old new n
unpathed_so {X} group number unnamed.BadName r s before after old new n is bad told unput =
    subst (λ (b : Bool). MatchBool b (HandsOut (TellsObject s (record { group = group; number = number })) before after old new n) (((n ≡ no_path) ⊎ (n ≡ no_memory)) × IsUnput before after old new))
    (sym (bad (subst (λ (x : Result X NameError). IsErrOf x unnamed.BadName) (sym is) refl))) (inl told, unput)
unpathed_so group number unnamed.NoMemory r s before after old new n is bad told unput =
    starved (is_path group) (TellsObject s (record { group = group; number = number })) before after old new n told unput
