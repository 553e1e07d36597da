-- Texts with the numbers that are answered with them.
use Rattle.std.specs.Prelude.{◌≡◌, ℕ, List, Result, Ok, Err, IfOk, refl}
use Rattle.std.proofs.Common.{sym, subst}
use Rattle.mh_told.specs.Reading.{Fails}
use Rattle.mh_told.specs.declared.unplayable.Unplayable.{Unplayable}
use Rattle.mh_told.specs.declared.unplayable.Unplayable.TheVariants as unplayable
use Rattle.mh_verdict.specs.Lines.{complaint}
use Rattle.redplay_page.specs.Told.{IsGiven}
use Rattle.redplay_page.specs.declared.told.Told.{Told}

-- a text that was given
pub given_so : {E : Type 0} (text : List ℕ) (r : Result (List ℕ) Unplayable) (t : Result Told E) → r ≡ Ok text → IfOk t (λ x. x.bytes.items ≡ text) → IfOk t (λ x. x.number ≡ 0) → IfOk t (λ x. IsGiven r x.bytes.items x.number)
given_so text r (Err e) is bytes number = tt
given_so text r (Ok x) is bytes number = subst (λ (y : Result (List ℕ) Unplayable). IsGiven y x.bytes.items x.number) (sym is) (bytes, number)

-- what is refused is what the reading says, unless memory was
pub failed : {A : Type 0} (r : Result A Unplayable) (e : Unplayable) → Fails e r → (e ≡ unplayable.NoMemory → ⊥) → r ≡ Err e
failed r (unplayable.File name number offset) fails other = fails
failed r (unplayable.Service number group) fails other = fails
failed r (unplayable.Tags number place) fails other = fails
failed r (unplayable.Script line) fails other = fails
failed r unplayable.NoMemory fails other = absurd (other refl)

-- the line on what cannot be read
pub ungiven_so : {E : Type 0} (why : Unplayable) (t : Result Told E) → (why ≡ unplayable.NoMemory → ⊥) → IfOk t (λ x. x.bytes.items ≡ complaint why) → IfOk t (λ x. x.number ≡ 2) → (r : Result (List ℕ) Unplayable) → Fails why r
    → IfOk t (λ x. IsGiven r x.bytes.items x.number)
ungiven_so why (Err e) other bytes number r fails = tt
ungiven_so why (Ok x) other bytes number r fails =
    subst (λ (y : Result (List ℕ) Unplayable). IsGiven y x.bytes.items x.number) (sym (failed r why fails other)) (bytes, number)
