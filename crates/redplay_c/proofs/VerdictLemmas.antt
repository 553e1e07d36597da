-- What is told of files that are checked.
use Rattle.std.specs.Prelude.{◌≡◌, ℕ, List, [], ◌++◌, length, take, drop, Option, Some, None, Result, Ok, Err, IfOk, IfErr, IsErrOf, true, false, refl, ◌⊎◌}
use Rattle.std.proofs.Common.{ap, ◌∙◌, sym, subst, inl, inr}
use Rattle.mh_base.specs.declared.name_error.NameError.{NameError}
use Rattle.mh_base.specs.declared.name_error.NameError.TheVariants as unnamed
use Rattle.mh_flow.specs.Equipment.{equipped}
use Rattle.mh_laws.specs.Budget.{Bounds}
use Rattle.mh_model.specs.Service.{Service}
use Rattle.mh_model.specs.declared.program.Signature.{Signature}
use Rattle.mh_told.specs.Reading.{Source as File, Fails}
use Rattle.mh_told.specs.declared.unplayable.Unplayable.{Unplayable}
use Rattle.mh_told.specs.declared.unplayable.Unplayable.TheVariants as unplayable
use Rattle.mh_verdict.specs.Lines.{accepted_lines, complaint, refusal_lines}
use Rattle.mh_verify.specs.Free.{IsVerified, Verified}
use Rattle.mh_verify.specs.Order.{IsTold, Names}
use Rattle.mh_verify.specs.declared.refusal.Refusal.{Refusal}
use Rattle.mh_verify.specs.declared.refusal.RefusalKind.TheVariants as kind
use Rattle.redplay_c.specs.declared.crossing.Source.{Source}
use Rattle.redplay_c.specs.declared.verdict.Verdict.{Verdict}
use Rattle.redplay_c.specs.Answers.{good, name_number, unaccepted}
use Rattle.redplay_c.specs.Files.{AreHanded, IsUnreadable, chosen_service, have_paths, reading_number}
use Rattle.redplay_c.specs.Verdicts.{AreChecked, Checks, IsUnchecked, check_accepted, check_refused, check_unreadable}

-- these lines with this number
abbrev Tells : Result Service Unplayable → Verdict → Type 0
Tells r v = Checks r v.text v.number

told_so : {E : Type 0} (r : Result Service Unplayable) (v : Result Verdict E) (lines : List ℕ) (n : ℕ) → Checks r lines n → IfOk v (λ x. x.text ≡ lines) → IfOk v (λ x. x.number ≡ n) → IfOk v (λ x. Tells r x)
told_so r (Err e) lines n so text number = tt
told_so r (Ok x) lines n so text number = subst (λ (m : ℕ). Checks r x.text m) (sym number) (subst (λ (t : List ℕ). Checks r t n) (sym text) so)

text_so : {E F : Type 0} (v : Result Verdict E) (t : Result (List ℕ) F) (lines : List ℕ) → IfOk v (λ x. t ≡ Ok x.text) → IfOk t (λ y. y ≡ lines) → IfOk v (λ x. x.text ≡ lines)
text_so (Err e) t lines same is = tt
text_so {F = F} (Ok x) t lines same is = subst (λ (y : Result (List ℕ) F). IfOk y (λ z. z ≡ lines)) same is

-- an accepted service
pub accepted_told : {E F : Type 0} (s : Service) (a : Verified) (b : Bounds) (v : Result Verdict E) (t : Result (List ℕ) F) → s.programs ≡ [] → a.service ≡ equipped s [] → IsVerified a → b ≡ a.bounds
    → IfOk t (λ y. y ≡ accepted_lines b) → IfOk v (λ x. t ≡ Ok x.text) → IfOk v (λ x. x.number ≡ good) → IfOk v (λ x. Checks (Ok s) x.text x.number)
accepted_told s a b v t none same so bounds lines text number =
    let plain : a.service ≡ s = same ∙ ap (λ (ps : List Signature). record s { programs = ps }) (sym none) in
    let meant : Checks (Ok s) (accepted_lines b) good =
    subst (λ (x : Service). Checks (Ok x) (accepted_lines b) good) plain
    (subst (λ (x : Bounds). Checks (Ok a.service) (accepted_lines x) good) (sym bounds) (check_accepted a so)) in
    told_so (Ok s) v (accepted_lines b) good meant (text_so v t (accepted_lines b) text lines) number

named : (s : Service) (r : Refusal) → IsTold s [] r → (r.kind ≡ kind.NoMemory → ⊥) → Names s [] r
named s r (inl first) other = first
named s r (inr same) other = absurd (other (ap (λ (x : Refusal). x.kind) same))

-- a refused one
pub refused_told : {E F : Type 0} (s : Service) (r : Refusal) (v : Result Verdict E) (t : Result (List ℕ) F) → IsTold s [] r → (r.kind ≡ kind.NoMemory → ⊥) → IfOk t (λ y. y ≡ refusal_lines r) → IfOk v (λ x. t ≡ Ok x.text)
    → IfOk v (λ x. x.number ≡ unaccepted) → IfOk v (λ x. Checks (Ok s) x.text x.number)
refused_told s r v t told other lines text number =
    told_so (Ok s) v (refusal_lines r) unaccepted (check_refused s r (named s r told other)) (text_so v t (refusal_lines r) text lines) number

-- and what cannot be read
read_so : (r : Result Service Unplayable) (e : Unplayable) (n : ℕ) → Fails e r → reading_number e ≡ Some n → r ≡ Err e
read_so r (unplayable.File name number offset) n fails told = fails
read_so r (unplayable.Service number group) n fails told = fails
read_so r (unplayable.Tags number place) n fails told = fails
read_so r (unplayable.Script line) n fails told = cc
read_so r unplayable.NoMemory n fails told = cc

pub complained_told : {E : Type 0} (r : Result Service Unplayable) (e : Unplayable) (v : Result Verdict E) → Fails e r → ((n : ℕ) → reading_number e ≡ Some n → IsUnreadable r n) → IfOk v (λ x. x.text ≡ complaint e)
    → IfOk v (λ x. reading_number e ≡ Some x.number) → IfOk v (λ x. Checks r x.text x.number)
complained_told r e (Err x) fails small text number = tt
complained_told r e (Ok x) fails small text number =
    let u = small x.number number in
    let is : r ≡ Err e = read_so r e x.number fails number in
    subst (λ (y : Result Service Unplayable). Checks y x.text x.number) (sym is)
    (subst (λ (t : List ℕ). Checks (Err e) t x.number) (sym text) (check_unreadable e x.number number u.some u.small))

-- of what was handed in
pub checked_so : {E : Type 0} (sources : List Source) (start late : List ℕ) (files : List File) (v : Result Verdict E) (x : Verdict) → have_paths sources ≡ true → AreHanded sources files
    → IfOk v (λ y. Checks (chosen_service start late files) y.text y.number) → v ≡ Ok x → AreChecked sources start late x.text x.number
checked_so {E} sources start late files v x paths same so is =
    record { paths = paths; files = files; same = same; meant = subst (λ (w : Result Verdict E). IfOk w (λ y. Checks (chosen_service start late files) y.text y.number)) is so }

unchecked : {X : Type 0} (sources : List Source) (why : NameError) (r : Result X NameError) → r ≡ Err why → (IsErrOf r unnamed.BadName → have_paths sources ≡ false) → IsUnchecked sources (name_number why)
unchecked {X} sources unnamed.BadName r is bad = inr (refl, bad (subst (λ (x : Result X NameError). IsErrOf x unnamed.BadName) (sym is) refl))
unchecked sources unnamed.NoMemory r is bad = inl refl

pub unchecked_so : {X : Type 0} (sources : List Source) (why : NameError) (n : ℕ) (r : Result X NameError) → r ≡ Err why → (IsErrOf r unnamed.BadName → have_paths sources ≡ false) → n ≡ name_number why → IsUnchecked sources n
unchecked_so sources why n r is bad same = subst (λ (m : ℕ). IsUnchecked sources m) (sym same) (unchecked sources why r is bad)
