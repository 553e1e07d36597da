-- What was written is what is meant: one lemma for each way in which a play or a check ends.
use Rattle.std.specs.Prelude.{◌≡◌, Bool, true, false, List, [], ℕ, Option, Result, Ok, Err, IfOk, OnOk, OnErr}
use Rattle.std.proofs.Common.{inl, inr, ap, subst, sym, refl}
use Rattle.mh_report.specs.declared.status.Status.{Status}
use Rattle.mh_report.specs.declared.status.Status.TheVariants as status
use Rattle.mh_report.specs.declared.play_error.PlayError.{PlayError}
use Rattle.mh_model.specs.Service.{Service}
use Rattle.mh_verify.specs.declared.refusal.Refusal.{Refusal}
use Rattle.mh_verify.specs.declared.refusal.RefusalKind.TheVariants as kind
use Rattle.mh_laws.specs.Budget.{Bounds}
use Rattle.mh_verify.specs.Free.{IsVerified, Verified}
use Rattle.mh_verify.specs.Order.{Names, IsTold}
use Rattle.mh_told.specs.declared.unplayable.Unplayable.{Unplayable}
use Rattle.mh_told.specs.declared.unplayable.Unplayable.TheVariants as unplayable
use Rattle.std.specs.Io.KnownBytes.{Appends}
use Rattle.mh_report.specs.Sink.{IsBeginning}
use Rattle.mh_report.specs.Played.{Checks, check_accepted, check_refused, Refuses, refuses, HasWritten, HasBegun, begun_nothing, begun_some}
use Rattle.mh_verdict.specs.Lines.{accepted_lines, complaint}
use Rattle.mh_told.specs.Reading.{Fails}

-- a whole report that is meant
pub whole : (Means : List ℕ → Status → Type 0) (before after : Option (List ℕ)) (r : Result Status PlayError) (report : List ℕ) (how : Status) → Means report how →
    OnOk r (Appends before after report) → IfOk r (λ st. st ≡ how) → IfOk r (HasWritten Means before after)
whole Means before after (Ok st) report how so taken same = record { report = report; meant = subst (Means report) (sym same) so; taken = taken }
whole Means before after (Err e) report how so taken same = tt

-- a beginning of a report that is meant
pub cut : (Means : List ℕ → Status → Type 0) (before after : Option (List ℕ)) (r : Result Status PlayError) (report : List ℕ) (how : Status) → Means report how →
    OnErr r (IsBeginning before after report) → OnErr r (HasBegun Means before after)
cut Means before after (Ok st) report how so begun = tt
cut Means before after (Err e) report how so begun = begun_some report how so begun

-- what is meant as one is meant as another

pub written_as : (M N : List ℕ → Status → Type 0) (before after : Option (List ℕ)) (r : Result Status PlayError) → ((report : List ℕ) (how : Status) → M report how → N report how) →
    IfOk r (HasWritten M before after) → IfOk r (HasWritten N before after)
written_as M N before after (Ok st) each w = record { report = w.report; meant = each w.report st w.meant; taken = w.taken }
written_as M N before after (Err e) each w = tt

pub begun_as : (M N : List ℕ → Status → Type 0) (before after : Option (List ℕ)) (r : Result Status PlayError) → ((report : List ℕ) (how : Status) → M report how → N report how) →
    OnErr r (HasBegun M before after) → OnErr r (HasBegun N before after)
begun_as M N before after (Ok st) each w = tt
begun_as M N before after (Err e) each (begun_nothing same) = begun_nothing same
begun_as M N before after (Err e) each (begun_some report how meant cut) = begun_some report how (each report how meant) cut

pub refused_checks : (s : Service) (report : List ℕ) (how : Status) → Refuses s report how → Checks (Ok s) report how
refused_checks s report how (refuses r first) = check_refused s r first

-- an accepted service is said with its bounds
pub accepted_so : (a : Verified) (s : Service) (b : Bounds) → a.service ≡ s → IsVerified a → b ≡ a.bounds → Checks (Ok s) (accepted_lines b) status.Good
accepted_so a s b same so bounds =
    subst (λ (v : Service). Checks (Ok v) (accepted_lines b) status.Good) same
    (subst (λ (x : Bounds). Checks (Ok a.service) (accepted_lines x) status.Good) (sym bounds) (check_accepted a so))

-- a refusal that is not for want of memory names what comes first
pub named : (s : Service) (r : Refusal) → IsTold s [] r → (r.kind ≡ kind.NoMemory → ⊥) → Names s [] r
named s r (inl first) other = first
named s r (inr same) other = absurd (other (ap (λ (x : Refusal). x.kind) same))

-- an error that is not for want of memory is what the reading says
pub failed : {Y : Type 0} (e : Unplayable) (r : Result Y Unplayable) → Fails e r → (e ≡ unplayable.NoMemory → ⊥) → r ≡ Err e
failed {Y} (unplayable.File name number offset) r so other = so
failed {Y} (unplayable.Service number group) r so other = so
failed {Y} (unplayable.Tags number place) r so other = so
failed {Y} (unplayable.Script number) r so other = so
failed {Y} unplayable.NoMemory r so other = absurd (other refl)

-- what holds of a strict play holds where the play is lenient
pub lenient_is : (b : Bool) (P : Type 0) → b ≡ true → b ≡ false → P
lenient_is true P yes_ no_ = absurd cc
lenient_is false P yes_ no_ = absurd cc

-- where reading fails, the line that is written is the one that is meant
pub unreadable_whole : {Y : Type 0} (Means : Result Y Unplayable → List ℕ → Status → Type 0) (r : Result Y Unplayable) (e : Unplayable) (before after : Option (List ℕ)) (answer : Result Status PlayError) →
    r ≡ Err e → Means (Err e) (complaint e) status.Unreadable → OnOk answer (Appends before after (complaint e)) → IfOk answer (λ st. st ≡ status.Unreadable) → IfOk answer (HasWritten (Means r) before after)
unreadable_whole {Y} Means r e before after answer is meant taken how =
    subst (λ (x : Result Y Unplayable). IfOk answer (HasWritten (Means x) before after)) (sym is) (whole (Means (Err e)) before after answer (complaint e) status.Unreadable meant taken how)

pub unreadable_cut : {Y : Type 0} (Means : Result Y Unplayable → List ℕ → Status → Type 0) (r : Result Y Unplayable) (e : Unplayable) (before after : Option (List ℕ)) (answer : Result Status PlayError) →
    r ≡ Err e → Means (Err e) (complaint e) status.Unreadable → OnErr answer (IsBeginning before after (complaint e)) → OnErr answer (HasBegun (Means r) before after)
unreadable_cut {Y} Means r e before after answer is meant begun =
    subst (λ (x : Result Y Unplayable). OnErr answer (HasBegun (Means x) before after)) (sym is) (cut (Means (Err e)) before after answer (complaint e) status.Unreadable meant begun)
