-- What is written of a service that is sealed is what is meant.
use Rattle.std.specs.Prelude.{◌≡◌, ◌≢◌, ℕ, true, List, Option, Result, Ok, Err, OnOk, OnErr, IfOk, IsErrAnd, Vec, refl}
use Rattle.std.specs.List.{list_all}
use Rattle.std.specs.Io.KnownBytes.{Appends}
use Rattle.std.specs.declared.alloc.Global.{Global}
use Rattle.std.proofs.Common.{subst, sym}
use Rattle.mh_codec.specs.Tags.{Tags}
use Rattle.mh_group.specs.Fit.{is_group}
use Rattle.mh_flow.specs.Equipment.{equipped}
use Rattle.mh_laws.specs.Budget.{Bounds}
use Rattle.mh_model.specs.declared.program.Signature.{Signature}
use Rattle.mh_model.specs.Service.{Service}
use Rattle.mh_seal.specs.declared.seal.Seal.{Seal}
use Rattle.mh_seal.specs.Text.{seal_text}
use Rattle.mh_seal_laws.specs.Digests.{IsSealable, is_spelled}
use Rattle.mh_seal_laws.specs.Joined.{IsOfFiles}
use Rattle.mh_seal_laws.specs.Told.{IsSealOf}
use Rattle.mh_sealing.specs.Sealing.{IsToldOf, IsUnsealable}
use Rattle.mh_told.specs.declared.unplayable.Unplayable.{Unplayable}
use Rattle.mh_told.specs.declared.unplayable.Unplayable.TheVariants as unplayable
use Rattle.mh_verdict.specs.Lines.{complaint}
use Rattle.mh_verify.specs.Free.{IsVerified, Verified}
use Rattle.mh_report.specs.declared.status.Status.{Status}
use Rattle.mh_report.specs.declared.status.Status.TheVariants as status
use Rattle.mh_report.specs.declared.play_error.PlayError.{PlayError}
use Rattle.mh_report.specs.Played.{HasBegun, HasWritten, Refuses, refuses}
use Rattle.mh_report.specs.Sealed.{IsMeant, SealsOrdered, seal_made, seal_refused, seal_unspelled}
use Rattle.mh_report.specs.Sink.{IsBeginning}
use Rattle.mh_report.proofs.WrittenLemmas.{cut, whole}

pub refused_seals : (tags : List ℕ) (v : Service) (report : List ℕ) (how : Status) → Refuses v report how → SealsOrdered tags v report how
refused_seals tags v report how (refuses r first) = seal_refused r first

-- of an accepted service without its programs the same is told

pub sealable_as : (tags : Tags) (digest : List ℕ → List ℕ) (a r : Service) (ps : List Signature) → equipped r ps ≡ a → IsOfFiles a
    → list_all (λ f. is_group f.1) r.files ≡ true → list_all (λ f. is_spelled tags digest f.1) r.files ≡ true → IsSealable tags digest a
sealable_as tags digest a r ps same files fit spelled =
    subst (λ (w : Service). IsOfFiles w → IsSealable tags digest w) same (λ f. record { files = f.groups; groups = fit; spelled = spelled }) files

pub seal_as : (a r : Service) (ps : List Signature) (b : Bounds) (tags : List ℕ) (s : Seal) → equipped r ps ≡ a → IsSealOf r b tags s → IsSealOf a b tags s
seal_as a r ps b tags s same so =
    subst (λ (w : Service). IsSealOf w b tags s) same
    (record { start = so.start; groups = so.groups; contents = so.contents; stated = so.stated; tags_told = so.tags_told })

pub made_so : (tags : List ℕ) (a : Verified) (s : Seal) (text : List ℕ) → IsVerified a → IsToldOf a.service a.bounds tags s → text ≡ seal_text s → SealsOrdered tags a.service text status.Good
made_so tags a s text so told is = subst (λ (t : List ℕ). SealsOrdered tags a.service t status.Good) (sym is) (seal_made a s refl so told)

pub unspelled_so : (tags : List ℕ) (a : Verified) (r : Service) (ps : List Signature) (e : Unplayable) → equipped r ps ≡ a.service → IsVerified a → IsUnsealable r.files e → SealsOrdered tags a.service (complaint e) status.Unreadable
unspelled_so tags a r ps e same so none = seal_unspelled a e refl so (subst (λ (w : Service). IsUnsealable w.files e) same none)

-- A text that is meant, or the line on what stands in the way, is written

abbrev Made : Type 0
Made = Result (Vec ℕ Global) Unplayable

pub text_whole : (tags : List ℕ) (v : Service) (made : Made) (text : Vec ℕ Global) (shown : List ℕ) (before after : Option (List ℕ)) (answer : Result Status PlayError)
    → made ≡ Ok text → shown ≡ text.items → IsMeant tags v made → OnOk answer (Appends before after shown) → IfOk answer (λ st. st ≡ status.Good)
    → IfOk answer (HasWritten (SealsOrdered tags v) before after)
text_whole tags v made text shown before after answer is same meant taken how =
    whole (SealsOrdered tags v) before after answer text.items status.Good (subst (IsMeant tags v) is meant)
    (subst (λ (t : List ℕ). OnOk answer (Appends before after t)) same taken) how

pub text_cut : (tags : List ℕ) (v : Service) (made : Made) (text : Vec ℕ Global) (shown : List ℕ) (before after : Option (List ℕ)) (answer : Result Status PlayError)
    → made ≡ Ok text → shown ≡ text.items → IsMeant tags v made → OnErr answer (IsBeginning before after shown)
    → OnErr answer (HasBegun (SealsOrdered tags v) before after)
text_cut tags v made text shown before after answer is same meant begun =
    cut (SealsOrdered tags v) before after answer text.items status.Good (subst (IsMeant tags v) is meant)
    (subst (λ (t : List ℕ). OnErr answer (IsBeginning before after t)) same begun)

pub line_whole : (tags : List ℕ) (v : Service) (made : Made) (e : Unplayable) (before after : Option (List ℕ)) (answer : Result Status PlayError)
    → made ≡ Err e → e ≢ unplayable.NoMemory → IsMeant tags v made → OnOk answer (Appends before after (complaint e)) → IfOk answer (λ st. st ≡ status.Unreadable)
    → IfOk answer (HasWritten (SealsOrdered tags v) before after)
line_whole tags v made e before after answer is other meant taken how =
    whole (SealsOrdered tags v) before after answer (complaint e) status.Unreadable (subst (IsMeant tags v) is meant other) taken how

pub line_cut : (tags : List ℕ) (v : Service) (made : Made) (e : Unplayable) (before after : Option (List ℕ)) (answer : Result Status PlayError)
    → made ≡ Err e → e ≢ unplayable.NoMemory → IsMeant tags v made → OnErr answer (IsBeginning before after (complaint e))
    → OnErr answer (HasBegun (SealsOrdered tags v) before after)
line_cut tags v made e before after answer is other meant begun =
    cut (SealsOrdered tags v) before after answer (complaint e) status.Unreadable (subst (IsMeant tags v) is meant other) begun

-- what stands in the way is handed on
pub handed_on : (tags : List ℕ) (v : Service) (made : Made) (e : Unplayable) → IsErrAnd made (λ y. y ≡ e)
    → (e ≢ unplayable.NoMemory → SealsOrdered tags v (complaint e) status.Unreadable) → IsMeant tags v made
handed_on tags v (Err y) e same told = subst (λ (x : Unplayable). x ≢ unplayable.NoMemory → SealsOrdered tags v (complaint x) status.Unreadable) (sym same) told
handed_on tags v (Ok text) e same told = absurd same
