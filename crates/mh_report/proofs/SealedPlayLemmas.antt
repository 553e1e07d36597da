-- A play by a seal: how it begins, and that what is written is what is meant.
use Rattle.std.specs.Prelude.{◌≡◌, ℕ, List, Option, Some, None, Result, Ok, Err, IfOk, OnOk, OnErr, refl}
use Rattle.std.proofs.Common.{ap, ◌∙◌, subst, sym}
use Rattle.std.specs.Io.KnownBytes.{Appends}
use Rattle.std.specs.declared.alloc.AllocError.{AllocError}
use Rattle.mh_codec.specs.Tags.{Tags}
use Rattle.mh_model.specs.declared.file.File.{File as Content}
use Rattle.mh_model.specs.Service.{Service}
use Rattle.mh_model.specs.State.{State, begun}
use Rattle.mh_service.specs.Refusals.{File}
use Rattle.mh_seal.specs.declared.seal.Seal.{Seal}
use Rattle.mh_engine.specs.declared.sealed.starting.Unsealed.{Unsealed}
use Rattle.mh_engine.specs.declared.sealed.starting.Unsealed.TheVariants as unsealed
use Rattle.mh_engine.specs.Sealed.{IsToldOf, SealedPlay, sealed_refusal, service_of}
use Rattle.mh_script.specs.declared.script.Command.{Command}
use Rattle.mh_told.specs.declared.unplayable.Unplayable.{Unplayable}
use Rattle.mh_told.specs.declared.unplayable.Unplayable.TheVariants as unplayable
use Rattle.mh_told.specs.Reading.{Fails, Gives}
use Rattle.mh_verdict.specs.Lines.{complaint}
use Rattle.mh_report.specs.declared.play_error.PlayError.{PlayError}
use Rattle.mh_report.specs.declared.status.Status.{Status}
use Rattle.mh_report.specs.declared.status.Status.TheVariants as status
use Rattle.mh_report.specs.BySeal.{Is, Told, commanded, scripted, started, started_by, unread, unstarted}
use Rattle.mh_report.specs.Played.{HasBegun, HasWritten, play_lines, play_status}
use Rattle.mh_report.specs.Presets.{begins, presets}
use Rattle.mh_report.specs.Reading.{commands_of}
use Rattle.mh_report.specs.Report.{Session}
use Rattle.mh_report.specs.Sink.{IsBeginning}
use Rattle.mh_report.proofs.WrittenLemmas.{cut, failed, unreadable_cut, unreadable_whole, whole}

-- How it begins

pub started_so : (s : Seal) (fs : List File) (mjd budget : ℕ) (e : SealedPlay) → sealed_refusal s fs ≡ None
    → e ≡ record { state = begun (service_of s fs) mjd; seal = s; budget = budget } → started s fs mjd ≡ Ok e.state
started_so s fs mjd budget e none is =
    ap (λ (o : Option Unsealed). started_by o (begun (service_of s fs) mjd)) none ∙ ap (λ (p : SealedPlay). Ok p.state) (sym is)

fails_so : (s : Seal) (fs : List File) (mjd : ℕ) (why : Unsealed) → IsToldOf (sealed_refusal s fs) why → Fails (unstarted why) (started s fs mjd)
fails_so s fs mjd (unsealed.Missing name) told = ap (λ (o : Option Unsealed). started_by o (begun (service_of s fs) mjd)) told
fails_so s fs mjd (unsealed.Differs name) told = ap (λ (o : Option Unsealed). started_by o (begun (service_of s fs) mjd)) told
fails_so s fs mjd (unsealed.NoService why name) told = ap (λ (o : Option Unsealed). started_by o (begun (service_of s fs) mjd)) told
fails_so s fs mjd unsealed.NoMemory told = tt

pub unstarted_so : (s : Seal) (fs : List File) (mjd : ℕ) (why : Unsealed) (r : Result Unplayable AllocError) (said : Unplayable) → IsToldOf (sealed_refusal s fs) why
    → IfOk r (λ e. e ≡ unstarted why) → IfOk r (λ e. said ≡ e) → OnErr r (said ≡ unplayable.NoMemory) → Fails said (started s fs mjd)
unstarted_so s fs mjd why (Ok e) said told is same memory =
    subst (λ (x : Unplayable). Fails x (started s fs mjd)) (sym (same ∙ is)) (fails_so s fs mjd why told)
unstarted_so s fs mjd why (Err e) said told is same memory = subst (λ (x : Unplayable). Fails x (started s fs mjd)) (sym memory) tt

-- What is written where there is an engine

abbrev Commands : Type 0
Commands = Result (List Command) Unplayable

pub started_as : {E : Type 0} (P : Told → Type 0) (state : E → State) (seal : E → Option Seal) (begun : Result E Unplayable) (engine : E) (k : Option Seal) (r : Result State Unplayable)
    (tags : Tags) (files : List Content) (script : List ℕ) (service : Service) (commands : Commands) → begun ≡ Ok engine → IfOk begun (λ e. seal e ≡ k) → Gives state begun r
    → ((c : Commands) → Gives (λ cs. cs) commands c → P (commanded (seal engine) files (state engine) c))
    → Gives (λ cs. cs) commands (commands_of tags service.files script) → service ≡ (state engine).service → P (scripted k tags files script r)
started_as {E} P state seal begun engine k r tags files script service commands is same gives told found looked =
    let read : r ≡ Ok (state engine) = subst (λ (x : Result E Unplayable). Gives state x r) is gives in
    let way : seal engine ≡ k = subst (λ (x : Result E Unplayable). IfOk x (λ e. seal e ≡ k)) is same in
    let here : Gives (λ cs. cs) commands (commands_of tags (state engine).service.files script) =
    subst (λ (v : Service). Gives (λ cs. cs) commands (commands_of tags v.files script)) looked found in
    subst (λ (x : Result State Unplayable). P (scripted k tags files script x)) (sym read)
    (subst (λ (l : Option Seal). P (commanded l files (state engine) (commands_of tags (state engine).service.files script))) way
    (told (commands_of tags (state engine).service.files script) here))

-- and where the script was read

abbrev played_so : Option Seal → List Content → State → Result Session Unplayable
played_so k files s = begins k (presets files s)

pub commanded_whole : (k : Option Seal) (files : List Content) (s : State) (commands : Commands) (cs lent : List Command) (r : Commands) (before after : Option (List ℕ)) (answer : Result Status PlayError)
    → commands ≡ Ok cs → lent ≡ cs → Gives (λ x. x) commands r → OnOk answer (Appends before after (play_lines lent (played_so k files s)))
    → IfOk answer (λ st. st ≡ play_status lent (played_so k files s)) → IfOk answer (HasWritten (Is (commanded k files s r)) before after)
commanded_whole k files s commands cs lent r before after answer is same gives report how =
    let read : r ≡ Ok lent = subst (λ (x : Commands). Gives (λ y. y) x r) is gives ∙ ap Ok (sym same) in
    subst (λ (x : Commands). IfOk answer (HasWritten (Is (commanded k files s x)) before after)) (sym read)
    (whole (Is (commanded k files s (Ok lent))) before after answer (play_lines lent (played_so k files s)) (play_status lent (played_so k files s)) (refl, refl) report how)

pub commanded_cut : (k : Option Seal) (files : List Content) (s : State) (commands : Commands) (cs lent : List Command) (r : Commands) (before after : Option (List ℕ)) (answer : Result Status PlayError)
    → commands ≡ Ok cs → lent ≡ cs → Gives (λ x. x) commands r → OnErr answer (IsBeginning before after (play_lines lent (played_so k files s)))
    → OnErr answer (HasBegun (Is (commanded k files s r)) before after)
commanded_cut k files s commands cs lent r before after answer is same gives begun =
    let read : r ≡ Ok lent = subst (λ (x : Commands). Gives (λ y. y) x r) is gives ∙ ap Ok (sym same) in
    subst (λ (x : Commands). OnErr answer (HasBegun (Is (commanded k files s x)) before after)) (sym read)
    (cut (Is (commanded k files s (Ok lent))) before after answer (play_lines lent (played_so k files s)) (play_status lent (played_so k files s)) (refl, refl) begun)

-- The line on what stands in the way

pub unread_whole : {X Y : Type 0} (view : X → Y) (told : Result Y Unplayable → Told) (made : Result X Unplayable) (r : Result Y Unplayable) (e : Unplayable) (before after : Option (List ℕ))
    (answer : Result Status PlayError) → told (Err e) ≡ unread e → made ≡ Err e → (e ≡ unplayable.NoMemory → ⊥) → Gives view made r
    → OnOk answer (Appends before after (complaint e)) → IfOk answer (λ st. st ≡ status.Unreadable) → IfOk answer (HasWritten (Is (told r)) before after)
unread_whole {X} {Y} view told made r e before after answer so is other gives report how =
    unreadable_whole (λ x. Is (told x)) r e before after answer (failed e r (subst (λ (x : Result X Unplayable). Gives view x r) is gives) other)
    (subst (λ (t : Told). Is t (complaint e) status.Unreadable) (sym so) (refl, refl)) report how

pub unread_cut : {X Y : Type 0} (view : X → Y) (told : Result Y Unplayable → Told) (made : Result X Unplayable) (r : Result Y Unplayable) (e : Unplayable) (before after : Option (List ℕ))
    (answer : Result Status PlayError) → told (Err e) ≡ unread e → made ≡ Err e → (e ≡ unplayable.NoMemory → ⊥) → Gives view made r
    → OnErr answer (IsBeginning before after (complaint e)) → OnErr answer (HasBegun (Is (told r)) before after)
unread_cut {X} {Y} view told made r e before after answer so is other gives begun =
    unreadable_cut (λ x. Is (told x)) r e before after answer (failed e r (subst (λ (x : Result X Unplayable). Gives view x r) is gives) other)
    (subst (λ (t : Told). Is t (complaint e) status.Unreadable) (sym so) (refl, refl)) begun
