-- A play from what it begins with: the commands are played, or the line says which file is refused.
use Rattle.std.specs.Prelude.{◌≡◌, List, ℕ, Option, Result, Ok, Err, IfOk, IfErr, IsErr, IsErrAnd, IsOk, OnOk, OnErr}
use Rattle.std.proofs.Common.{subst, sym, ap, ◌∙◌}
use Rattle.std.specs.Io.KnownBytes.{Appends}
use Rattle.mh_report.specs.declared.play_error.PlayError.{PlayError}
use Rattle.mh_script.specs.declared.script.Command.{Command}
use Rattle.mh_report.specs.declared.status.Status.{Status}
use Rattle.mh_report.specs.declared.status.Status.TheVariants as status
use Rattle.mh_told.specs.declared.unplayable.Unplayable.{Unplayable}
use Rattle.mh_told.specs.declared.unplayable.Unplayable.TheVariants as unplayable
use Rattle.mh_report.specs.Sink.{IsBeginning}
use Rattle.mh_model.specs.State.{State}
use Rattle.mh_seal.specs.declared.seal.Seal.{Seal}
use Rattle.mh_report.specs.Report.{Session, opening, script_lines, ended, status_of}
use Rattle.mh_told.specs.Reading.{Fails, Gives}
use Rattle.mh_report.specs.Presets.{begins}
use Rattle.mh_report.specs.Played.{play_lines, play_status}
use Rattle.mh_verdict.specs.Lines.{complaint}
use Rattle.mh_report.proofs.WrittenLemmas.{failed}

-- where memory is refused, nothing is claimed
pub unclaimed : {X Y : Type 0} (view : X → Y) (r : Result X Unplayable) (o : Result Y Unplayable) → IsErr r → IsErrAnd r (λ e. e ≡ unplayable.NoMemory) → Gives view r o
unclaimed view (Ok x) o is _ = absurd cc
unclaimed view (Err e) o is refused = subst (λ (u : Unplayable). Fails u o) (sym refused) tt

-- A player that begins, once the files are there.

fails_begins : (k : Option Seal) (e : Unplayable) (r : Result State Unplayable) → Fails e r → Fails e (begins k r)
fails_begins k (unplayable.File name number offset) r so = ap (begins k) so
fails_begins k (unplayable.Service number group) r so = ap (begins k) so
fails_begins k (unplayable.Tags number place) r so = ap (begins k) so
fails_begins k (unplayable.Script number) r so = ap (begins k) so
fails_begins k unplayable.NoMemory r so = tt

set_state : (set : Result (Unit {0}) Unplayable) (r : Result State Unplayable) (s : State) → OnOk set (r ≡ Ok s) → IsOk set → r ≡ Ok s
set_state (Ok u) r s so good = so
set_state (Err e) r s so good = absurd cc

pub begun_player : (k : Option Seal) (set : Result (Unit {0}) Unplayable) (answer : Result Session Unplayable) (r : Result State Unplayable) (s : State) (p : Session) → OnOk set (r ≡ Ok s) → IfErr set (λ why. Fails why r)
    → p ≡ opening k s → IfOk answer (λ given. given ≡ p) → OnOk answer (IsOk set) → IfErr answer (λ why. set ≡ Err why) → Gives (λ x. x) answer (begins k r)
begun_player k set (Ok x) r s p so why new same good refused = ap (begins k) (set_state set r s so good) ∙ ap Ok (sym (same ∙ new))
begun_player k set (Err e) r s p so why new same good refused =
    fails_begins k e r (subst (λ (x : Result (Unit {0}) Unplayable). IfErr x (λ w. Fails w r)) refused why)

-- The commands were played.

pub whole_play : (cs : List Command) (p : Session) (r : Result Session Unplayable) (before after : Option (List ℕ)) (answer : Result Status PlayError) → r ≡ Ok p
    → OnOk answer (Appends before after (script_lines cs p)) → OnOk answer (Appends before after (play_lines cs r))
whole_play cs p r before after answer is taken =
    subst (λ (x : Result Session Unplayable). OnOk answer (Appends before after (play_lines cs x))) (sym is) taken

pub ends_play : (cs : List Command) (p : Session) (r : Result Session Unplayable) (answer : Result Status PlayError) → r ≡ Ok p
    → IfOk answer (λ st. st ≡ status_of (ended cs p).state.faults) → IfOk answer (λ st. st ≡ play_status cs r)
ends_play cs p r answer is how =
    subst (λ (x : Result Session Unplayable). IfOk answer (λ (st : Status). st ≡ play_status cs x)) (sym is) how

pub cut_play : (cs : List Command) (p : Session) (r : Result Session Unplayable) (before after : Option (List ℕ)) (answer : Result Status PlayError) → r ≡ Ok p
    → OnErr answer (IsBeginning before after (script_lines cs p)) → OnErr answer (IsBeginning before after (play_lines cs r))
cut_play cs p r before after answer is begun =
    subst (λ (x : Result Session Unplayable). OnErr answer (IsBeginning before after (play_lines cs x))) (sym is) begun

-- A file was refused.

pub whole_refused : (cs : List Command) (e : Unplayable) (r : Result Session Unplayable) (before after : Option (List ℕ)) (answer : Result Status PlayError) → Fails e r
    → (e ≡ unplayable.NoMemory → ⊥) → OnOk answer (Appends before after (complaint e)) → OnOk answer (Appends before after (play_lines cs r))
whole_refused cs e r before after answer why other taken =
    subst (λ (x : Result Session Unplayable). OnOk answer (Appends before after (play_lines cs x))) (sym (failed e r why other)) taken

pub ends_refused : (cs : List Command) (e : Unplayable) (r : Result Session Unplayable) (answer : Result Status PlayError) → Fails e r
    → (e ≡ unplayable.NoMemory → ⊥) → IfOk answer (λ st. st ≡ status.Unreadable) → IfOk answer (λ st. st ≡ play_status cs r)
ends_refused cs e r answer why other how =
    subst (λ (x : Result Session Unplayable). IfOk answer (λ (st : Status). st ≡ play_status cs x)) (sym (failed e r why other)) how

pub cut_refused : (cs : List Command) (e : Unplayable) (r : Result Session Unplayable) (before after : Option (List ℕ)) (answer : Result Status PlayError) → Fails e r
    → (e ≡ unplayable.NoMemory → ⊥) → OnErr answer (IsBeginning before after (complaint e)) → OnErr answer (IsBeginning before after (play_lines cs r))
cut_refused cs e r before after answer why other begun =
    subst (λ (x : Result Session Unplayable). OnErr answer (IsBeginning before after (play_lines cs x))) (sym (failed e r why other)) begun
