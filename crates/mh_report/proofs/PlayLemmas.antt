-- What a play has written so far, and what is left of it.
use Rattle.std.specs.Prelude.{◌≡◌, ℕ, ◌+◌, ◌≤◌, ◌<◌, List, [], ◌∷◌, ◌++◌, length, drop, Option, Result, Ok, Err, OnErr, refl}
use Rattle.std.proofs.Common.{ap, ◌∙◌, sym, subst, arith, append_assoc, append-nil, add-one, get_or, drop-cons}
use Rattle.std.proofs.Math.ListN.{drop_of_length-le}
use Rattle.mh_script.specs.declared.script.Command.{Command}
use Rattle.mh_script.specs.declared.script.Command.TheVariants.{Post, Step, Show}
use Rattle.mh_report.specs.declared.status.Status.{Status}
use Rattle.std.specs.Io.KnownBytes.{Appends}
use Rattle.mh_report.specs.Sink.{IsBeginning}
use Rattle.mh_report.specs.Report.{Session, played, ended, script_lines, command_lines, status_of}
use Rattle.mh_told.specs.Told.{total_line}
use Rattle.std.proofs.KnownBytes.{Appends-nil, Appends-trans}
use Rattle.mh_report.proofs.SinkLemmas.{later_beginning}

frames-played : (c : Command) (p : Session) → (played c p).frames ≤ p.frames + 1
frames-played (Post i) p = omega arith
frames-played (Step n) p = omega arith
frames-played Show p = omega arith

-- of these commands the first ones were done, and what they print was taken
pub record IsPlayed (commands : List Command) (at : ℕ) (start now : Session) (before after : Option (List ℕ)) : Type 0 where
  pub counted : now.frames ≤ at
  pub goes_on : ended (drop at commands) now ≡ ended commands start
  pub done : List ℕ
  pub taken : Appends before after done
  pub whole : done ++ script_lines (drop at commands) now ≡ script_lines commands start

pub played-none : (cs : List Command) (s : Session) (w : Option (List ℕ)) → s.frames ≡ 0 → IsPlayed cs 0 s s w w
played-none cs s w none = record { counted = omega (arith, none); goes_on = refl; done = []; taken = Appends-nil w; whole = refl }

split : (cs : List Command) (at : ℕ) (d : Command) → at < length cs → drop at cs ≡ get_or cs at d ∷ drop (at + 1) cs
split cs at d inside = drop-cons cs at d inside ∙ ap (λ (n : ℕ). get_or cs at d ∷ drop n cs) (sym (add-one at))

played-one : (cs : List Command) (at : ℕ) (d : Command) (start now next : Session) (before after new : Option (List ℕ)) → IsPlayed cs at start now before after → at < length cs → next ≡ played (get_or cs at d) now → Appends after new (command_lines (get_or cs at d) now) → IsPlayed cs (at + 1) start next before new
played-one cs at d start now next before after new so inside step wrote = record {
  counted = subst (λ (s : Session). s.frames ≤ at + 1) (sym step) (omega (arith, frames-played (get_or cs at d) now, so.counted));
  goes_on = ap (ended (drop (at + 1) cs)) step ∙ sym (ap (λ (l : List Command). ended l now) (split cs at d inside)) ∙ so.goes_on;
  done = so.done ++ command_lines (get_or cs at d) now;
  taken = Appends-trans before after new so.done (command_lines (get_or cs at d) now) so.taken wrote;
  whole =
      append_assoc so.done (command_lines (get_or cs at d) now) (script_lines (drop (at + 1) cs) next)
      ∙ ap (λ (s : Session). so.done ++ (command_lines (get_or cs at d) now ++ script_lines (drop (at + 1) cs) s)) step
      ∙ sym (ap (λ (l : List Command). so.done ++ script_lines l now) (split cs at d inside)) ∙ so.whole;
}

-- the same, of the command that the loop has at hand
pub played-item : (cs : List Command) (at : ℕ) (c : Command) (start now next : Session) (before after new : Option (List ℕ)) → IsPlayed cs at start now before after → at < length cs → c ≡ get_or cs at c
    → next ≡ played c now → Appends after new (command_lines c now) → IsPlayed cs (at + 1) start next before new
played-item cs at c start now next before after new so inside is step wrote =
    played-one cs at c start now next before after new so inside (step ∙ ap (λ (x : Command). played x now) is)
    (subst (λ (x : Command). Appends after new (command_lines x now)) is wrote)

cut-one : (cs : List Command) (at : ℕ) (d : Command) (start now : Session) (before after new : Option (List ℕ)) → IsPlayed cs at start now before after → at < length cs → IsBeginning after new (command_lines (get_or cs at d) now) → IsBeginning before new (script_lines cs start)
cut-one cs at d start now before after new so inside b =
    let whole : so.done ++ (command_lines (get_or cs at d) now ++ script_lines (drop (at + 1) cs) (played (get_or cs at d) now)) ≡ script_lines cs start =
    sym (ap (λ (l : List Command). so.done ++ script_lines l now) (split cs at d inside)) ∙ so.whole in
    subst (λ (t : List ℕ). IsBeginning before new t) whole (later_beginning before after new so.done (command_lines (get_or cs at d) now) so.taken b (script_lines (drop (at + 1) cs) (played (get_or cs at d) now)))

pub cut-item : (cs : List Command) (at : ℕ) (c : Command) (start now : Session) (before after new : Option (List ℕ)) → IsPlayed cs at start now before after → at < length cs → c ≡ get_or cs at c
    → IsBeginning after new (command_lines c now) → IsBeginning before new (script_lines cs start)
cut-item cs at c start now before after new so inside is b =
    cut-one cs at c start now before after new so inside (subst (λ (x : Command). IsBeginning after new (command_lines x now)) is b)

-- when all commands are done, the total is left
last : (cs : List Command) (at : ℕ) (start now : Session) (before after : Option (List ℕ)) (so : IsPlayed cs at start now before after) → length cs ≤ at → so.done ++ total_line now.state.taken ≡ script_lines cs start
last cs at start now before after so past =
    sym (ap (λ (l : List Command). so.done ++ script_lines l now) (drop_of_length-le cs past)) ∙ so.whole

pub whole-last : (cs : List Command) (at : ℕ) (start now : Session) (before after new : Option (List ℕ)) (text : List ℕ) → IsPlayed cs at start now before after → length cs ≤ at → text ≡ total_line now.state.taken → Appends after new text → Appends before new (script_lines cs start)
whole-last cs at start now before after new text so past total wrote =
    subst (λ (t : List ℕ). Appends before new t) (ap (λ (t : List ℕ). so.done ++ t) total ∙ last cs at start now before after so past) (Appends-trans before after new so.done text so.taken wrote)

pub cut-last : (cs : List Command) (at : ℕ) (start now : Session) (before after new : Option (List ℕ)) (text : List ℕ) → IsPlayed cs at start now before after → length cs ≤ at → text ≡ total_line now.state.taken → IsBeginning after new text → IsBeginning before new (script_lines cs start)
cut-last cs at start now before after new text so past total b =
    let whole : so.done ++ (text ++ []) ≡ script_lines cs start =
    ap (λ (t : List ℕ). so.done ++ t) (append-nil text ∙ total) ∙ last cs at start now before after so past in
    subst (λ (t : List ℕ). IsBeginning before new t) whole (later_beginning before after new so.done text so.taken b [])

pub left_last : (cs : List Command) (at : ℕ) (start now : Session) (before after : Option (List ℕ)) → IsPlayed cs at start now before after → length cs ≤ at → now ≡ ended cs start
left_last cs at start now before after so past = sym (ap (λ (l : List Command). ended l now) (drop_of_length-le cs past)) ∙ so.goes_on

pub status-last : (cs : List Command) (at : ℕ) (start now : Session) (before after : Option (List ℕ)) (status : Status) → IsPlayed cs at start now before after → length cs ≤ at → status ≡ status_of now.state.faults → status ≡ status_of (ended cs start).state.faults
status-last cs at start now before after status so past is =
    is ∙ ap (λ (s : Session). status_of s.state.faults) (sym (ap (λ (l : List Command). ended l now) (drop_of_length-le cs past)) ∙ so.goes_on)

-- a fact that holds anyway holds where there is an error
pub on_err : {T E : Type 0} (r : Result T E) (P : Type 0) → P → OnErr r P
on_err (Ok x) P p = tt
on_err (Err e) P p = p
