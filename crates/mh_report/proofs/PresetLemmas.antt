-- A file that an engine takes or refuses before the first move, by the state alone.
use Rattle.std.specs.Prelude.{◌≡◌, Option, Some, None, MatchOption, Result, Ok, Err, OnOk, IfErr, IsErrAnd, refl}
use Rattle.std.specs.Option.{option_map}
use Rattle.std.proofs.Common.{ap, ◌∙◌, sym, subst}
use Rattle.mh_model.specs.declared.file.File.{File}
use Rattle.mh_model.specs.declared.input.Obstacle.{Obstacle}
use Rattle.mh_model.specs.State.{State}
use Rattle.mh_model.specs.Step.{preset, preset_obstacle}
use Rattle.mh_machine.specs.Refusal.{preset_refusal, refusal_for}
use Rattle.mh_machine.specs.declared.refusal.RefusedFile.{RefusedFile}
use Rattle.mh_machine.specs.declared.refusal.RefusedWhy.{RefusedWhy}
use Rattle.mh_machine.specs.declared.refusal.RefusedWhy.TheVariants as refused
use Rattle.mh_told.specs.declared.unplayable.Unplayable.{Unplayable}
use Rattle.mh_told.specs.declared.unplayable.Unplayable.TheVariants as unplayable
use Rattle.mh_told.specs.Reading.{Fails}
use Rattle.mh_report.specs.Presets.{tried, tried_by, unset}

-- what an engine answers to a file, in the words of its contract
abbrev pub IsAnswer : File → State → Result (Unit {0}) RefusedFile → Type 0
IsAnswer f s r = MatchOption (preset_refusal f s) (IfErr r (λ x. x.why ≡ refused.NoMemory)) (λ why. IsErrAnd r (λ x. x.why ≡ why))

fails_itself : (e : Unplayable) → Fails {Y = State} e (Err e)
fails_itself (unplayable.File name number offset) = refl
fails_itself (unplayable.Service number group) = refl
fails_itself (unplayable.Tags number place) = refl
fails_itself (unplayable.Script number) = refl
fails_itself unplayable.NoMemory = tt

by_why : (o : Option Obstacle) (f : File) (s : State) (why : RefusedWhy)
    → MatchOption (option_map refusal_for o) (why ≡ refused.NoMemory) (λ w. why ≡ w) → Fails (unset why f) (tried_by o f s)
by_why None f s why told = subst (λ (w : RefusedWhy). Fails (unset w f) (tried_by None f s)) (sym told) tt
by_why (Some o) f s why told = subst (λ (w : RefusedWhy). Fails (unset w f) (tried_by (Some o) f s)) (sym told) (fails_itself (unset (refusal_for o) f))

-- refused
pub refused_file : (f copy : File) (s : State) (r : Result (Unit {0}) RefusedFile) (x : RefusedFile) (said : Unplayable) → copy ≡ f → r ≡ Err x
    → IsAnswer copy s r → said ≡ unset x.why f → Fails said (tried f s)
refused_file f copy s r x said same is told line =
    let answer : IsAnswer f s (Err x) = subst (IsAnswer f s) is (subst (λ (g : File). IsAnswer g s r) same told) in
    subst (λ (e : Unplayable). Fails e (tried f s)) (sym line) (by_why (preset_obstacle f s) f s x.why answer)

-- taken
pub taken_file : (f copy : File) (s new : State) (r : Result (Unit {0}) RefusedFile) (u : Unit {0}) → copy ≡ f → r ≡ Ok u → OnOk r (new ≡ preset copy s)
    → OnOk r (preset_obstacle copy s ≡ None) → tried f s ≡ Ok new
taken_file f copy s new r u same is did free =
    let next : new ≡ preset copy s = subst (λ (x : Result (Unit {0}) RefusedFile). OnOk x (new ≡ preset copy s)) is did in
    let none : preset_obstacle copy s ≡ None = subst (λ (x : Result (Unit {0}) RefusedFile). OnOk x (preset_obstacle copy s ≡ None)) is free in
    let at : preset_obstacle f s ≡ None = subst (λ (g : File). preset_obstacle g s ≡ None) same none in
    ap (λ (o : Option Obstacle). tried_by o f s) at ∙ ap (λ (g : File). Ok (preset g s)) (sym same) ∙ ap Ok (sym next)
