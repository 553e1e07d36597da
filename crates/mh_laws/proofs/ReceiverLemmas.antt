-- A receiver without programs of its own: a step is the one step, and a run the one run.
use Rattle.std.specs.Prelude.{◌≡◌, ℕ, ◌==◌, Bool, true, false, if◌then◌else◌, List, [], ◌∷◌, slice_get, Option, Some, None, refl}
use Rattle.std.proofs.Common.{ap, ◌∙◌, sym, subst}
use Rattle.mh_base.specs.declared.obj_ref.ObjRef.{ObjRef}
use Rattle.mh_model.specs.declared.act.Act.{Act}
use Rattle.mh_model.specs.declared.act.Argument.{Argument}
use Rattle.mh_model.specs.declared.fault.Fault.{Fault}
use Rattle.mh_model.specs.declared.input.Move.{Move}
use Rattle.mh_model.specs.declared.input.Move.TheVariants as move
use Rattle.mh_model.specs.declared.item.Item.{Item}
use Rattle.mh_model.specs.declared.item.Item.TheVariants as item
use Rattle.mh_model.specs.declared.object.Fixed.{Fixed}
use Rattle.mh_model.specs.declared.program.Builtin.{Builtin}
use Rattle.mh_model.specs.declared.program.Call.{Call}
use Rattle.mh_model.specs.declared.program.Outcome.{Outcome}
use Rattle.mh_model.specs.declared.program.Signature.{Signature}
use Rattle.mh_model.specs.declared.sort.Sort.{Sort}
use Rattle.mh_model.specs.declared.sort.Sort.TheVariants as sort
use Rattle.mh_model.specs.Arguments.{referred}
use Rattle.mh_laws.specs.Headline.{RunsAlone}
use Rattle.mh_model.specs.Known.{program_name}
use Rattle.mh_model.specs.Programs.{builtin_named}
use Rattle.mh_model.specs.Receiver.{is_added_by, if_added, added_name, call_at, call_by, call_first, call_in, call_named, call_next, call_unless, IsStep, IsStepWith, IsCountedStep, IsStepped, IsRun, anything}
use Rattle.mh_model.specs.Service.{part_at, parts}
use Rattle.mh_model.specs.Sort.{sort_of}
use Rattle.mh_model.specs.State.{State, all}
use Rattle.mh_model.specs.Step.{step, stepped, run, posted}
use Rattle.mh_model.specs.Limits.{most_steps}
use Rattle.mh_model.specs.Stuck.{stuck}

added : (b : Option Builtin) (name : List ℕ) → is_added_by b [] name ≡ false
added None name = refl
added (Some b) name = refl

alone_added : (n : Option (List ℕ)) → if_added [] n ≡ None
alone_added None = refl
alone_added (Some name) = ap (λ (b : Bool). if b then Some name else None) (added (builtin_named name) name)

alone_name : (p : Option Fixed) → added_name [] p ≡ None
alone_name None = refl
alone_name (Some p) = alone_added (program_name p)

pub alone_next : (s : State) → call_next [] s ≡ None
alone_next s = unless_ended s.ended
  where
    at : (r : Option ObjRef) (xs : List Argument) → call_at [] r xs s ≡ None
    at None xs = refl
    at (Some r) xs =
        let p : Option Fixed = part_at r (parts (all s.objects)) in
        ap (λ (n : Option (List ℕ)). call_named n p xs s) (alone_name p)

    unless_stuck : (f : Option Fault) (a : Act) → call_unless f [] a s ≡ None
    unless_stuck (Some f) a = refl
    unless_stuck None a = at (referred a.target (all s.objects)) a.arguments

    sorted : (x : Sort) (a : Act) → call_by [] x a s ≡ None
    sorted sort.Change a = refl
    sorted sort.Ask a = refl
    sorted sort.Put a = refl
    sorted sort.Load a = refl
    sorted sort.Call a = unless_stuck (stuck (item.Act a) s) a
    sorted sort.Order a = refl
    sorted sort.Widget a = refl
    sorted sort.Interact a = refl
    sorted sort.Whole a = refl

    item_in : (i : Item) → call_in [] i s ≡ None
    item_in (item.Act a) = sorted (sort_of a.name) a
    item_in (item.Prepare r) = refl
    item_in (item.Run r) = refl
    item_in (item.Halt r) = refl
    item_in (item.RunMember r) = refl
    item_in (item.HaltMember r) = refl
    item_in (item.Drop r) = refl
    item_in (item.Emit e) = refl
    item_in (item.Enter g) = refl
    item_in (item.Exchange g) = refl
    item_in item.End = refl

    first : (i : Option Item) → call_first [] i s ≡ None
    first None = refl
    first (Some i) = item_in i

    unless_ended : (b : Bool) → (if b then None else call_first [] (slice_get s.work 0) s) ≡ None
    unless_ended true = refl
    unless_ended false = first (slice_get s.work 0)

-- a step that calls no such program is the one step

pub uncalled_step : (ss : List Signature) (may : Call → Outcome → Type 0) (s : State) → call_next ss s ≡ None → IsStep ss may s (step s)
uncalled_step ss may s none = subst (λ (c : Option Call). IsStepWith may c s (step s)) (sym none) refl

pub alone_step : (may : Call → Outcome → Type 0) (s t : State) → IsStep [] may s t → t ≡ step s
alone_step may s t so = subst (λ (c : Option Call). IsStepWith may c s t) (alone_next s) so

pub alone_stepped : (may : Call → Outcome → Type 0) (s t : State) → IsStepped [] may s t → t ≡ stepped s
alone_stepped may s t so = by (s.taken == most_steps) so
  where
    by : (b : Bool) → IsCountedStep b [] may s t → t ≡ (if b then s else step s)
    by true so = so
    by false so = alone_step may s t so

pub alone_run : (may : Call → Outcome → Type 0) (ms : List Move) (s t : State) → IsRun [] may ms s t → t ≡ run ms s
alone_run may [] s t so = so
alone_run may (move.Post i ∷ ms) s t so = alone_run may ms so.0 t so.2 ∙ ap (run ms) so.1
alone_run may (move.Step ∷ ms) s t so = alone_run may ms so.0 t so.2 ∙ ap (run ms) (alone_stepped may s so.0 so.1)

-- and the one step is such a step

pub step_alone : (may : Call → Outcome → Type 0) (s : State) → IsStep [] may s (step s)
step_alone may s = uncalled_step [] may s (alone_next s)

pub stepped_alone : (may : Call → Outcome → Type 0) (s : State) → IsStepped [] may s (stepped s)
stepped_alone may s = by (s.taken == most_steps)
  where
    by : (b : Bool) → IsCountedStep b [] may s (if b then s else step s)
    by true = refl
    by false = step_alone may s

pub run_alone : (may : Call → Outcome → Type 0) (ms : List Move) (s : State) → IsRun [] may ms s (run ms s)
run_alone may [] s = refl
run_alone may (move.Post i ∷ ms) s = (posted i s, refl, run_alone may ms (posted i s))
run_alone may (move.Step ∷ ms) s = (stepped s, stepped_alone may s, run_alone may ms (stepped s))

pub runs_alone_law : RunsAlone
runs_alone_law ms s t =
    (alone_run anything ms s t, λ (e : t ≡ run ms s). subst (λ (x : State). IsRun [] anything ms s x) (sym e) (run_alone anything ms s))
