-- Steps and runs beside the programs of a receiver. What comes of a call of one is its own matter: a step with such a
-- call is any that goes by what may come of it.
use Rattle.std.specs.Prelude.{◌≡◌, ℕ, zero, suc, ◌==◌, Bool, true, false, if◌then◌else◌, List, [], ◌∷◌, slice_get, Option, Some, None, unwrap_or}
use Rattle.std.specs.List.{list_any}
use Rattle.std.specs.Str.{bytes_eq}
use Rattle.mh_base.specs.declared.obj_ref.ObjRef.{ObjRef}
use Rattle.mh_model.specs.declared.act.Act.{Act}
use Rattle.mh_model.specs.declared.act.Argument.{Argument}
use Rattle.mh_model.specs.declared.fault.Fault.{Fault}
use Rattle.mh_model.specs.declared.input.Move.{Move}
use Rattle.mh_model.specs.declared.input.Move.TheVariants as move
use Rattle.mh_model.specs.declared.item.Item.{Item}
use Rattle.mh_model.specs.declared.item.Item.TheVariants as item
use Rattle.mh_model.specs.declared.object.Fixed.{Fixed}
use Rattle.mh_model.specs.declared.program.Builtin.{Builtin}
use Rattle.mh_model.specs.declared.program.Call.{Call}
use Rattle.mh_model.specs.declared.program.Outcome.{Outcome}
use Rattle.mh_model.specs.declared.program.Signature.{Signature}
use Rattle.mh_model.specs.declared.sort.Sort.{Sort}
use Rattle.mh_model.specs.declared.sort.Sort.TheVariants as sort
use Rattle.mh_model.specs.Arguments.{values, referred}
use Rattle.mh_model.specs.Faults.{passed}
use Rattle.mh_model.specs.Known.{program_name, params_in}
use Rattle.mh_model.specs.Programs.{builtin_named, ins}
use Rattle.mh_model.specs.Rules.{now_of}
use Rattle.mh_model.specs.Service.{part_at, parts}
use Rattle.mh_model.specs.Sort.{sort_of}
use Rattle.mh_model.specs.State.{State, all}
use Rattle.mh_model.specs.Step.{step, posted}
use Rattle.mh_model.specs.Limits.{most_steps}
use Rattle.mh_model.specs.Stuck.{stuck}

-- Which program of the receiver the next step calls, if it calls one, and with what.

-- a name that is none of the six, and that one of these programs has

abbrev pub is_added_by : Option Builtin → List Signature → List ℕ → Bool
is_added_by (Some b) ss name = false
is_added_by None ss name = list_any (λ s. bytes_eq name s.name) ss

abbrev pub is_added : List Signature → List ℕ → Bool
is_added ss name = is_added_by (builtin_named name) ss name

abbrev pub if_added : List Signature → Option (List ℕ) → Option (List ℕ)
if_added ss None = None
if_added ss (Some name) = if is_added ss name then Some name else None

abbrev pub added_name : List Signature → Option Fixed → Option (List ℕ)
added_name ss None = None
added_name ss (Some p) = if_added ss (program_name p)

-- the call of the program that is found, by its name
abbrev pub call_made : List ℕ → Option Fixed → List Argument → State → Call
call_made name p xs s = record {
  name = name;
  time = now_of s;
  values = values (all s.objects) (ins (unwrap_or (params_in s.service.programs p) []) (passed xs));
}

abbrev pub call_named : Option (List ℕ) → Option Fixed → List Argument → State → Option Call
call_named None p xs s = None
call_named (Some name) p xs s = Some (call_made name p xs s)

abbrev pub call_to : List Signature → Option Fixed → List Argument → State → Option Call
call_to ss p xs s = call_named (added_name ss p) p xs s

abbrev pub call_at : List Signature → Option ObjRef → List Argument → State → Option Call
call_at ss None xs s = None
call_at ss (Some r) xs s = call_to ss (part_at r (parts (all s.objects))) xs s

-- a stuck action calls nothing
abbrev pub call_unless : Option Fault → List Signature → Act → State → Option Call
call_unless (Some f) ss a s = None
call_unless None ss a s = call_at ss (referred a.target (all s.objects)) a.arguments s

abbrev pub call_by : List Signature → Sort → Act → State → Option Call
call_by ss sort.Call a s = call_unless (stuck (item.Act a) s) ss a s
call_by ss _ a s = None

abbrev pub call_in : List Signature → Item → State → Option Call
call_in ss (item.Act a) s = call_by ss (sort_of a.name) a s
call_in ss _ s = None

abbrev pub call_first : List Signature → Option Item → State → Option Call
call_first ss None s = None
call_first ss (Some i) s = call_in ss i s

-- and neither does an engine that has ended
abbrev pub call_next : List Signature → State → Option Call
call_next ss s = if s.ended then None else call_first ss (slice_get s.work 0) s

-- Steps. They go by the signatures of the programs, and by what may come of a call.

-- before a step, a program has said what comes of its call
abbrev pub told : Outcome → State → State
told o s = record s { said = o }

-- a step that makes this call, if it makes one
abbrev pub IsStepWith : (Call → Outcome → Type 0) → Option Call → State → State → Type 0
IsStepWith may None s t = t ≡ step s
IsStepWith may (Some c) s t = (o : Outcome) × may c o × (t ≡ step (told o s))

abbrev pub IsStep : List Signature → (Call → Outcome → Type 0) → State → State → Type 0
IsStep ss may s t = IsStepWith may (call_next ss s) s t

-- with all steps counted nothing changes
abbrev pub IsCountedStep : Bool → List Signature → (Call → Outcome → Type 0) → State → State → Type 0
IsCountedStep true ss may s t = t ≡ s
IsCountedStep false ss may s t = IsStep ss may s t

abbrev pub IsStepped : List Signature → (Call → Outcome → Type 0) → State → State → Type 0
IsStepped ss may s t = IsCountedStep (s.taken == most_steps) ss may s t

-- so many steps
abbrev pub IsAdvanced : List Signature → (Call → Outcome → Type 0) → ℕ → State → State → Type 0
IsAdvanced ss may zero s t = t ≡ s
IsAdvanced ss may (suc n) s t = (u : State) × IsStepped ss may s u × IsAdvanced ss may n u t

abbrev pub IsMoved : List Signature → (Call → Outcome → Type 0) → Move → State → State → Type 0
IsMoved ss may (move.Post i) s t = t ≡ posted i s
IsMoved ss may move.Step s t = IsStepped ss may s t

-- a run makes its moves in order
abbrev pub IsRun : List Signature → (Call → Outcome → Type 0) → List Move → State → State → Type 0
IsRun ss may [] s t = t ≡ s
IsRun ss may (m ∷ ms) s t = (u : State) × IsMoved ss may m s u × IsRun ss may ms u t

-- anything may come of a call
abbrev pub anything : Call → Outcome → Type 0
anything c o = Unit {0}
