-- What is wrong with an action. Its places are looked at in the order in which they are written: its target,
-- then its parameters, by what the table says that it needs; a variable comes before what it holds. A machine and a
-- verifier judge alike, each by what it knows.
use Rattle.std.specs.Prelude.{ℕ, Bool, true, false, ◌&&◌, ◌==◌, nat_lt, if◌then◌else◌, List, [], ◌∷◌, ◌++◌, drop, Option, Some, None, ℤ}
use Rattle.std.specs.List.{flat_map}
use Rattle.std.specs.Option.{is_some, option_map, option_map_or}
use Rattle.mh_base.specs.declared.obj_ref.ObjRef.{ObjRef}
use Rattle.mh_base.specs.declared.value.Kind.{Kind}
use Rattle.mh_base.specs.declared.value.Kind.TheVariants as kind
use Rattle.mh_base.specs.declared.value.Value.TheVariants as value
use Rattle.mh_group.specs.declared.class.Class.{Class}
use Rattle.mh_group.specs.declared.action_name.ActionName.{ActionName}
use Rattle.mh_group.specs.declared.action_name.ActionName.TheVariants as action
use Rattle.mh_group.specs.declared.shape.Need.{Need}
use Rattle.mh_group.specs.declared.shape.Need.TheVariants as need
use Rattle.mh_group.specs.Table.{admits, is_visible, needs_of}
use Rattle.mh_model.specs.declared.act.Act.{Act}
use Rattle.mh_model.specs.declared.act.Argument.{Argument}
use Rattle.mh_model.specs.declared.act.Argument.TheVariants as argument
use Rattle.mh_model.specs.declared.act.Target.{Target}
use Rattle.mh_model.specs.declared.act.Target.TheVariants as target
use Rattle.mh_model.specs.declared.fault.Fault.{Fault}
use Rattle.mh_model.specs.declared.fault.FaultKind.{FaultKind}
use Rattle.mh_model.specs.declared.fault.FaultKind.TheVariants as fault
use Rattle.mh_model.specs.declared.fault.Reason.{Reason}
use Rattle.mh_model.specs.declared.fault.Reason.TheVariants as reason
use Rattle.mh_model.specs.declared.program.Param.{Param}
use Rattle.mh_model.specs.Known.{Known}
use Rattle.mh_model.specs.Programs.{fits_params}
use Rattle.mh_model.specs.Variables.{variable_kind, kind_of, same_kind, converts, is_operator}

-- something that is wrong at a place of an action
pub record Wrong : Type 0 where
  pub reason : Reason
  -- the reference that is named
  pub at : ObjRef
  -- the variable through which the place came to it
  pub through : Option ObjRef

-- the action leads to a group
abbrev pub is_transition : ActionName → Bool
is_transition action.TransitionTo = true
is_transition action.Launch = true
is_transition _ = false

-- this is wrong at the reference, to which the place came through that variable or none
abbrev pub wrong : Reason → Option ObjRef → ObjRef → List Wrong
wrong w v r = record { reason = w; at = r; through = v } ∷ []

-- wrong unless this holds
abbrev pub unless : Bool → Reason → Option ObjRef → ObjRef → List Wrong
unless b w v r = if b then [] else wrong w v r

-- an object has to be there, and of a class that passes the test
abbrev pub object_wrongs : (Class → Bool) → Option ObjRef → ObjRef → Option Class → List Wrong
object_wrongs is v r None = wrong reason.Absent v r
object_wrongs is v r (Some c) = unless (is c) reason.WrongClass v r

-- a variable has to be there, and to hold values of a kind that passes the test
abbrev pub variable_wrongs : (Kind → Bool) → ObjRef → Option Class → List Wrong
variable_wrongs is v None = wrong reason.Absent None v
variable_wrongs is v (Some c) = unless (option_map_or is (variable_kind c) false) reason.WrongKind None v

-- The target. To a transition each group of the service is there.

abbrev pub target_class : Known → ActionName → ObjRef → Option Class
target_class k n r = if is_transition n && r.number == 0 then k.group_class r else k.class_of r

-- an object has to be one for which the action has a rule
abbrev pub admitted_wrongs : Known → ActionName → Option ObjRef → ObjRef → List Wrong
admitted_wrongs k n v r = object_wrongs (λ c. admits c n) v r (target_class k n r)

-- the reference that is written as a target
abbrev pub written_at : Target → ObjRef
written_at (target.Direct r) = r
written_at (target.Through v) = v

abbrev pub target_wrongs : Known → ActionName → Target → List Wrong
target_wrongs k n (target.Direct r) = admitted_wrongs k n None r
target_wrongs k n (target.Through v) =
    variable_wrongs (same_kind kind.Object) v (k.class_of v)
    ++ flat_map (admitted_wrongs k n (Some v)) (k.refers v)

-- the objects to which a target may come
abbrev pub targets : Known → Target → List ObjRef
targets k (target.Direct r) = r ∷ []
targets k (target.Through v) = k.refers v

-- the variable through which a target is written
abbrev pub target_variable : Target → Option ObjRef
target_variable (target.Direct r) = None
target_variable (target.Through v) = Some v

-- Values

-- a value has to be of a kind that passes the test
abbrev pub value_wrongs : (Kind → Bool) → Known → Act → Argument → List Wrong
value_wrongs is k a (argument.Direct v) = unless (is (kind_of v)) reason.WrongKind None (written_at a.target)
value_wrongs is k a (argument.Through v t) = variable_wrongs is v (k.class_of v)
value_wrongs is k a (argument.Receiver v) = wrong reason.WrongKind None v

-- an answer is received by a variable of its kind
abbrev pub receiver_wrongs : Kind → Known → Act → Argument → List Wrong
receiver_wrongs t k a (argument.Direct v) = wrong reason.WrongKind None (written_at a.target)
receiver_wrongs t k a (argument.Through v u) = wrong reason.WrongKind None v
receiver_wrongs t k a (argument.Receiver v) = variable_wrongs (same_kind t) v (k.class_of v)

-- Objects as parameters: one behind or before which another is put is a visible, and any other will do.

abbrev pub takes_object : ActionName → Class → Bool
takes_object action.PutBefore c = is_visible c
takes_object action.PutBehind c = is_visible c
takes_object _ c = true

abbrev pub named_wrongs : Known → ActionName → Option ObjRef → ObjRef → List Wrong
named_wrongs k n v r = object_wrongs (takes_object n) v r (k.class_of r)

abbrev pub reference_wrongs : Known → Act → Argument → List Wrong
reference_wrongs k a (argument.Direct (value.Object r)) = named_wrongs k a.name None r
reference_wrongs k a (argument.Direct v) = wrong reason.WrongKind None (written_at a.target)
reference_wrongs k a (argument.Through v t) =
    variable_wrongs (same_kind kind.Object) v (k.class_of v)
    ++ flat_map (named_wrongs k a.name (Some v)) (k.refers v)
reference_wrongs k a (argument.Receiver v) = wrong reason.WrongKind None v

-- Values with their kind. It has to go with that of the variable that is set or tested.

abbrev pub goes_with : ActionName → Kind → Kind → Bool
goes_with action.SetVariable to from = converts to from
goes_with _ to from = same_kind to from

-- a target that is no variable is wrong at its own place
abbrev pub target_takes : (Kind → Bool) → Option Class → Bool
target_takes is None = true
target_takes is (Some c) = option_map_or is (variable_kind c) true

-- a direct value names the object that does not take it
abbrev pub untaken : Known → (Kind → Bool) → Option ObjRef → ObjRef → List Wrong
untaken k is v r = unless (target_takes is (k.class_of r)) reason.WrongKind v r

-- one through a variable names the variable
abbrev pub untaken_through : Known → (Kind → Bool) → ObjRef → ObjRef → List Wrong
untaken_through k is v r = unless (target_takes is (k.class_of r)) reason.WrongKind None v

abbrev pub typed_wrongs : Known → Act → Argument → List Wrong
typed_wrongs k a (argument.Direct v) =
    flat_map (untaken k (λ t. goes_with a.name t (kind_of v)) (target_variable a.target)) (targets k a.target)
typed_wrongs k a (argument.Through v (Some u)) =
    variable_wrongs (same_kind u) v (k.class_of v)
    ++ flat_map (untaken_through k (λ t. goes_with a.name t u) v) (targets k a.target)
typed_wrongs k a (argument.Through v None) = wrong reason.WrongKind None v
typed_wrongs k a (argument.Receiver v) = wrong reason.WrongKind None v

-- Programs. A call that does not fit names the program, at the target's place.

abbrev pub is_call : ActionName → Bool
is_call action.Call = true
is_call action.Fork = true
is_call _ = false

-- what a call passes follows the variable that is told whether it went well
abbrev pub passed : List Argument → List Argument
passed xs = drop 1 xs

abbrev pub calls_well : Option (List Param) → List Argument → Bool
calls_well None xs = false
calls_well (Some ps) xs = fits_params ps xs

abbrev pub call_wrongs : Known → Act → ObjRef → List Wrong
call_wrongs k a r = unless (calls_well (k.takes r) (passed a.arguments)) reason.Misfit (target_variable a.target) r

abbrev pub called_wrongs : Known → Act → List Wrong
called_wrongs k a = if is_call a.name then flat_map (call_wrongs k a) (targets k a.target) else []

-- a variable that is passed is of the kind that is written
abbrev pub passed_wrongs : Known → Act → Argument → List Wrong
passed_wrongs k a (argument.Direct v) = []
passed_wrongs k a (argument.Through v (Some u)) = variable_wrongs (same_kind u) v (k.class_of v)
passed_wrongs k a (argument.Through v None) = wrong reason.WrongKind None v
passed_wrongs k a (argument.Receiver v) = wrong reason.WrongKind None v

-- Timers. The id of one that is set is written itself, else it is not known beforehand which timer is meant.

abbrev pub timer_wrongs : ActionName → List Argument → List Wrong
timer_wrongs action.SetTimer (argument.Through v t ∷ xs) = wrong reason.TimerHeld None v
timer_wrongs _ xs = []

-- Operators. The variable that is tested has to have it; one of which nothing is known is wrong.

abbrev pub unfit_through : Known → Act → ObjRef → Option ℤ → List Wrong
unfit_through k a v None = wrong reason.WrongKind None v
unfit_through k a v (Some n) = flat_map (untaken_through k (λ t. is_operator t n) v) (targets k a.target)

abbrev pub operator_wrongs : Known → Act → Argument → List Wrong
operator_wrongs k a (argument.Direct (value.Int n)) =
    flat_map (untaken k (λ t. is_operator t n) (target_variable a.target)) (targets k a.target)
operator_wrongs k a (argument.Through v t) = unfit_through k a v (k.number v)
operator_wrongs k a _ = []

abbrev pub is_test : ActionName → Bool
is_test action.TestVariable = true
is_test _ = false

-- the number of a test is its operator
abbrev pub integer_wrongs : Known → Act → Argument → List Wrong
integer_wrongs k a x =
    value_wrongs (same_kind kind.Int) k a x ++ (if is_test a.name then operator_wrongs k a x else [])

-- All places

abbrev pub is_content_kind : Kind → Bool
is_content_kind t = if same_kind t kind.Octets then true else same_kind t kind.Content

abbrev pub is_data_kind : Kind → Bool
is_data_kind t = if same_kind t kind.Bool then true else same_kind t kind.Int

-- what is wrong with an argument, by what is needed there
abbrev pub argument_wrongs : Known → Act → Need → Argument → List Wrong
argument_wrongs k a need.Bool x = value_wrongs (same_kind kind.Bool) k a x
argument_wrongs k a need.Int x = integer_wrongs k a x
argument_wrongs k a need.Octets x = value_wrongs (same_kind kind.Octets) k a x
argument_wrongs k a need.Ref x = reference_wrongs k a x
argument_wrongs k a need.Content x = value_wrongs is_content_kind k a x
argument_wrongs k a need.Data x = value_wrongs is_data_kind k a x
argument_wrongs k a need.Event x = value_wrongs (same_kind kind.Int) k a x
argument_wrongs k a (need.Receiver t) x = receiver_wrongs t k a x
argument_wrongs k a need.Typed x = typed_wrongs k a x
argument_wrongs k a need.Arguments x = passed_wrongs k a x

-- what is needed behind a parameter: all the rest is what a program is called with
abbrev pub needs_behind : Need → List Need → List Need
needs_behind need.Arguments ns = need.Arguments ∷ []
needs_behind n ns = ns

abbrev pub arguments_wrongs : Known → Act → List Need → List Argument → List Wrong
arguments_wrongs k a [] xs = []
arguments_wrongs k a (n ∷ ns) [] = []
arguments_wrongs k a (n ∷ ns) (x ∷ xs) = argument_wrongs k a n x ++ arguments_wrongs k a (needs_behind n ns) xs

-- all that is wrong with the action, in written order
abbrev pub wrongs : Known → Act → List Wrong
wrongs k a =
    target_wrongs k a.name a.target ++ called_wrongs k a ++ timer_wrongs a.name a.arguments
    ++ arguments_wrongs k a (needs_of a.name) a.arguments

-- Which of it is named: the first of the lowest rank. What has no rank is passed over.

-- how late something is named: by its reason, and by whether the place came to the reference through a variable
abbrev pub Ranking : Type 0
Ranking = Reason → Bool → Option ℕ

abbrev pub rank_of : Ranking → Wrong → Option ℕ
rank_of rank w = rank w.reason (is_some w.through)

-- whether one of this rank is named where this is the best so far
abbrev pub is_named : Ranking → Option Wrong → Option ℕ → Bool
is_named rank best None = false
is_named rank None (Some n) = true
is_named rank (Some b) (Some n) = option_map_or (nat_lt n) (rank_of rank b) true

abbrev pub better : Ranking → Option Wrong → Wrong → Option Wrong
better rank best w = if is_named rank best (rank_of rank w) then Some w else best

-- the one that is named of the best so far and of these
abbrev pub least : Ranking → Option Wrong → List Wrong → Option Wrong
least rank best [] = best
least rank best (w ∷ ws) = least rank (better rank best w) ws

-- A machine can do an action whatever sets a timer.

abbrev pub fault_kind : Reason → Option FaultKind
fault_kind reason.Absent = Some fault.Absent
fault_kind reason.WrongClass = Some fault.WrongClass
fault_kind reason.WrongKind = Some fault.WrongKind
fault_kind reason.Misfit = Some fault.WrongKind
fault_kind reason.TimerHeld = None

-- what is absent goes before a wrong class, and that before a wrong kind, whether through a variable or not
abbrev pub fault_rank : FaultKind → ℕ
fault_rank fault.Absent = 0
fault_rank fault.WrongClass = 1
fault_rank fault.WrongKind = 2

abbrev pub machine_rank : Ranking
machine_rank w held = option_map fault_rank (fault_kind w)

abbrev pub fault_for : ActionName → ObjRef → Option FaultKind → Option Fault
fault_for n r None = None
fault_for n r (Some what) = Some (record { what = what; action = n; at = r })

abbrev pub fault_by : ActionName → Option Wrong → Option Fault
fault_by n None = None
fault_by n (Some w) = fault_for n w.at (fault_kind w.reason)

-- why a machine cannot do the action, if it cannot
abbrev pub fault_known : Known → Act → Option Fault
fault_known k a = fault_by a.name (least machine_rank None (wrongs k a))
