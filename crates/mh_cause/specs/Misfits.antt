-- Values and variables of another kind than is needed (V3): which parameter it is, and what it takes.
use Rattle.std.specs.Prelude.{ℕ, ℤ, ◌-◌, if◌then◌else◌, List, [], ◌∷◌, length, Option, Some, None}
use Rattle.mh_base.specs.declared.obj_ref.ObjRef.{ObjRef}
use Rattle.mh_base.specs.declared.value.Kind.{Kind}
use Rattle.mh_base.specs.declared.value.Kind.TheVariants as kind
use Rattle.mh_base.specs.declared.value.Value.{Value}
use Rattle.mh_base.specs.declared.value.Value.TheVariants as value
use Rattle.mh_group.specs.declared.action_name.ActionName.{ActionName}
use Rattle.mh_group.specs.declared.class.Class.{Class}
use Rattle.mh_group.specs.declared.shape.Need.{Need}
use Rattle.mh_group.specs.declared.shape.Need.TheVariants as need
use Rattle.mh_group.specs.Table.{needs_of}
use Rattle.mh_model.specs.declared.act.Act.{Act}
use Rattle.mh_model.specs.declared.act.Argument.{Argument}
use Rattle.mh_model.specs.declared.act.Argument.TheVariants as argument
use Rattle.mh_model.specs.declared.act.Target.{Target}
use Rattle.mh_model.specs.declared.act.Target.TheVariants as target
use Rattle.mh_model.specs.Faults.{goes_with, is_test, needs_behind}
use Rattle.mh_model.specs.Reference.{same_ref}
use Rattle.mh_model.specs.Service.{Service}
use Rattle.mh_model.specs.Variables.{is_operator, kind_of, variable_kind}
use Rattle.mh_cause.specs.declared.misfit.Misfit.{Misfit}
use Rattle.mh_cause.specs.declared.misfit.Misfit.TheVariants as misfit
use Rattle.mh_cause.specs.declared.misfit.Setting.{Setting}
use Rattle.mh_cause.specs.declared.passing.Passing.{Passing}
use Rattle.mh_cause.specs.declared.passing.Passing.TheVariants as passing
use Rattle.mh_cause.specs.Acts.{act_of}
use Rattle.mh_cause.specs.Naming.{class_at}
use Rattle.mh_cause.specs.Passing.{holds, passing_of}
use Rattle.mh_cause.specs.Refusing.{Refused}

-- the class of the target, if that is written
abbrev pub direct_class : Service → Target → Option Class
direct_class s (target.Direct t) = class_at s t
direct_class s (target.Through v) = None

-- the class of the target, which is the object that is wrong where it is not written
abbrev pub reached_class : Service → ObjRef → Target → Option Class
reached_class s at (target.Direct t) = class_at s t
reached_class s at (target.Through v) = class_at s at

-- the first, if there is one
abbrev pub or_misfit : Option Misfit → Option Misfit → Option Misfit
or_misfit (Some m) other = Some m
or_misfit None other = other

-- a value of this kind, as the parameter with this number, for a target of the class

abbrev pub given_to : ActionName → ℕ → Kind → Class → Option Kind → Option Misfit
given_to a n k c None = None
given_to a n k c (Some to) = if goes_with a to k then None else Some (misfit.Given n c to k)

abbrev pub given : ActionName → ℕ → Kind → Option Class → Option Misfit
given a n k None = None
given a n k (Some c) = given_to a n k c (variable_kind c)

-- an operator, as the parameter with this number, for a target of the class

abbrev pub operator_for : ℕ → ℤ → Option Kind → Option Misfit
operator_for n x None = None
operator_for n x (Some to) = if is_operator to x then None else Some (misfit.Operator n to x)

abbrev pub operator_at : ℕ → ℤ → Option Class → Option Misfit
operator_at n x None = None
operator_at n x (Some c) = operator_for n x (variable_kind c)

abbrev pub operator : Setting → ℕ → ℤ → Option Misfit
operator s n x = if is_test s.action then operator_at n x s.reached else None

abbrev pub operator_held : ActionName → ℕ → Option Misfit
operator_held a n = if is_test a then Some (misfit.OperatorHeld n) else None

-- a variable that is the parameter with this number

abbrev pub value_held : Setting → ℕ → Passing → Option Misfit
value_held s n p = if holds p s.class then None else Some (misfit.Value n p s.class)

abbrev pub answer_held : Setting → ℕ → Kind → Option Misfit
answer_held s n k = if holds (passing.Only k) s.class then None else Some (misfit.Answer n k s.class)

abbrev pub written_held : Setting → ℕ → Kind → Option Misfit
written_held s n k = if holds (passing.Only k) s.class then None else Some (misfit.Written n k s.class)

abbrev pub plain_held : Setting → ℕ → Option Passing → Option Misfit
plain_held s n None = None
plain_held s n (Some p) = value_held s n p

-- a value that is written
abbrev pub written_misfit : Setting → ℕ → Need → Value → Option Misfit
written_misfit s n need.Typed v = given s.action n (kind_of v) s.reached
written_misfit s n need.Int (value.Int x) = operator s n x
written_misfit s n need v = None

abbrev pub typed_misfit : Setting → ℕ → Option Kind → Option Misfit
typed_misfit s n None = None
typed_misfit s n (Some k) = or_misfit (written_held s n k) (given s.action n k s.direct)

abbrev pub passed_misfit : Setting → ℕ → Option Kind → Option Misfit
passed_misfit s n None = None
passed_misfit s n (Some k) = written_held s n k

-- a variable that holds the value
abbrev pub through_misfit : Setting → ℕ → Need → Option Kind → Option Misfit
through_misfit s n need.Typed k = typed_misfit s n k
through_misfit s n need.Arguments k = passed_misfit s n k
through_misfit s n need.Int k = or_misfit (value_held s n (passing.Only kind.Int)) (operator_held s.action n)
through_misfit s n other k = plain_held s n (passing_of other)

abbrev pub receiver_misfit : Setting → ℕ → Need → Option Misfit
receiver_misfit s n (need.Receiver k) = answer_held s n k
receiver_misfit s n other = None

-- the parameter with this number
abbrev pub argument_misfit : Setting → ObjRef → ℕ → Need → Argument → Option Misfit
argument_misfit s at n need (argument.Direct v) = written_misfit s n need v
argument_misfit s at n need (argument.Through v k) = if same_ref v at then through_misfit s n need k else None
argument_misfit s at n need (argument.Receiver v) = if same_ref v at then receiver_misfit s n need else None

-- the first of these last of so many parameters
abbrev pub arguments_misfit : Setting → ObjRef → ℕ → List Need → List Argument → Option Misfit
arguments_misfit s at size [] xs = None
arguments_misfit s at size (n ∷ ns) [] = None
arguments_misfit s at size (n ∷ ns) (x ∷ xs) =
    or_misfit (argument_misfit s at (size - length xs) n x) (arguments_misfit s at size (needs_behind n ns) xs)

-- the variable through which the target is found
abbrev pub target_misfit : Class → ObjRef → Target → Option Misfit
target_misfit c at (target.Direct t) = None
target_misfit c at (target.Through v) =
    if same_ref v at then (if holds (passing.Only kind.Object) c then None else Some (misfit.Target c)) else None

abbrev pub setting_of : Service → Class → ObjRef → Act → Setting
setting_of s c at act =
    record { action = act.name; class = c; direct = direct_class s act.target; reached = reached_class s at act.target }

unfoldable pub act_misfit : Service → Class → ObjRef → Act → Option Misfit
act_misfit s c at act =
    or_misfit (target_misfit c at act.target)
    (arguments_misfit (setting_of s c at act) at (length act.arguments) (needs_of act.name) act.arguments)

abbrev pub misfit_in : Service → ObjRef → Option Class → Option Act → Option Misfit
misfit_in s at (Some c) (Some act) = act_misfit s c at act
misfit_in s at c act = None

unfoldable pub misfit_of : Service → Refused → Option Misfit
misfit_of s r = misfit_in s r.at (class_at s r.at) (act_of s r)
