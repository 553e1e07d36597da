-- Which part of an action, or of a list of members, is wrong.
use Rattle.std.specs.Prelude.{ℕ, ◌-◌, ◌==◌, ◌&&◌, nat_lt, if◌then◌else◌, List, [], ◌∷◌, length, Option, Some, None}
use Rattle.mh_base.specs.declared.obj_ref.ObjRef.{ObjRef}
use Rattle.mh_group.specs.declared.action_name.ActionName.{ActionName}
use Rattle.mh_model.specs.declared.act.Argument.{Argument}
use Rattle.mh_model.specs.declared.object.member.Member.{Member}
use Rattle.mh_model.specs.declared.program.Param.{Param}
use Rattle.mh_model.specs.Faults.{is_call}
use Rattle.mh_model.specs.Programs.{fits_param, params_for}
use Rattle.mh_model.specs.Reference.{same_ref}
use Rattle.mh_model.specs.Service.{Service}
use Rattle.mh_cause.specs.declared.detail.Detail.{Detail}
use Rattle.mh_cause.specs.declared.detail.Detail.TheVariants as detail
use Rattle.mh_cause.specs.declared.misfit.Misfit.{Misfit}
use Rattle.mh_cause.specs.declared.misfit.Misfit.TheVariants as misfit
use Rattle.mh_cause.specs.declared.role.Role.{Role}
use Rattle.mh_cause.specs.declared.role.Role.TheVariants as role
use Rattle.mh_cause.specs.Acts.{act_of, members_of}
use Rattle.mh_cause.specs.Calls.{arguments_of, called_name}
use Rattle.mh_cause.specs.Misfits.{misfit_of}
use Rattle.mh_cause.specs.Refusing.{Refused}
use Rattle.mh_cause.specs.Roles.{role_at}
use Rattle.mh_cause.specs.Unfit.{written_at}

-- of these last of so many members the first that is the object
abbrev pub member_detail : ℕ → ObjRef → List Member → Detail
member_detail size at [] = detail.Unknown
member_detail size at (m ∷ ms) =
    if same_ref m.object at then detail.Within (size - length (m ∷ ms)) 0 else member_detail size at ms

-- what a call passes stands in a list of its own, behind the variable that is told whether it went well
abbrev pub parameter : ActionName → ℕ → Detail
parameter a n = if is_call a && nat_lt 1 n then detail.Within 2 (n - 2) else detail.Value n

abbrev pub role_detail : ActionName → Role → Detail
role_detail a role.Target = detail.Value 0
role_detail a role.Through = detail.Value 0
role_detail a (role.Parameter n) = parameter a n
role_detail a role.Unknown = detail.Unknown

-- where the action names the object, or the variable that may hold it
unfoldable pub named_detail : Service → Refused → ActionName → Detail
named_detail s r a = role_detail a (role_at s r (written_at r r.holder))

abbrev pub misfit_detail : ActionName → Misfit → Detail
misfit_detail a (misfit.Target c) = detail.Value 0
misfit_detail a (misfit.Value n p c) = parameter a n
misfit_detail a (misfit.Answer n k c) = parameter a n
misfit_detail a (misfit.Written n k c) = parameter a n
misfit_detail a (misfit.Given n c to k) = parameter a n
misfit_detail a (misfit.Operator n to x) = parameter a n
misfit_detail a (misfit.OperatorHeld n) = parameter a n

abbrev pub told_detail : ActionName → Option Misfit → Detail
told_detail a None = detail.Unknown
told_detail a (Some m) = misfit_detail a m

-- Calls: the first of these last of so many arguments that does not fit what the program takes there, or that it does not take; where
-- one lacks, the whole list.
abbrev pub passed_detail : ℕ → List Param → List Argument → Detail
passed_detail size ps [] = detail.Value 2
passed_detail size [] (x ∷ xs) = detail.Within 2 (size - length (x ∷ xs))
passed_detail size (p ∷ ps) (x ∷ xs) =
    if fits_param p x then passed_detail size ps xs else detail.Within 2 (size - length (x ∷ xs))

-- a program that none is, or the arguments of one
abbrev pub params_detail : List Argument → Option (List Param) → Detail
params_detail xs None = detail.Value 0
params_detail xs (Some ps) = passed_detail (length xs) ps xs

abbrev pub name_detail : Service → Refused → Option (List ℕ) → Detail
name_detail s r None = detail.Unknown
name_detail s r (Some name) = params_detail (arguments_of (act_of s r)) (params_for s.programs name)

unfoldable pub call_detail : Service → Refused → Detail
call_detail s r = name_detail s r (called_name s r)

abbrev pub act_detail : Service → Refused → ActionName → Detail
act_detail s r a =
    if r.number == 3 then told_detail a (misfit_of s r) else (if r.number == 9 then call_detail s r else named_detail s r a)

abbrev pub by_action : Service → Refused → Option ActionName → Detail
by_action s r None = member_detail (length (members_of s r)) r.at (members_of s r)
by_action s r (Some a) = act_detail s r a

-- the part that is wrong, as far as it is known
unfoldable pub detail_of : Service → Refused → Detail
detail_of s r = by_action s r r.action
