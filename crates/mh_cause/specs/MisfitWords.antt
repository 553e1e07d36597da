-- What is told of values and variables of another kind than is needed (V3).
use Rattle.std.specs.Prelude.{int_lt, ℕ, ℤ, pos, Bool, true, false, ◌&&◌, if◌then◌else◌, List, [], ◌++◌, codes, Option, Some}
use Rattle.std.specs.Fmt.{decimal}
use Rattle.std.specs.Int.RustNames.{unsigned_abs}
use Rattle.mh_base.specs.declared.obj_ref.ObjRef.{ObjRef}
use Rattle.mh_base.specs.declared.value.Kind.{Kind}
use Rattle.mh_base.specs.declared.value.Kind.TheVariants as kind
use Rattle.mh_group.specs.declared.action_name.ActionName.{ActionName}
use Rattle.mh_group.specs.declared.class.Class.{Class}
use Rattle.mh_group.specs.Words.{action_word, kind_word}
use Rattle.mh_model.specs.Faults.{is_test}
use Rattle.mh_model.specs.Service.{Service}
use Rattle.mh_model.specs.Variables.{variable_kind}
use Rattle.mh_cause.specs.declared.misfit.Misfit.{Misfit}
use Rattle.mh_cause.specs.declared.misfit.Misfit.TheVariants as misfit
use Rattle.mh_cause.specs.declared.passing.Passing.{Passing}
use Rattle.mh_cause.specs.declared.passing.Passing.TheVariants as passing
use Rattle.mh_cause.specs.declared.passing.Wanted.TheVariants as wanted
use Rattle.mh_cause.specs.declared.phrases.TheConstants as told
use Rattle.mh_cause.specs.Candidates.{candidates_told}
use Rattle.mh_cause.specs.Lists.{classes_told, kind_told, kinds_told, operators_told, with_article}
use Rattle.mh_cause.specs.Misfits.{misfit_of}
use Rattle.mh_cause.specs.Naming.{named, parameter_words}
use Rattle.mh_cause.specs.Passing.{passes}
use Rattle.mh_cause.specs.Refusing.{Refused}

unfoldable pub sign_words : ℤ → List ℕ
sign_words n = if int_lt n (pos 0) then codes "-" else []

unfoldable pub number_words : ℤ → List ℕ
number_words n = sign_words n ++ decimal (unsigned_abs n)

unfoldable pub target_front : ActionName → ObjRef → List ℕ
target_front a at = told.THE_TARGET_OF.now ++ action_word a ++ told.IS_WHAT.now ++ named at

unfoldable pub target_words : ActionName → ObjRef → Class → List ℕ
target_words a at c = target_front a at ++ told.A_REFERENCE_ONLY.now ++ with_article c

unfoldable pub value_words : ActionName → ObjRef → ℕ → Passing → Class → List ℕ
value_words a at n p c =
    parameter_words a n ++ codes " is " ++ kinds_told p ++ codes ", and " ++ named at ++ told.WHICH_HOLDS_IT.now ++ with_article c

unfoldable pub answer_words : ActionName → ObjRef → ℕ → Kind → Class → List ℕ
answer_words a at n k c =
    parameter_words a n ++ told.TAKES_ANSWER.now ++ kind_told k ++ codes ", and " ++ named at ++ codes " is " ++ with_article c

unfoldable pub typed_words : ActionName → ObjRef → ℕ → Kind → Class → List ℕ
typed_words a at n k c =
    parameter_words a n ++ told.WRITTEN_AS.now ++ kind_word k ++ codes "`, and " ++ named at ++ told.WHICH_HOLDS_IT.now
    ++ with_article c

-- what is done with a value
abbrev pub verb : Bool → List ℕ
verb true = codes " compares "
verb false = codes " gives "

abbrev pub preposition : Bool → List ℕ
preposition true = codes " with "
preposition false = codes " "

unfoldable pub given_words : ActionName → Class → Kind → Kind → List ℕ
given_words a c to k =
    action_word a ++ verb (is_test a) ++ with_article c ++ preposition (is_test a) ++ kinds_told (passing.GoesWith a to)
    ++ told.ONLY_HERE.now ++ kind_told k

unfoldable pub operator_words : ActionName → Kind → ℤ → List ℕ
operator_words a to n =
    action_word a ++ codes " compares " ++ kind_told to ++ codes " by " ++ operators_told to ++ told.ONLY_HERE.now
    ++ number_words n

unfoldable pub held_operator_words : ObjRef → List ℕ
held_operator_words at = told.OPERATOR_HELD.now ++ named at

unfoldable pub misfit_words : ActionName → ObjRef → Misfit → List ℕ
misfit_words a at (misfit.Target c) = target_words a at c
misfit_words a at (misfit.Value n p c) = value_words a at n p c
misfit_words a at (misfit.Answer n k c) = answer_words a at n k c
misfit_words a at (misfit.Written n k c) = typed_words a at n k c
misfit_words a at (misfit.Given n c to k) = given_words a c to k
misfit_words a at (misfit.Operator n to x) = operator_words a to x
misfit_words a at (misfit.OperatorHeld n) = held_operator_words at

abbrev pub told_misfit : ObjRef → Option ActionName → Option Misfit → List ℕ
told_misfit at (Some a) (Some m) = misfit_words a at m
told_misfit at a m = []

abbrev pub misfit_cause : Service → Refused → List ℕ
misfit_cause s r = told_misfit r.at r.action (misfit_of s r)

-- the mend

unfoldable pub through_mend : Passing → List ℕ
through_mend p = told.GO_THROUGH.now ++ classes_told (wanted.Holding p)

unfoldable pub answer_mend : Kind → List ℕ
answer_mend k = codes "name " ++ classes_told (wanted.Holding (passing.Only k))

unfoldable pub given_mend : ActionName → Kind → List ℕ
given_mend a to = codes "write " ++ kinds_told (passing.GoesWith a to)

-- the digits of an integer are octets
abbrev pub digits_mend : Bool → List ℕ
digits_mend true = told.DIGITS_OF.now
digits_mend false = []

abbrev pub is_integer : Option Kind → Bool
is_integer (Some kind.Int) = true
is_integer k = false

unfoldable pub value_mend : Passing → Class → List ℕ
value_mend p c = through_mend p ++ digits_mend (passes p kind.Octets && is_integer (variable_kind c))

abbrev pub mend_of : ActionName → Misfit → List ℕ
mend_of a (misfit.Target c) = through_mend (passing.Only kind.Object)
mend_of a (misfit.Value n p c) = value_mend p c
mend_of a (misfit.Answer n k c) = answer_mend k
mend_of a (misfit.Written n k c) = through_mend (passing.Only k)
mend_of a (misfit.Given n c to k) = given_mend a to
mend_of a (misfit.Operator n to x) = codes "write one of these numbers"
mend_of a (misfit.OperatorHeld n) = codes "write its number"

-- another variable may have been meant
abbrev pub names_variable : Misfit → Bool
names_variable (misfit.Target c) = true
names_variable (misfit.Value n p c) = true
names_variable (misfit.Answer n k c) = true
names_variable (misfit.Written n k c) = true
names_variable m = false

abbrev pub variable_told : Service → Refused → Misfit → List ℕ
variable_told s r m = if names_variable m then candidates_told s r else []

abbrev pub told_mend : Service → Refused → Option ActionName → Option Misfit → List ℕ
told_mend s r (Some a) (Some m) = mend_of a m ++ variable_told s r m
told_mend s r a m = []

abbrev pub misfit_mend : Service → Refused → List ℕ
misfit_mend s r = told_mend s r r.action (misfit_of s r)
