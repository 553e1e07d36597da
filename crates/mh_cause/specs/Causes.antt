-- What is told of a refusal that names a reference: the cause, and the mend. Neither has a full stop; where the case is not known
-- there are none.
use Rattle.std.specs.Prelude.{ℕ, ◌==◌, if◌then◌else◌, List, [], ◌++◌, codes}
use Rattle.mh_base.specs.declared.obj_ref.ObjRef.{ObjRef}
use Rattle.mh_model.specs.Service.{Service}
use Rattle.mh_cause.specs.declared.phrases.TheConstants as told
use Rattle.mh_cause.specs.Absent.{absent_cause, absent_mend}
use Rattle.mh_cause.specs.Calls.{call_cause, call_mend}
use Rattle.mh_cause.specs.MisfitWords.{misfit_cause, misfit_mend}
use Rattle.mh_cause.specs.Naming.{named}
use Rattle.mh_cause.specs.Refusing.{Refused}
use Rattle.mh_cause.specs.Unfit.{unfit_cause, unfit_mend}

-- the number of a timer that is held by a variable (V7)
unfoldable pub timer_cause : ObjRef → List ℕ
timer_cause at = told.TIMER_HELD.now ++ named at

unfoldable pub cause : Service → Refused → List ℕ
cause s r =
    if r.number == 1 then absent_cause s r
    else (if r.number == 2 then unfit_cause s r
    else (if r.number == 3 then misfit_cause s r
    else (if r.number == 4 then absent_cause s r
    else (if r.number == 5 then unfit_cause s r
    else (if r.number == 7 then timer_cause r.at
    else (if r.number == 9 then call_cause s r else []))))))

unfoldable pub mend : Service → Refused → List ℕ
mend s r =
    if r.number == 1 then absent_mend s r
    else (if r.number == 2 then unfit_mend s r
    else (if r.number == 3 then misfit_mend s r
    else (if r.number == 4 then absent_mend s r
    else (if r.number == 5 then unfit_mend s r
    else (if r.number == 7 then codes "write the number"
    else (if r.number == 9 then call_mend s r else []))))))
