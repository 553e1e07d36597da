use Rattle.std.specs.Prelude.{IfOk, Result}
use Rattle.std.proofs.Common.{subst, sym}
use Rattle.mh_model.specs.Service.{Service}
use Rattle.mh_told.specs.declared.unplayable.Unplayable.{Unplayable}
use Rattle.mh_judged.specs.Judged.{IsListOf}
use Rattle.mh_judged.proofs.ListLemmas.{kept_ok, unread_so}
use Rattle.mh_judged.proofs.judged.findings_on.Goals as goal

pub returns-in-Ok : goal.returns-in-Ok
returns-in-Ok c =
    subst
    (λ (r : Result Service Unplayable). IfOk c.verified.result
    (λ found. IsListOf c.args.asked c.args.most c.args.given.now c.args.folder.now c.args.files.now c.args.start.now r found.items))
    (sym c.in-Ok.ensures) c.verified.ensures

pub returns-in-Err : goal.returns-in-Err
returns-in-Err c =
    kept_ok c.unplayable-found.result
    (λ found both. unread_so c.args.asked c.args.most c.args.given.now c.args.folder.now c.args.files.now c.args.start.now c.in-Err.why _ found.items c.in-Err.ensures both.1 both.0)
    c.unplayable-found.ensures
