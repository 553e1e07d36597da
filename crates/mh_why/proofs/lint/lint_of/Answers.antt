use Rattle.std.specs.Prelude.{IfOk, Result}
use Rattle.std.proofs.Common.{subst, sym}
use Rattle.mh_model.specs.Service.{Service}
use Rattle.mh_told.specs.declared.unplayable.Unplayable.{Unplayable}
use Rattle.mh_why.specs.Lint.{AreLinesOn}
use Rattle.mh_why.proofs.lint.lint_of.Goals as goal

pub returns-in-Ok : goal.returns-in-Ok
returns-in-Ok c = subst (λ (r : Result Service Unplayable). IfOk c.verified.result (AreLinesOn c.args.asked c.args.files.now r)) (sym c.in-Ok.ensures) c.verified.ensures
