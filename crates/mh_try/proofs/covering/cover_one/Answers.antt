use Rattle.std.specs.Prelude.{◌≡◌, Result, Ok, Err}
use Rattle.std.specs.Result.{IsErr, IsErrAnd}
use Rattle.std.proofs.Common.{subst, sym}
use Rattle.mh_told.specs.declared.unplayable.Unplayable.{Unplayable}
use Rattle.mh_told.specs.declared.unplayable.Unplayable.TheVariants as unplayable
use Rattle.mh_told.specs.Reading.{Fails, Gives}
use Rattle.mh_try.specs.Tried.{cover_one}
use Rattle.mh_try.proofs.covering.cover_one.Goals as goal

-- where memory is refused, nothing is claimed
unclaimed : {X Y : Type 0} (view : X → Y) (r : Result X Unplayable) (o : Result Y Unplayable) → IsErr r → IsErrAnd r (λ e. e ≡ unplayable.NoMemory) → Gives view r o
unclaimed view (Ok x) o is _ = absurd cc
unclaimed view (Err e) o is refused = subst (λ (u : Unplayable). Fails u o) (sym refused) tt

pub returns-in_err-covered : goal.returns-in_err-covered
returns-in_err-covered c =
    unclaimed (λ x. x) c.from_residual-in_err-covered.result (cover_one c.args.chosen.now c.args.files.now c.args.tags.now c.args.script.now c.args.before)
    c.from_residual-in_err-covered.ensures.0 c.from_residual-in_err-covered.ensures.1
