use Rattle.std.proofs.Common.{rules, ◌≡◌, true, false, Ok, arith}
use Rattle.std.proofs.lemmas.Grind.{common_steps}
use Rattle.mh_group.specs.Fit.{is_group}
use Rattle.mh_text.specs.declared.text_error.TextError.TheVariants.{At}
use Rattle.mh_text.specs.declared.text_error.Why.TheVariants.{Limit}
use Rattle.mh_text.specs.Gives.{Gives, Fails}
use Rattle.mh_text.specs.Reading.{read}
use Rattle.mh_text.proofs.FitLaw.{group_allowed}
use Rattle.mh_text.proofs.FoundLaw.{read_found}
use Rattle.mh_text.proofs.OnlyLaw.{none_spelled, no_other_spelled, gives_none}
use Rattle.mh_text.proofs.object.read_group.Goals as goal

pub returns-clause-found : goal.returns-clause-found
unfolding read
returns-clause-found c =
    let is : read c.args.bytes.now ≡ Ok c.in-Ok.group = first_of (search rules, grind (arith, common_steps)) in
    read_found c.args.bytes.now c.in-Ok.group is

pub returns-clause-one : goal.returns-clause-one
unfolding read
returns-clause-one c =
    let is : read c.args.bytes.now ≡ Ok c.in-Ok.group = first_of (search rules, grind (arith, common_steps)) in
    no_other_spelled c.args.bytes.now c.in-Ok.group is

pub returns-then-bytes-gt-LARGEST_FILE-clause-only : goal.returns-then-bytes-gt-LARGEST_FILE-clause-only
unfolding read
returns-then-bytes-gt-LARGEST_FILE-clause-only c =
    let fails : Fails (At Limit 0) (read c.args.bytes.now) = first_of (search rules, grind (arith, common_steps)) in
    none_spelled c.args.bytes.now (At Limit 0) fails

pub returns-in_err-written-clause-only : goal.returns-in_err-written-clause-only
unfolding read
returns-in_err-written-clause-only c =
    let gives : Gives (λ x. x) c.from_residual.result (read c.args.bytes.now) = first_of (search rules, grind (arith, common_steps)) in
    gives_none c.args.bytes.now c.from_residual.result gives

pub returns-in_err-ended-clause-only : goal.returns-in_err-ended-clause-only
unfolding read
returns-in_err-ended-clause-only c =
    let gives : Gives (λ x. x) c.from_residual-in_err-ended.result (read c.args.bytes.now) = first_of (search rules, grind (arith, common_steps)) in
    gives_none c.args.bytes.now c.from_residual-in_err-ended.result gives

-- a group that was read is one that the tables allow
pub unreachable-requires : goal.unreachable-requires
unreachable-requires c =
    let allowed : is_group c.in_ok-written.written ≡ true = group_allowed c.new-place.result c.in_ok-written.written _ c.in_ok-written.ensures in
    let refused : is_group c.in_ok-written.written ≡ false = c.in-Err.ensures.unfit in
    cc
