use Rattle.std.proofs.Common.{rules, ◌≡◌, Ok, arith}
use Rattle.std.proofs.lemmas.Grind.{common_steps}
use Rattle.mh_codec.specs.declared.codec_error.CodecError.TheVariants.{At}
use Rattle.mh_codec.specs.declared.codec_error.Why.TheVariants.{Limit}
use Rattle.mh_codec.specs.Gives.{Gives, Fails}
use Rattle.mh_codec.specs.Reading.{read}
use Rattle.mh_codec.proofs.SpellingLaws.{element_fits, read_found, none_spelled, no_other_spelled, gives_none}
use Rattle.mh_codec.proofs.object.decode_group.Goals as goal

pub returns-clause-found : goal.returns-clause-found
unfolding read
returns-clause-found c =
    let is : read c.args.tags.now c.args.octets.now ≡ Ok c.in-Ok.group = first_of (search rules, grind (arith, common_steps)) in
    read_found c.args.tags.now c.reveal_table.ensures c.args.octets.now c.in-Ok.group (λ k. (c.type_inv.octets k).fits) is

pub returns-clause-one : goal.returns-clause-one
unfolding read
returns-clause-one c =
    let is : read c.args.tags.now c.args.octets.now ≡ Ok c.in-Ok.group = first_of (search rules, grind (arith, common_steps)) in
    no_other_spelled c.args.tags.now c.reveal_table.ensures c.args.octets.now c.in-Ok.group is

pub returns-then-octets-gt-LARGEST_FILE-clause-only : goal.returns-then-octets-gt-LARGEST_FILE-clause-only
unfolding read
returns-then-octets-gt-LARGEST_FILE-clause-only c =
    let fails : Fails (At Limit 0) (read c.args.tags.now c.args.octets.now) = first_of (search rules, grind (arith, common_steps)) in
    none_spelled c.args.tags.now c.reveal_table.ensures c.args.octets.now (At Limit 0) fails

pub returns-in_err-element-clause-only : goal.returns-in_err-element-clause-only
unfolding read
returns-in_err-element-clause-only c =
    let gives : Gives (λ x. x) c.from_residual.result (read c.args.tags.now c.args.octets.now) = first_of (search rules, grind (arith, common_steps)) in
    gives_none c.args.tags.now c.reveal_table.ensures c.args.octets.now c.from_residual.result gives

pub returns-in_err-written-clause-only : goal.returns-in_err-written-clause-only
unfolding read
returns-in_err-written-clause-only c =
    let gives : Gives (λ x. x) c.from_residual-in_err-written.result (read c.args.tags.now c.args.octets.now) = first_of (search rules, grind (arith, common_steps)) in
    gives_none c.args.tags.now c.reveal_table.ensures c.args.octets.now c.from_residual-in_err-written.result gives

pub returns-in_err-ended-clause-only : goal.returns-in_err-ended-clause-only
unfolding read
returns-in_err-ended-clause-only c =
    let gives : Gives (λ x. x) c.from_residual-in_err-ended.result (read c.args.tags.now c.args.octets.now) = first_of (search rules, grind (arith, common_steps)) in
    gives_none c.args.tags.now c.reveal_table.ensures c.args.octets.now c.from_residual-in_err-ended.result gives

pub unreachable-requires : goal.unreachable-requires
unreachable-requires c =
    let stands = rw c.new.ensures at c.in_ok-element.ensures in
    let fit = element_fits c.args.tags.now c.reveal_table.ensures c.args.octets.now c.in_ok-element.element c.in_ok-element.behind c.in_ok-written.written (λ k. (c.type_inv.octets k).fits) stands c.in_ok-written.ensures in
    let unfit = c.in-Err.ensures.unfit in
    cc
