use Rattle.std.proofs.Common.{◌≡◌, ◌<◌, length, arith, sym, ◌∙◌, Some, None}
use Rattle.std.proofs.lemmas.Bool.Decides.{nat_tests}
use Rattle.mh_layout.proofs.ScalarLemmas.{fewer_left, front_read, no_scalars}
use Rattle.mh_layout.proofs.scalars.first_seen.Goals as goal

pub loop-rest-smaller : goal.loop-rest-smaller
loop-rest-smaller c =
    let some : 0 < length c.loop-rest.rest.now = grind (arith, nat_tests, c.is_empty.ensures, c.loop-rest-test.true) in
    fewer_left c.loop-rest.rest.now c.behind-rest.result.now c.piece-scalar.result some c.piece-scalar.ensures c.behind-rest.ensures

pub loop-rest-preserved : goal.loop-rest-preserved
loop-rest-preserved c =
    let some : 0 < length c.loop-rest.rest.now = grind (arith, nat_tests, c.is_empty.ensures, c.loop-rest-test.true) in
    sym (sym c.loop-rest.invariant ∙ front_read c.loop-rest.rest.now c.behind-rest.result.now c.piece-scalar.result None some c.piece-scalar.ensures c.behind-rest.ensures c.in_default.ensures)

pub returns-in-Some : goal.returns-in-Some
returns-in-Some c =
    let some : 0 < length c.loop-rest.rest.now = grind (arith, nat_tests, c.is_empty.ensures, c.loop-rest-test.true) in
    sym c.loop-rest.invariant ∙ front_read c.loop-rest.rest.now c.behind-rest.result.now c.piece-scalar.result (Some c.in-Some.seen) some c.piece-scalar.ensures c.behind-rest.ensures c.in-Some.ensures

pub returns : goal.returns
returns c =
    let none : length c.loop-rest.rest.now ≡ 0 = grind (arith, nat_tests, c.is_empty.ensures, c.loop-rest-test.false) in
    sym c.loop-rest.invariant ∙ no_scalars c.loop-rest.rest.now none
