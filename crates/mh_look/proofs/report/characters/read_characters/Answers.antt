use Rattle.std.proofs.Common.{ℕ, List, ◌≡◌, ap, slice_index, arith}
use Rattle.mh_look.proofs.QuotedLemmas.{goes_on, are_found, not_there, from_place, first_and_rest}
use Rattle.mh_look.proofs.report.characters.read_characters.Goals as goal

pub loop-scalar-preserved : goal.loop-scalar-preserved
loop-scalar-preserved c =
    goes_on c.args.bytes.now c.loop-scalar.rest.now c.args.scalars.now.items c.loop-scalar.scalars.items _ c.push.new.self.items c.in-Some.scalar c.in-Some.length c.read_quoted.result
    c.read_quoted.ensures.found c.read_quoted.ensures.none c.in-Some.is c.in-Some.ensures.good (from_place c.in-Some.length c.loop-scalar.rest.now) c.in_ok-push.ensures.items c.loop-scalar.invariant

pub returns-in-34-clause-found : goal.returns-in-34-clause-found
returns-in-34-clause-found c =
    let first : slice_index c.loop-scalar.rest.now 0 ≡ 34 = omega arith in
    are_found c.args.bytes.now c.loop-scalar.rest.now c.args.scalars.now.items c.loop-scalar.scalars.items _ c.read_quoted.result
    c.read_quoted.ensures.found c.in_default-read_quoted.is (first_and_rest 34 c.loop-scalar.rest.now c.in-34.len_at_least first) c.loop-scalar.invariant

pub returns-in_default-rest-2-clause-found : goal.returns-in_default-rest-2-clause-found
returns-in_default-rest-2-clause-found c =
    not_there c.args.bytes.now c.loop-scalar.rest.now c.args.scalars.now.items c.loop-scalar.scalars.items c.read_quoted.result
    c.read_quoted.ensures.found c.in_default-read_quoted.is
    (λ rest e. let first : slice_index c.loop-scalar.rest.now 0 ≡ 34 = ap (λ (l : List ℕ). slice_index l 0) e in omega arith)
    c.loop-scalar.invariant
