-- What is read, or is not, says with which tag the octets begin.
use Rattle.std.proofs.Common.{◌∙◌, arith}
use Rattle.mh_der.proofs.BeginningLemmas.{begins_found, begins_none}
use Rattle.mh_der.proofs.header.begins_with.Goals as goal

pub returns-in-Ok : goal.returns-in-Ok
returns-in-Ok c =
    c.eq.ensures
    ∙ begins_found c.args.octets.now c.args.tag c.in-Ok.found c.in-Ok.field-0-1.now (λ k. (c.type_inv.octets k).fits) (omega (arith, c.well_formed)) c.in-Ok.ensures.exact

pub returns-in-Err : goal.returns-in-Err
returns-in-Err c = begins_none c.args.octets.now c.args.tag c.in-Err.field-0 (omega (arith, c.well_formed)) c.in-Err.ensures.exact
