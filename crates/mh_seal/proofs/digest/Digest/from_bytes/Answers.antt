use Rattle.std.proofs.Common.{arith, rules}
use Rattle.mh_seal.proofs.ValueLemmas.{digest_of_bytes}
use Rattle.mh_seal.proofs.digest.Digest.from_bytes.Goals as goal

pub invariant_of-result : goal.invariant_of-result
invariant_of-result c = digest_of_bytes c.args.bytes (omega (arith, c.well_formed)) (λ i. search rules)
