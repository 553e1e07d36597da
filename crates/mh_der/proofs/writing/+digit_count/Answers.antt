-- A number of 64 bits has eight octets at most.
use Rattle.std.proofs.Common.{arith}
use Rattle.mh_der.proofs.DigitLemmas.{few_bytes, count_more}
use Rattle.mh_der.proofs.writing.+digit_count.Goals as goal

pub returns-else-number-eq0-clause-within : goal.returns-else-number-eq0-clause-within
returns-else-number-eq0-clause-within t c =
    omega (arith, few_bytes c.args.number (omega arith), count_more c.args.number (omega arith))
