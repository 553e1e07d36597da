-- The last digit stands behind those of the front.
use Rattle.std.proofs.Common.{arith}
use Rattle.mh_text.proofs.DecimalLemmas.{digit_behind, digit_alone}
use Rattle.mh_text.proofs.printing.value.+put_decimal.Goals as goal

pub returns-then-number-lt10 : goal.returns-then-number-lt10
returns-then-number-lt10 t c = digit_alone c.put_byte.result c.args.number c.args.out.now.items _ c.if-number-lt10.true c.put_byte.ensures

pub returns : goal.returns
returns t c = digit_behind c.put_byte-2.result c.args.number c.args.out.now.items c.put_decimal.new.out.items _ (omega (arith, c.if-number-lt10.false)) (omega (arith, c.ranges.number.fits)) c.in_ok-put_decimal.ensures c.put_byte-2.ensures
