use Rattle.std.proofs.Common.{◌≤◌, arith, ap, sym, lit≤}
use Rattle.std.proofs.lemmas.List.{at_drop_all}
use Rattle.redplay_c.specs.Rows.{bits_of}
use Rattle.redplay_c.proofs.BitLemmas.{bits_double, bit_small}
use Rattle.redplay_c.proofs.showing.bits_of.Goals as goal

pub loop-at-init : goal.loop-at-init
loop-at-init c = (lit≤ tt, sym (at_drop_all bits_of c.args.rows.now 36 (omega (arith, c.told-rows))))

pub overflow_mul-bits : goal.overflow_mul-bits
overflow_mul-bits c = omega (arith, bits_double c.args.rows.now c.loop-at.at c.loop-at.bits c.told-rows c.loop-at.invariant.1)

pub overflow_add-bits : goal.overflow_add-bits
overflow_add-bits c =
    omega (arith, bits_double c.args.rows.now c.loop-at.at c.loop-at.bits c.told-rows c.loop-at.invariant.1, bit_small _ c.from.result c.from.ensures)
