use Rattle.std.proofs.Common.{◌+◌, arith, refl}
use Rattle.mh_told.specs.Masks.{is_written}
use Rattle.mh_told.proofs.MaskLemmas.{nothing_told, eight_told, whole_told}
use Rattle.mh_told.proofs.masks.written_in.Goals as goal

pub loop-at-init : goal.loop-at-init
loop-at-init c = (omega arith, omega arith, nothing_told (λ k. is_written c.args.scalars.now (c.args.start + k)))

pub loop-at-preserved : goal.loop-at-preserved
loop-at-preserved c = (
  omega (arith, c.loop-at.invariant.0),
  omega (arith, c.loop-at.invariant.0, c.loop-at-test.true),
  eight_told (is_written c.args.scalars.now) c.args.start c.loop-at.at c.loop-at.at (c.loop-at.at + 8) c.loop-at.bits c.written_at.result _ (omega arith) refl (omega arith) (omega (arith, c.loop-at.invariant.0, c.loop-at-test.true)) refl c.loop-at.invariant.2 c.written_at.ensures,
)

pub returns : goal.returns
returns c = whole_told (λ k. is_written c.args.scalars.now (c.args.start + k)) _ (eight_told (is_written c.args.scalars.now) c.args.start 52 c.loop-at.at 60 c.loop-at.bits c.written_at-2.result _ (omega (arith, c.loop-at-test.false)) refl (omega (arith, c.loop-at.invariant.1)) (omega arith) refl c.loop-at.invariant.2 c.written_at-2.ensures)
