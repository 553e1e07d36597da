use Rattle.std.proofs.Common.{◌+◌, arith, refl}
use Rattle.mh_told.specs.Masks.{changes}
use Rattle.mh_told.proofs.MaskLemmas.{nothing_told, eight_told}
use Rattle.mh_told.proofs.masks.changes_in.Goals as goal

pub loop-at-init : goal.loop-at-init
loop-at-init c = (omega arith, omega arith, nothing_told (λ k. changes c.args.plane.now (c.args.start + k)))

pub loop-at-preserved : goal.loop-at-preserved
loop-at-preserved c = (
  omega (arith, c.loop-at.invariant.0),
  omega (arith, c.loop-at.invariant.0, c.loop-at-test.true),
  eight_told (changes c.args.plane.now) c.args.start c.loop-at.at c.loop-at.at (c.loop-at.at + 8) c.loop-at.bits c.changes_at.result _ (omega arith) refl (omega arith) (omega (arith, c.loop-at.invariant.0, c.loop-at-test.true)) refl c.loop-at.invariant.2 c.changes_at.ensures,
)

pub returns : goal.returns
returns c = eight_told (changes c.args.plane.now) c.args.start 51 c.loop-at.at 59 c.loop-at.bits c.changes_at-2.result _ (omega (arith, c.loop-at-test.false)) refl (omega (arith, c.loop-at.invariant.1)) (omega arith) refl c.loop-at.invariant.2 c.changes_at-2.ensures
