use Rattle.std.proofs.Common.{◌≡◌, ℕ, w64, arith, pos, ◌*◌, ◌*ℤ◌, ◌≤◌, ℤ, to_z, FitsSigned}
use Rattle.std.proofs.Math.Facts.{to_z-of_z}
use Rattle.std.proofs.lemmas.Int.{fits_signed_from_abs, ints}
use Rattle.mh_model.specs.Boxes.{IsNear}
use Rattle.mh_display.proofs.DrawnLemmas.{doubled, is_near}
use Rattle.mh_display.proofs.stroke.twice.Goals as goal

whole : (k : ℕ) → k ≤ 65536 → to_z w64 (2 * k) ≡ pos (2 * k)
whole k few = omega (arith, ints, few)

fits : (k : ℕ) (d : ℤ) → k ≤ 65536 → IsNear 0xFFFF d → FitsSigned w64 (pos (2 * k) *ℤ d)
fits k d few near = fits_signed_from_abs w64 (pos (2 * k) *ℤ d) (omega (arith, doubled k d few near))

pub overflow_mul-result-2 : goal.overflow_mul-result-2
overflow_mul-result-2 c = rw (whole c.args.step c.requires.few, to_z-of_z c.ranges.distance) (fits c.args.step c.args.distance c.requires.few c.requires.near)

pub returns-clause-number : goal.returns-clause-number
returns-clause-number c = rw (whole c.args.step c.requires.few, to_z-of_z c.ranges.distance) (to_z-of_z (fits c.args.step c.args.distance c.requires.few c.requires.near))

pub returns-clause-near : goal.returns-clause-near
returns-clause-near c =
    rw (whole c.args.step c.requires.few, to_z-of_z c.ranges.distance, to_z-of_z (fits c.args.step c.args.distance c.requires.few c.requires.near))
    (is_near (pos (2 * c.args.step) *ℤ c.args.distance) (doubled c.args.step c.args.distance c.requires.few c.requires.near))
