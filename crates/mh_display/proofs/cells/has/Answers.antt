use Rattle.std.proofs.Common.{◌==◌, ℕ, ap, ◌∙◌, sym}
use Rattle.std.specs.Prelude.{slice_index}
use Rattle.std.proofs.lemmas.Nat.Bits.{shr_and_one}
use Rattle.mh_display.proofs.BitLemmas.{at_cell}
use Rattle.mh_display.proofs.cells.has.Goals as goal

pub returns : goal.returns
returns c =
    ap (λ (n : ℕ). n == 1) (shr_and_one (slice_index c.args.rows.now c.args.row) c.args.column)
    ∙ sym (at_cell c.args.rows.now c.args.row c.args.column c.requires.wide)
