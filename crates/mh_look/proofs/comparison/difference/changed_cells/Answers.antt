use Rattle.std.specs.Prelude.{ℕ, ◌+◌, ◌<◌}
use Rattle.std.specs.List.{count_by, range_with_len}
use Rattle.std.proofs.Common.{◌≡◌, ap, arith, sym, ◌∙◌}
use Rattle.mh_look.specs.Frames.{differs_at, changed_cells}
use Rattle.mh_look.proofs.DifferenceLemmas.{count_passed, count_found}
use Rattle.mh_look.proofs.comparison.difference.changed_cells.Goals as goal
use Rattle.mh_look.proofs.comparison.difference.changed_cells.Goals.{then-differs_at, else-differs_at}

pub loop-place-preserved : goal.loop-place-preserved
loop-place-preserved c =
    let test = differs_at c.args.one.now c.args.other.now in
    let before = c.loop-place.invariant in
    elim c.if-differs_at.branch [
      | then-differs_at w ↦ record {
        counted = w.count-is ∙ ap (λ (n : ℕ). n + 1) before.counted ∙ sym (count_found test c.loop-place.place (sym c.differs_at.ensures ∙ w.if-differs_at.true));
        within = omega (arith, w.count-is, before.within);
      }
      | else-differs_at w ↦ record {
        counted = w.count-is ∙ before.counted ∙ sym (count_passed test c.loop-place.place (sym c.differs_at.ensures ∙ w.if-differs_at.false));
        within = omega (arith, w.count-is, before.within);
      }
    ]

pub returns : goal.returns
unfolding changed_cells
returns c =
    let end : c.loop-place.place ≡ 2160 = omega arith in
    c.loop-place.invariant.counted ∙ ap (λ (n : ℕ). count_by (differs_at c.args.one.now c.args.other.now) (range_with_len 0 n)) end
