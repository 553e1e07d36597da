use Rattle.std.specs.Prelude.{◌≡◌, ◌<◌, ◌≤◌, Bool, true, false, not, refl}
use Rattle.std.proofs.Common.{ap, rules, sym, ◌∙◌}
use Rattle.mh_state.specs.Cell.{covers_cell, is_off}
use Rattle.mh_state.proofs.RangeLemmas.{any_here, any_next, any_over}
use Rattle.mh_state.proofs.cell.words.is_off.Goals as goal

pub loop-cell-init : goal.loop-cell-init
unfolding is_off
loop-cell-init c = refl

pub returns-then-covers_cell : goal.returns-then-covers_cell
returns-then-covers_cell c =
    let less : c.loop-cell.cell < 2160 = search rules in
    let here : covers_cell c.args.area.now c.loop-cell.cell ≡ true = sym c.covers_cell.ensures ∙ c.if-covers_cell.true in
    sym (ap not (any_here (covers_cell c.args.area.now) c.loop-cell.cell 2160 less here)) ∙ c.loop-cell.invariant

pub loop-cell-preserved : goal.loop-cell-preserved
loop-cell-preserved c =
    let less : c.loop-cell.cell < 2160 = search rules in
    let none : covers_cell c.args.area.now c.loop-cell.cell ≡ false = sym c.covers_cell.ensures ∙ c.if-covers_cell.false in
    ap not (any_next (covers_cell c.args.area.now) c.loop-cell.cell 2160 less none) ∙ c.loop-cell.invariant

pub returns : goal.returns
returns c =
    let over : 2160 ≤ c.loop-cell.cell = search rules in
    sym (ap not (any_over (covers_cell c.args.area.now) c.loop-cell.cell 2160 over)) ∙ c.loop-cell.invariant
