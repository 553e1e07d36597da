use Rattle.std.specs.Prelude.{ℕ, List, ◌++◌, codes}
use Rattle.std.specs.List.{flat_map, range_with_len}
use Rattle.std.proofs.Common.{ap, arith, append_assoc, ◌∙◌}
use Rattle.std.proofs.lemmas.Result.{on_ok_weaker}
use Rattle.mh_look.specs.Page.{page_cell, page_row}
use Rattle.mh_look.specs.declared.page.outline.TheConstants.{ROW_END}
use Rattle.mh_terminal.proofs.RangeLemmas.{one_more, closed}
use Rattle.mh_look.proofs.page.put_row.Goals as goal

pub loop-column-preserved : goal.loop-column-preserved
loop-column-preserved c = one_more (page_cell c.args.before.now c.args.after.now c.args.row) c.loop-column.column c.put.new.self c.loop-column.text c.put_cell.new.text c.in_ok-put_cell.ensures c.loop-column.invariant

pub returns : goal.returns
unfolding page_row
returns c =
    let cells : List ℕ = flat_map (page_cell c.args.before.now c.args.after.now c.args.row) (range_with_len 0 60) in
    on_ok_weaker c.put-2.result
    (λ h. closed (page_cell c.args.before.now c.args.after.now c.args.row) c.loop-column.column 60 c.put.new.self c.loop-column.text c.put-2.new.self ROW_END.now (omega arith) c.loop-column.invariant h
    ∙ ap (λ (xs : List ℕ). xs ++ (cells ++ ROW_END.now)) c.in_ok-put.ensures ∙ append_assoc c.args.text.now (codes "<div>") (cells ++ ROW_END.now))
    c.put-2.ensures
