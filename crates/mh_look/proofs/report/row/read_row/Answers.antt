use Rattle.std.specs.Prelude.{ℕ, List, ◌++◌, Option, IfSome, Vec}
use Rattle.std.specs.declared.alloc.Global.{Global}
use Rattle.std.proofs.Common.{ap, ◌∙◌, subst}
use Rattle.std.specs.Option.{option_map}
use Rattle.mh_model.specs.declared.picture.cell.Cell.{Cell}
use Rattle.mh_told.specs.Frame.{row_cells, row_line}
use Rattle.mh_look.specs.Reading.{IsRow}
use Rattle.mh_look.specs.Cells.{AreCellsFound}
use Rattle.mh_look.proofs.RowLineLemmas.{row_found}
use Rattle.mh_look.proofs.TailLemmas.{tail}
use Rattle.mh_look.proofs.report.row.read_row.Goals as goal

pub returns-clause-found : goal.returns-clause-found
returns-clause-found c =
    let cells : List Cell = row_cells c.put_cells.new.picture c.args.row in
    row_found c.args.row c.args.bytes.now c.as_slice-2.result.now c.in-Some.cells.items cells c.length_in_front.result
    (subst (λ (o : Option (Vec Cell Global)). AreCellsFound (tail 7 c.args.bytes.now) (option_map (λ (v : Vec Cell Global). v.items) o)) c.in-Some.is c.in_ok-cells.ensures.found)
    (subst (λ (o : Option (Vec Cell Global)). IfSome o (λ (v : Vec Cell Global). IsRow v.items)) c.in-Some.is c.in_ok-cells.ensures.whole)
    (c.put_cells.ensures.put ∙ c.as_slice.ensures.value)
    (c.as_slice-2.ensures ∙ c.in_ok-put_row.ensures ∙ ap (λ (text : List ℕ). text ++ row_line c.args.row cells) c.new-text.ensures)
    c.length_in_front.ensures
