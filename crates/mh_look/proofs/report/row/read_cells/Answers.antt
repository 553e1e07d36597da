use Rattle.std.specs.Prelude.{◌≡◌, ℕ, List, ◌∷◌, length}
use Rattle.std.proofs.Common.{ap, arith, get_or, rules}
use Rattle.mh_look.proofs.RowPartLemmas.{no_part, no_run, one_run, whole_row, row_done}
use Rattle.mh_look.proofs.report.row.read_cells.Goals as goal
use Rattle.mh_look.proofs.report.row.read_cells.Goals.{in_default, in_default-2}

pub loop-left-init : goal.loop-left-init
loop-left-init c = no_part c.args.bytes.now c.new-cells.result.items c.new-cells.ensures.items

pub returns-in_default-2-clause-found : goal.returns-in_default-2-clause-found
returns-in_default-2-clause-found c =
    let space : get_or c.loop-left.left.now 0 0 ≡ 32 = search rules in
    no_run c.args.bytes.now c.loop-left.left.now c.loop-left.cells.items c.read_run.new.cells.items c.in_ok-length.field-0 c.loop-left.invariant space c.in_default-2.is c.in_ok-length.ensures.found

pub loop-left-preserved : goal.loop-left-preserved
loop-left-preserved c =
    let space : get_or c.loop-left.left.now 0 0 ≡ 32 = search rules in
    one_run c.args.bytes.now c.loop-left.left.now c.loop-left.cells.items c.read_run.new.cells.items c.in_ok-length.field-0 c.in-Some.length c.loop-left.invariant space c.in-Some.is c.in_ok-length.ensures.found
    (c.in_ok-length.ensures.whole c.loop-left.invariant.within)
    (c.in_ok-length.ensures.shown c.loop-left.invariant.shown)

pub returns-clause-found : goal.returns-clause-found
returns-clause-found c =
    row_done c.args.bytes.now c.loop-left.left.now c.loop-left.cells.items c.fill_up.new.cells.items c.loop-left.invariant
    (λ ys e.
    let long : length c.loop-left.left.now ≡ length (32 ∷ ys) = ap (λ (xs : List ℕ). length xs) e in
    let space : get_or c.loop-left.left.now 0 0 ≡ 32 = ap (λ (xs : List ℕ). get_or xs 0 0) e in
    elim c.if-left-lt1.branch [ in_default w ↦ absurd (omega (arith, long)) | in_default-2 w ↦ absurd (omega (arith, space)) ])
    c.in_ok-fill_up.ensures

pub returns-clause-whole : goal.returns-clause-whole
returns-clause-whole c = whole_row c.args.bytes.now c.loop-left.left.now c.loop-left.cells.items c.fill_up.new.cells.items c.loop-left.invariant c.in_ok-fill_up.ensures
