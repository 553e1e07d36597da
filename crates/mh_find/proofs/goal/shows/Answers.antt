use Rattle.std.specs.Prelude.{◌≡◌, ◌<◌, ◌≤◌, true, false, refl}
use Rattle.std.proofs.Common.{rules, sym, ◌∙◌, ap}
use Rattle.mh_find.specs.Goal.{holds, is_in_row, shows}
use Rattle.mh_find.proofs.RowLemmas.{any_here, any_next, any_over}
use Rattle.mh_find.proofs.goal.shows.Goals as goal

pub loop-row-init : goal.loop-row-init
unfolding shows
loop-row-init c = refl

pub returns-then-holds : goal.returns-then-holds
returns-then-holds c =
    let less : c.loop-row.row < 36 = search rules in
    let here : is_in_row c.args.text.now c.args.picture.now c.loop-row.row ≡ true =
    sym (ap (holds c.args.text.now) c.row_of.ensures) ∙ sym c.holds.ensures ∙ c.if-holds.true in
    sym (any_here (is_in_row c.args.text.now c.args.picture.now) c.loop-row.row 36 less here) ∙ c.loop-row.invariant

pub loop-row-preserved : goal.loop-row-preserved
loop-row-preserved c =
    let less : c.loop-row.row < 36 = search rules in
    let none : is_in_row c.args.text.now c.args.picture.now c.loop-row.row ≡ false =
    sym (ap (holds c.args.text.now) c.row_of.ensures) ∙ sym c.holds.ensures ∙ c.if-holds.false in
    any_next (is_in_row c.args.text.now c.args.picture.now) c.loop-row.row 36 less none ∙ c.loop-row.invariant

pub returns : goal.returns
returns c =
    let over : 36 ≤ c.loop-row.row = search rules in
    sym (any_over (is_in_row c.args.text.now c.args.picture.now) c.loop-row.row 36 over) ∙ c.loop-row.invariant
