use Rattle.std.specs.Prelude.{◌≡◌, ℕ, List, true}
use Rattle.std.proofs.Common.{◌∙◌, ap, arith}
use Rattle.std.specs.List.{list_all}
use lib.Utf8.{scalar}
use Rattle.mh_model.specs.declared.picture.cell.Cell.{Cell}
use Rattle.mh_look.specs.Report.{is_shown}
use Rattle.mh_look.specs.Cells.{with_run}
use Rattle.mh_look.proofs.ReadLemmas.{no_place, no_characters, many_characters, run_found, shown_run}
use Rattle.mh_look.proofs.report.run.read_run.Goals as goal

pub returns-in_default-clause-found : goal.returns-in_default-clause-found
returns-in_default-clause-found c =
    no_place c.args.bytes.now c.args.cells.now.items c.len.result (omega arith) c.in_default.ensures.found

pub returns-in_default-2-clause-found : goal.returns-in_default-2-clause-found
returns-in_default-2-clause-found c =
    no_characters c.args.bytes.now c.args.cells.now.items c.len.result c.in-Some.length c.in-Some.place c.new-scalars.result.items c.read_characters.new.scalars.items c.in_ok-more.field-0 (omega arith) c.in-Some.ensures.found c.in_default-2.is c.in_ok-more.ensures.found

pub returns-then-len-place-clause-found : goal.returns-then-len-place-clause-found
returns-then-len-place-clause-found c =
    many_characters c.args.bytes.now c.args.cells.now.items c.len.result c.in-Some.length c.in-Some.place c.new-scalars.result.items c.read_characters.new.scalars.items c.in_ok-more.field-0 (omega arith) c.in-Some.ensures.found c.new-scalars.ensures.items c.in_ok-more.ensures.found (omega arith)

pub returns-clause-found : goal.returns-clause-found
returns-clause-found c =
    run_found c.args.bytes.now c.args.cells.now.items c.put_run.new.cells.items c.len.result c.in-Some.length c.in-Some-2.more c.in-Some.place c.new-scalars.result.items c.read_characters.new.scalars.items c.in_ok-more.field-0 (omega arith) c.in-Some.ensures.found c.new-scalars.ensures.items c.in_ok-more.ensures.found c.in-Some-2.is
    (c.in_ok-put_run.ensures ∙ ap (λ (xs : List ℕ). with_run c.args.cells.now.items c.in-Some.place xs) c.as_slice.ensures.value)

pub returns-clause-shown : goal.returns-clause-shown
returns-clause-shown c = λ before.
    let valid : list_all scalar c.read_characters.new.scalars.items ≡ true = c.in_ok-more.ensures.good (ap (λ (xs : List ℕ). list_all scalar xs) c.new-scalars.ensures.items) in
    let put : c.put_run.new.cells.items ≡ with_run c.args.cells.now.items c.in-Some.place c.read_characters.new.scalars.items = c.in_ok-put_run.ensures ∙ ap (λ (xs : List ℕ). with_run c.args.cells.now.items c.in-Some.place xs) c.as_slice.ensures.value in
    ap (λ (cells : List Cell). list_all is_shown cells) put ∙ shown_run c.args.cells.now.items c.in-Some.place c.read_characters.new.scalars.items c.in-Some.ensures.stands.colours valid before
