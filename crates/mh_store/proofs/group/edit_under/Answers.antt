use Rattle.std.proofs.Common.{ap}
use Rattle.mh_model.specs.Edits.{edited}
use Rattle.mh_store.specs.Trying.{left_over}
use Rattle.mh_store.proofs.TableLemmas.{none-under, on_error}
use Rattle.mh_store.proofs.PlaceLemmas.{found_at, changed_place, same_place}
use Rattle.mh_store.proofs.group.edit_under.Goals as goal

pub returns-in_ok-edit-in-Some-clause-done : goal.returns-in_ok-edit-in-Some-clause-done
returns-in_ok-edit-in-Some-clause-done c =
    rw c.in_ok-edit-in-Some.ensures.done (changed_place (edited c.args.edit) c.args.at c.place_of-place.result c.args.table.now.entries c.in-Some.kept.now c.place_of-place.ensures c.in-Some.ensures.value)

pub returns-in_ok-edit-in-Some-clause-back : goal.returns-in_ok-edit-in-Some-clause-back
returns-in_ok-edit-in-Some-clause-back c = ap (left_over c.args.edit) (found_at c.args.at c.place_of-place.result c.args.table.now.entries _ c.place_of-place.ensures c.in-Some.ensures.value)

pub returns-in_err-edit-in-Some-clause-kept : goal.returns-in_err-edit-in-Some-clause-kept
returns-in_err-edit-in-Some-clause-kept c =
    on_error c.from_residual.result (rw c.in_err-edit-in-Some.ensures.kept (same_place c.args.at c.place_of-place.result c.args.table.now.entries c.in-Some.kept.now c.place_of-place.ensures c.in-Some.ensures.value))

pub returns-in-None-clause-done : goal.returns-in-None-clause-done
returns-in-None-clause-done c =
    none-under (edited c.args.edit) c.args.at c.args.table.now.entries (found_at c.args.at c.place_of-place.result c.args.table.now.entries _ c.place_of-place.ensures c.in-None.ensures.value)

pub returns-in-None-clause-back : goal.returns-in-None-clause-back
returns-in-None-clause-back c = ap (left_over c.args.edit) (found_at c.args.at c.place_of-place.result c.args.table.now.entries _ c.place_of-place.ensures c.in-None.ensures.value)
