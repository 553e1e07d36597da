use Rattle.std.proofs.Common.{ap}
use Rattle.mh_model.specs.Bodies.{given}
use Rattle.mh_store.specs.Trying.{left_over}
use Rattle.mh_store.proofs.TableLemmas.{none-under}
use Rattle.mh_store.proofs.PlaceLemmas.{found_at, changed_place}
use Rattle.mh_store.proofs.group.give_under.Goals as goal

pub returns-in-Some-clause-done : goal.returns-in-Some-clause-done
returns-in-Some-clause-done c =
    rw c.give.ensures (changed_place (λ _ b. given c.args.value b) c.args.at c.place_of-place.result c.args.table.now.entries c.in-Some.variable.now c.place_of-place.ensures c.in-Some.ensures.value)

pub returns-in-Some-clause-back : goal.returns-in-Some-clause-back
returns-in-Some-clause-back c = ap (left_over c.args.value) (found_at c.args.at c.place_of-place.result c.args.table.now.entries _ c.place_of-place.ensures c.in-Some.ensures.value)

pub returns-in-None-clause-done : goal.returns-in-None-clause-done
returns-in-None-clause-done c =
    none-under (λ _ b. given c.args.value b) c.args.at c.args.table.now.entries (found_at c.args.at c.place_of-place.result c.args.table.now.entries _ c.place_of-place.ensures c.in-None.ensures.value)

pub returns-in-None-clause-back : goal.returns-in-None-clause-back
returns-in-None-clause-back c = ap (left_over c.args.value) (found_at c.args.at c.place_of-place.result c.args.table.now.entries _ c.place_of-place.ensures c.in-None.ensures.value)
