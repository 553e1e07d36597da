use Rattle.std.proofs.Common.{ap}
use Rattle.mh_store.specs.Trying.{left_over}
use Rattle.mh_store.proofs.TableLemmas.{set_value-none}
use Rattle.mh_store.proofs.PlaceLemmas.{found_at, put_place}
use Rattle.mh_store.proofs.group.renew_under.Goals as goal

pub returns-in-Some-clause-done : goal.returns-in-Some-clause-done
returns-in-Some-clause-done c =
    rw c.put_boxed.ensures (put_place c.args.at c.place_of-place.result c.args.table.now.entries c.args.kept c.place_of-place.ensures)

pub returns-in-Some-clause-back : goal.returns-in-Some-clause-back
returns-in-Some-clause-back c = ap (left_over c.args.kept) (found_at c.args.at c.place_of-place.result c.args.table.now.entries _ c.place_of-place.ensures c.in-Some.ensures.value)

pub returns-in-None-clause-done : goal.returns-in-None-clause-done
returns-in-None-clause-done c =
    set_value-none c.args.at c.args.table.now.entries c.args.kept (found_at c.args.at c.place_of-place.result c.args.table.now.entries _ c.place_of-place.ensures c.in-None.ensures.value)

pub returns-in-None-clause-back : goal.returns-in-None-clause-back
returns-in-None-clause-back c = ap (left_over c.args.kept) (found_at c.args.at c.place_of-place.result c.args.table.now.entries _ c.place_of-place.ensures c.in-None.ensures.value)
