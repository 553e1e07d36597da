use Rattle.std.proofs.Common.{sym}
use Rattle.mh_store.proofs.PlaceLemmas.{own_place}
use Rattle.mh_store.proofs.table.place_of.Goals as goal

pub returns-in-Some : goal.returns-in-Some
returns-in-Some c = own_place c.args.at c.likely_place-likely.result c.args.table.now.entries (c.in-Some.own.now, c.in-Some.field-0-1.now) c.len.ensures.unique (sym c.in-Some.ensures.entry) c.if-own-at.true
