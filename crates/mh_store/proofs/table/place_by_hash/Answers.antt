use Rattle.std.specs.Prelude.{unwrap_or}
use Rattle.std.proofs.Common.{ap, sym, subst, ◌∙◌}
use Rattle.mh_store.specs.Table.{IsPlace}
use Rattle.mh_store.proofs.PlaceLemmas.{place_or_behind}
use Rattle.mh_store.proofs.table.place_by_hash.Goals as goal

pub returns : goal.returns
returns c = subst (IsPlace c.args.at c.args.table.now.entries) (ap (unwrap_or c.get_index_of.result) (sym c.len-behind.ensures.len) ∙ sym c.unwrap_or.ensures) (place_or_behind c.args.at c.args.table.now.entries c.get_index_of.result c.get_index_of.ensures.index c.get_index_of.ensures.found)
