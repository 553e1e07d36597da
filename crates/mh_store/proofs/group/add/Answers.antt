use Rattle.std.proofs.Common.{◌∙◌, ap}
use Rattle.mh_store.proofs.FreshLemmas.{insert_entry-entry_of}
use Rattle.mh_store.proofs.group.add.Goals as goal

pub returns : goal.returns
returns c = c.in_ok-insert.ensures.entries ∙ insert_entry-entry_of c.args.table.now c.args.part.now _ c.in_ok-object.object (ap (λ p. p.key.number) c.get.ensures) c.in_ok-object.ensures c.requires
