-- Batches, written out as the items that they stand for.
use Rattle.std.specs.Prelude.{List, [], ◌∷◌}
use Rattle.std.specs.List.{flat_map}
use Rattle.mh_model.specs.declared.item.Item.{Item}
use Rattle.mh_model.specs.Items.{acts}
use Rattle.mh_work.specs.declared.batch.Batch.{Batch}
use Rattle.mh_work.specs.declared.batch.Batch.TheVariants as batch

abbrev pub items_of : Batch → List Item
items_of (batch.Acts effect) = acts effect
items_of (batch.One i) = i ∷ []

abbrev pub written : List Batch → List Item
written ps = flat_map items_of ps
