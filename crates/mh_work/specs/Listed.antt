-- What one action puts, as a list of items.
use Rattle.std.specs.Prelude.{List, [], ◌∷◌}
use Rattle.mh_model.specs.declared.item.Item.{Item}
use Rattle.mh_model.specs.Items.{acts}
use Rattle.mh_work.specs.declared.put.Put.{Put}
use Rattle.mh_work.specs.declared.put.Put.TheVariants as put

abbrev pub listed : Put → List Item
listed put.Nothing = []
listed (put.One i) = i ∷ []
listed (put.Two i j) = i ∷ j ∷ []
listed (put.Acts effect) = acts effect
