-- The items of a list group, and which of them comes first.
use Rattle.std.specs.Prelude.{ℕ, List, [], Option, Some, None}
use Rattle.mh_model.specs.declared.object.listing.Entry.{Entry}

-- the items in order, and the number of the one in the first cell, from 1 on
pub record Listed : Type 0 where
  pub entries : List Entry
  pub first : ℕ

abbrev pub entries_of : Option (List Entry) → List Entry
entries_of None = []
entries_of (Some es) = es
