-- An item that is selected, or no longer is, by its place.
use Rattle.std.specs.Prelude.{◌≡◌, ℕ, zero, suc, Bool, List, [], ◌∷◌, slice_index_or, slice_set, refl}
use Rattle.std.proofs.Common.{ap}
use Rattle.mh_model.specs.declared.object.listing.Entry.{Entry}
use Rattle.mh_model.specs.Lists.{marked_at}

abbrev marked : Bool → Entry → Entry
marked on e = record e { selected = on }

pub marked_there : (k : ℕ) (on : Bool) (es : List Entry) (e : Entry) → e ≡ slice_index_or es k e → slice_set es k (marked on e) ≡ marked_at k on es
marked_there k on [] e is = refl
marked_there zero on (x ∷ es) e is = ap (λ (t : Entry). marked on t ∷ es) is
marked_there (suc k) on (x ∷ es) e is = ap (λ (t : List Entry). x ∷ t) (marked_there k on es e is)
