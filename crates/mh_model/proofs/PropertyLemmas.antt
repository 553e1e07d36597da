-- What is held under an attribute, by the place at which it stands.
use Rattle.std.specs.Prelude.{◌≡◌, ℕ, List, [], ◌∷◌, ◌++◌, Some, None, slice_set, slice_index_or}
use Rattle.std.specs.List.{position}
use Rattle.std.specs.Option.{option_map}
use Rattle.std.proofs.Common.{ap, sym}
use Rattle.mh_group.specs.declared.attribute.Attribute.{Attribute}
use Rattle.mh_model.specs.declared.held.Property.{Property}
use Rattle.mh_model.specs.Property.{held, with_held, is_of}
use Rattle.mh_model.proofs.FirstLemmas.{first-position, none-position}

pub held-at : (a : Attribute) (ps : List Property) (i : ℕ) (d : Property) → position (is_of a) ps ≡ Some i → Some (slice_index_or ps i d).held ≡ held a ps
held-at a ps i d found =
    let hit = first-position (is_of a) ps i found in
    sym (ap (option_map (λ (p : Property). p.held)) (hit.found d))

pub held-none : (a : Attribute) (ps : List Property) → position (is_of a) ps ≡ None → None ≡ held a ps
held-none a ps none =
    let missing = none-position (is_of a) ps none in
    sym (ap (option_map (λ (p : Property). p.held)) missing.found)

pub with_held-at : (x : Property) (ps : List Property) (i : ℕ) → position (is_of x.attribute) ps ≡ Some i → slice_set ps i x ≡ with_held x.attribute x.held ps
with_held-at x ps i found =
    let hit = first-position (is_of x.attribute) ps i found in
    sym (hit.put x)

pub with_held-new : (x : Property) (ps : List Property) → position (is_of x.attribute) ps ≡ None → ps ++ x ∷ [] ≡ with_held x.attribute x.held ps
with_held-new x ps none =
    let missing = none-position (is_of x.attribute) ps none in
    sym (missing.put x)
