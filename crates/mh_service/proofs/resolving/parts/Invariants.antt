use Rattle.std.proofs.Common.{◌≡◌, true, ◌++◌, ◌∷◌, map, drop}
use Rattle.std.specs.List.{list_all}
use Rattle.mh_service.specs.Resolved.{ingredient_leads, part_of, new_part, field_leads}
use Rattle.mh_service.proofs.resolving.parts.Given as goal

abbrev pub invariant-loop-ingredient : goal.invariant-loop-ingredient
invariant-loop-ingredient l = record {
  found : l.parts ++ map (part_of l.name) (drop l.ingredient-index l.ingredients) ≡ new_part l.name 0 l.written.class l.written.fields ∷ map (part_of l.name) l.ingredients;
  itself : list_all (field_leads l.name) l.written.fields ≡ true;
  good : list_all (ingredient_leads l.name) (drop l.ingredient-index l.ingredients) ≡ list_all (ingredient_leads l.name) l.ingredients;
}
