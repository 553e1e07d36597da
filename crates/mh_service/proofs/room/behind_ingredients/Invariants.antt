use Rattle.std.proofs.Common.{◌≡◌, ◌+◌, drop}
use Rattle.std.specs.List.{sum_by}
use Rattle.mh_service.specs.Limits.{ingredient_actions}
use Rattle.mh_service.proofs.room.behind_ingredients.Given as goal

abbrev pub invariant-loop-ingredient : goal.invariant-loop-ingredient
invariant-loop-ingredient l = l.left + sum_by ingredient_actions l.ingredients ≡ l.room + sum_by ingredient_actions (drop l.ingredient-index l.ingredients)
