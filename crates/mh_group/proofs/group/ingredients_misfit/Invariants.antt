use Rattle.std.proofs.Common.{◌≡◌, drop}
use Rattle.mh_group.specs.Fit.{ingredients_misfit}
use Rattle.mh_group.proofs.group.ingredients_misfit.Given as goal

abbrev pub invariant-loop-ingredient : goal.invariant-loop-ingredient
invariant-loop-ingredient l = ingredients_misfit (drop l.ingredient-index l.ingredients) ≡ ingredients_misfit l.ingredients
