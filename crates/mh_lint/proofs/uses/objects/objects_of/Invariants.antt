use Rattle.std.proofs.Common.{◌≡◌, ◌++◌, List}
use Rattle.std.specs.List.{flat_map}
use Rattle.mh_model.specs.declared.object.Fixed.{Fixed}
use Rattle.mh_lint.specs.Uses.{objects}
use Rattle.mh_lint.proofs.uses.objects.objects_of.Given as goal

abbrev pub invariant-loop-parts : goal.invariant-loop-parts
invariant-loop-parts l = l.objects.items ++ flat_map (λ (ps : List Fixed). ps) l.parts-iterator ≡ objects l.service
