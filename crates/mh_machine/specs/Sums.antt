-- What comes of a sum of the number that was found.
use Rattle.std.specs.Prelude.{◌≡◌, Bool, true, false, List, [], ◌∷◌, Option, Some, None, ℤ}
use Rattle.mh_base.specs.declared.value.Value.TheVariants as value
use Rattle.mh_group.specs.declared.action_name.ActionName.{ActionName}
use Rattle.mh_group.specs.declared.class.Class.TheVariants as class
use Rattle.mh_model.specs.declared.object.Object.{Object}
use Rattle.mh_model.specs.Bodies.{changed_by, given}
use Rattle.mh_machine.specs.declared.stepping.summing.Sum.{Sum}
use Rattle.mh_machine.specs.declared.stepping.summing.Sum.TheVariants as sum
use Rattle.mh_machine.specs.ByClass.{is_sum}

-- what becomes of the body of the number
abbrev pub Becomes : ActionName → ℤ → Object → Sum → Type 0
Becomes n m o sum.Other = Unit {0}
Becomes n m o sum.Stays = changed_by n (value.Int m ∷ []) o.fixed o.body ≡ o.body
Becomes n m o (sum.Comes x) = changed_by n (value.Int m ∷ []) o.fixed o.body ≡ given x o.body

-- the action is a sum, and what was found is a number
pub record IsNumber (n : ActionName) (o : Object) : Type 0 where
  pub sums : is_sum n ≡ true
  pub number : o.fixed.class ≡ class.IntegerVar

abbrev pub NumberIf : ActionName → Object → Sum → Type 0
NumberIf n o sum.Other = Unit {0}
NumberIf n o sum.Stays = IsNumber n o
NumberIf n o (sum.Comes x) = IsNumber n o

abbrev pub IsSum : ActionName → ℤ → Option Object → Sum → Type 0
IsSum n m None sum.Other = Unit {0}
IsSum n m None sum.Stays = false ≡ true
IsSum n m None (sum.Comes x) = false ≡ true
IsSum n m (Some o) s = NumberIf n o s × Becomes n m o s
