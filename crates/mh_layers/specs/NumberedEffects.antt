-- The effects of an object by their numbers, and the numbers of their actions.
use Rattle.std.specs.Prelude.{ℕ, ◌+◌, List, [], ◌∷◌, length}
use Rattle.std.specs.Option.{option_map_or}
use Rattle.mh_base.specs.declared.obj_ref.ObjRef.{ObjRef}
use Rattle.mh_model.specs.declared.act.Act.{Act}
use Rattle.mh_model.specs.Service.{Service, group_parts, part_at}
use Rattle.mh_laws.specs.Costs.{effects}

-- the number of the first action of each of these effects, where the first of all has this one; behind them that of the
-- action that would come next
abbrev pub first_numbers : ℕ → List (List Act) → List ℕ
first_numbers n [] = n ∷ []
first_numbers n (e ∷ es) = n ∷ first_numbers (n + length e) es

-- the effects of the object that the service has at the reference; none where it has none
abbrev pub effects_at : Service → ObjRef → List (List Act)
effects_at v r = option_map_or effects (part_at r (group_parts v r.group)) []
