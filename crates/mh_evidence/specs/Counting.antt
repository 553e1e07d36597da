-- Counting: an action is found by its number where those before it are counted off, effect by effect.
use Rattle.std.specs.Prelude.{ℕ, ◌-◌, List, [], ◌∷◌, length, slice_get, Option, Some, None}
use Rattle.std.specs.declared.ops.ControlFlow.{ControlFlow}
use Rattle.std.specs.declared.ops.ControlFlow.TheVariants.{Break, Continue}
use Rattle.mh_base.specs.declared.obj_ref.ObjRef.{ObjRef}
use Rattle.mh_model.specs.declared.act.Act.{Act}
use Rattle.mh_flow.specs.Sites.{Site}

-- the site that is sought, or how many actions come before it still
abbrev pub Count : Type 0
Count = ControlFlow Site ℕ

abbrev pub counted_at : ObjRef → ℕ → ℕ → List Act → Option Act → Count
counted_at k n left acts None = Continue (left - length acts)
counted_at k n left acts (Some a) = Break (record { key = k; index = n; first = n - left; act = a })

-- an effect of the object is counted off, where so many actions come before that with this number
unfoldable pub counted : ObjRef → ℕ → ℕ → List Act → Count
counted k n left acts = counted_at k n left acts (slice_get acts left)

-- what is counted off behind it
abbrev pub then_count : Count → (ℕ → Count) → Count
then_count (Break x) f = Break x
then_count (Continue left) f = f left

abbrev pub all_counted : ObjRef → ℕ → ℕ → List (List Act) → Count
all_counted k n left [] = Continue left
all_counted k n left (e ∷ es) = then_count (counted k n left e) (λ m. all_counted k n m es)
