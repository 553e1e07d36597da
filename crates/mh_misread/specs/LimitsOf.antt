-- Between which limits a value lies that is wanted.
use Rattle.std.specs.Prelude.{ℕ, Option, Some, None}
use Rattle.mh_base.specs.declared.value.Kind.{Kind}
use Rattle.mh_base.specs.declared.value.Kind.TheVariants as kind
use Rattle.mh_group.specs.declared.shape.Shape.{Shape}
use Rattle.mh_group.specs.declared.shape.Shape.TheVariants as shape
use Rattle.mh_group.specs.declared.shape.Need.TheVariants as need
use Rattle.mh_group.specs.Table.{shape_of}
use Rattle.mh_misread.specs.declared.goal.Goal.{Goal}
use Rattle.mh_misread.specs.declared.goal.Goal.TheVariants as goal
use Rattle.mh_misread.specs.declared.limits.Limits.{Limits}
use Rattle.mh_misread.specs.declared.limits.Limits.TheVariants.{Integers, Naturals, Positives, Lengths, Zero, Width, Height, Colours}
use Rattle.mh_misread.specs.declared.part.Row.{Row}
use Rattle.mh_misread.specs.declared.part.Part.{Part}
use Rattle.mh_misread.specs.declared.part.Part.TheVariants as part
use Rattle.mh_misread.specs.Goals.{part_at}

abbrev pub shape_limits : Shape → Limits
shape_limits shape.Natural = Naturals
shape_limits shape.Size = Naturals
shape_limits shape.Ref = Naturals
shape_limits shape.Length = Lengths
shape_limits shape.Screen = Width
shape_limits shape.Colour = Colours
shape_limits _ = Integers

abbrev pub second_limits : Shape → Limits
second_limits shape.Size = Naturals
second_limits shape.Screen = Height
second_limits _ = Integers

abbrev pub part_limits : Part → Limits
part_limits part.Zero = Zero
part_limits part.Number = Naturals
part_limits part.Object = Naturals
part_limits part.Target = Naturals
part_limits (part.Need need.Ref) = Naturals
part_limits (part.Need (need.Receiver k)) = Naturals
part_limits _ = Integers

abbrev pub row_limits : Row → ℕ → Limits
row_limits r n = told (part_at r n)
  where
    told : Option Part → Limits
    told (Some p) = part_limits p
    told None = Integers

abbrev pub kind_limits : Kind → Limits
kind_limits kind.Object = Naturals
kind_limits _ = Integers

-- the limits of what the goal wants
unfoldable pub limits_of : Goal → Limits
limits_of (goal.ItemNumber c) = Positives
limits_of (goal.Value c a) = shape_limits (shape_of c a)
limits_of (goal.Second c a) = second_limits (shape_of c a)
limits_of (goal.Part r n) = row_limits r n
limits_of (goal.OfKind k) = kind_limits k
limits_of goal.Variable = Naturals
limits_of _ = Integers
