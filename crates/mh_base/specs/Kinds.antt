-- The kinds of values.
use Rattle.std.specs.Prelude.{List, [], ◌∷◌}
use Rattle.mh_base.specs.declared.value.Kind.{Kind}
use Rattle.mh_base.specs.declared.value.Kind.TheVariants as kind

abbrev pub kinds : List Kind
kinds = kind.Bool ∷ kind.Int ∷ kind.Octets ∷ kind.Object ∷ kind.Content ∷ []
