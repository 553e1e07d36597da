-- Which kinds of values, and which classes of objects, a place of an action takes.
use Rattle.std.specs.Prelude.{Bool, false, Option, Some, None}
use Rattle.std.specs.Option.{option_map_or}
use Rattle.mh_base.specs.declared.value.Kind.{Kind}
use Rattle.mh_base.specs.declared.value.Kind.TheVariants as kind
use Rattle.mh_group.specs.declared.class.Class.{Class}
use Rattle.mh_group.specs.declared.shape.Need.{Need}
use Rattle.mh_group.specs.declared.shape.Need.TheVariants as need
use Rattle.mh_group.specs.Table.{admits, is_visible}
use Rattle.mh_model.specs.Faults.{goes_with, is_content_kind, is_data_kind}
use Rattle.mh_model.specs.Variables.{same_kind, variable_kind}
use Rattle.mh_cause.specs.declared.passing.Passing.{Passing}
use Rattle.mh_cause.specs.declared.passing.Passing.TheVariants as passing
use Rattle.mh_cause.specs.declared.passing.Wanted.{Wanted}
use Rattle.mh_cause.specs.declared.passing.Wanted.TheVariants as wanted

abbrev pub passes : Passing → Kind → Bool
passes (passing.Only k) j = same_kind k j
passes passing.Content j = is_content_kind j
passes passing.Data j = is_data_kind j
passes (passing.GoesWith a to) j = goes_with a to j

-- the values that a parameter takes; none where it takes no plain value
abbrev pub passing_of : Need → Option Passing
passing_of need.Bool = Some (passing.Only kind.Bool)
passing_of need.Int = Some (passing.Only kind.Int)
passing_of need.Octets = Some (passing.Only kind.Octets)
passing_of need.Ref = Some (passing.Only kind.Object)
passing_of need.Content = Some passing.Content
passing_of need.Data = Some passing.Data
passing_of need.Event = Some (passing.Only kind.Int)
passing_of _ = None

-- variables of the class hold such values
abbrev pub holds : Passing → Class → Bool
holds p c = option_map_or (passes p) (variable_kind c) false

abbrev pub is_wanted : Wanted → Class → Bool
is_wanted (wanted.Admitting a) c = admits c a
is_wanted wanted.Visible c = is_visible c
is_wanted (wanted.Holding p) c = holds p c
