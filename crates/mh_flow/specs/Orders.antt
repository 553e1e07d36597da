-- The order of configurations: by name of the application and of the scene, no scene before any. That of references
-- stands in the laws.
use Rattle.std.specs.Option.{option_cmp}
use Rattle.std.specs.Ordering.{nat_cmp, on, then_cmp}
use Rattle.std.specs.declared.cmp.Ordering.{Ordering}
use Rattle.std.specs.Cmp.Lexicographic.{slice_cmp}
use Rattle.mh_model.specs.declared.config.Config.{Config}

abbrev pub by_config : Config → Config → Ordering
by_config = then_cmp (on (λ c. c.app) (slice_cmp nat_cmp)) (on (λ c. c.scene) (option_cmp (slice_cmp nat_cmp)))
