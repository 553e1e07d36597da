-- Which groups are wanted, by their class.
use Rattle.std.specs.Prelude.{Bool}
use Rattle.mh_group.specs.declared.class.Class.{Class}
use Rattle.mh_group.specs.Table.{is_scene, is_application}
use Rattle.mh_service.specs.declared.configurations.Wanted.{Wanted}
use Rattle.mh_service.specs.declared.configurations.Wanted.TheVariants as wanted

abbrev pub is_wanted : Wanted → Class → Bool
is_wanted wanted.Applications c = is_application c
is_wanted wanted.Scenes c = is_scene c
