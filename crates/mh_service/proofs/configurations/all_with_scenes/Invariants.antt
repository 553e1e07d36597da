use Rattle.std.proofs.Common.{◌≡◌, ◌++◌, drop}
use Rattle.std.specs.List.{flat_map}
use Rattle.mh_model.specs.Configuration.{with_scenes}
use Rattle.mh_service.proofs.configurations.all_with_scenes.Given as goal

abbrev pub invariant-loop-app : goal.invariant-loop-app
invariant-loop-app l = l.configs.items ++ flat_map (with_scenes l.scenes) (drop l.app-index l.applications) ≡ flat_map (with_scenes l.scenes) l.applications
