use Rattle.std.proofs.Common.{◌≡◌, ◌++◌, map, drop}
use Rattle.std.specs.Prelude.{Some}
use Rattle.mh_model.specs.Configuration.{with_scenes}
use Rattle.mh_service.proofs.configurations.push_with_scenes.Given as goal

abbrev pub invariant-loop-scene : goal.invariant-loop-scene
invariant-loop-scene l = l.configs.items ++ map (λ g. record { app = l.app; scene = Some g }) (drop l.scene-index l.scenes) ≡ l.fn.configs.items ++ with_scenes l.scenes l.app
