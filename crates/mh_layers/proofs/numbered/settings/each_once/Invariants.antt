use Rattle.std.proofs.Common.{◌≡◌, [], drop}
use Rattle.indexmap.specs.IndexSet.{insert_all}
use Rattle.mh_layers.specs.Reading.{same_setting}
use Rattle.mh_layers.proofs.numbered.settings.each_once.Given as goal

abbrev pub invariant-loop-config : goal.invariant-loop-config
invariant-loop-config l =
    insert_all same_setting l.configs.keys (drop l.config-index l.all) ≡ insert_all same_setting [] l.all
