use Rattle.mh_told.specs.Reading.{late_lines}
use Rattle.mh_told.proofs.LateLemmas.{once_scenes}
use Rattle.mh_told.proofs.late.with_names.Goals as goal

-- what the lines name are scenes
pub marked-requires : goal.marked-requires
marked-requires c = once_scenes c.args.service (late_lines c.args.bytes.now) c.in_ok-names.names.items c.in_ok-names.ensures
