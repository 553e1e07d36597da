use Rattle.std.proofs.Common.{rules}
use Rattle.mh_display.proofs.SpoilLemmas.{not_seen, box_spoilt}
use Rattle.mh_display.proofs.spoiling.spoil_object.Goals as goal

pub returns-then-not-is_seen : goal.returns-then-not-is_seen
returns-then-not-is_seen c = not_seen c.args.object.now _ (search rules)

pub returns : goal.returns
returns c = box_spoilt c.args.object.now c.area_of-area.result c.of.result _ _ _ (search rules) (search rules) c.of-2.ensures c.spoil_rows.ensures
