use Rattle.std.proofs.Common.{length}
use Rattle.mh_base.proofs.group_name.+has_good_parts.Given as goal

abbrev pub decreases-has_good_parts : goal.decreases-has_good_parts
decreases-has_good_parts l = length l.bytes.now
