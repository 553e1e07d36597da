use Rattle.mh_group.proofs.SameLemmas.{group_same, group_itself}
use Rattle.mh_group.proofs.same.same_group_decides.Goals as goal

pub returns : goal.returns
returns c = (group_same, group_itself)
