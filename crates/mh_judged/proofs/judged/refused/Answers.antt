use Rattle.mh_judged.proofs.ListLemmas.{kept_ok}
use Rattle.mh_judged.proofs.judged.refused.Goals as goal

pub returns-in_default : goal.returns-in_default
returns-in_default c = kept_ok c.list_of.result (λ found list. (list, c.in_default.not-NoMemory)) c.list_of.ensures
