use Rattle.mh_judged.proofs.ListLemmas.{kept_ok}
use Rattle.mh_judged.proofs.judged.unplayable.Goals as goal

pub returns-in_default : goal.returns-in_default
returns-in_default c = kept_ok c.unread.result (λ found list. (list, c.in_default.not-NoMemory)) c.unread.ensures
