use Rattle.std.proofs.Common.{sym, ◌∙◌}
use Rattle.mh_alive.proofs.HearLemmas.{deaf}
use Rattle.mh_alive.proofs.alive.Alive.never_hears.Goals as goal

pub returns-clause-law : goal.returns-clause-law
returns-clause-law c = λ never most v k is. deaf most v k c.args.self.now c.args.at.now is (sym c.is_deaf.ensures ∙ never)
