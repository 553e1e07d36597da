use Rattle.std.proofs.Common.{sym, ◌∙◌}
use Rattle.mh_alive.proofs.RunLemmas.{still}
use Rattle.mh_alive.proofs.alive.Alive.never_runs.Goals as goal

pub returns-clause-law : goal.returns-clause-law
returns-clause-law c = λ never v w is accepted. still v w c.args.self.now c.args.at.now is accepted (sym c.is_idle.ensures ∙ never)
