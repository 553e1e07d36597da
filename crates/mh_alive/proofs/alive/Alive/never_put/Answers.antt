use Rattle.std.proofs.Common.{sym, ◌∙◌}
use Rattle.mh_alive.proofs.InputLemmas.{unput}
use Rattle.mh_alive.proofs.alive.Alive.never_put.Goals as goal

pub returns-clause-law : goal.returns-clause-law
returns-clause-law c = λ never most v k is. unput most v k c.args.self.now c.args.at.now is (sym c.is_unput.ensures ∙ never)
