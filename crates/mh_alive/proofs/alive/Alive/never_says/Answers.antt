use Rattle.std.proofs.Common.{sym, ◌∙◌}
use Rattle.std.specs.Option.{option_copied}
use Rattle.mh_alive.proofs.SayLemmas.{unsaid}
use Rattle.mh_alive.proofs.alive.Alive.never_says.Goals as goal

pub returns-clause-law : goal.returns-clause-law
returns-clause-law c = λ never v w is accepted. unsaid v w c.args.self.now c.args.kind (option_copied c.args.value) is accepted (sym c.is_unsaid.ensures ∙ never)
