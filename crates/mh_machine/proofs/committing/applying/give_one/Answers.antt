use Rattle.std.proofs.Common.{rules, ◌∙◌}
use Rattle.mh_machine.proofs.ChangeLemmas.{not_stored, is_stored}
use Rattle.mh_machine.proofs.committing.applying.give_one.Goals as goal

pub returns-then-not-fits_value-clause-given : goal.returns-then-not-fits_value-clause-given
returns-then-not-fits_value-clause-given c = not_stored c.args.gift.value c.args.gift.at c.args.stage.now.objects (search rules)

pub returns-clause-given : goal.returns-clause-given
returns-clause-given c = c.give.ensures.given ∙ is_stored c.args.gift.value c.args.gift.at c.args.stage.now.objects (search rules)
