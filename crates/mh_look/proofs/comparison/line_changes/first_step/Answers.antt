use Rattle.std.proofs.Common.{◌∙◌, sym}
use Rattle.mh_look.proofs.StepsLemmas.{steps_uncut, steps_cut}
use Rattle.mh_look.proofs.comparison.line_changes.first_step.Goals as goal

pub returns-in-None-clause-whole : goal.returns-in-None-clause-whole
returns-in-None-clause-whole c = steps_uncut c.args.parts.now (sym c.first_frame.ensures ∙ c.in-None.is)

pub returns-in-Some-clause-whole : goal.returns-in-Some-clause-whole
returns-in-Some-clause-whole c = steps_cut c.args.parts.now c.in-Some.at (sym c.first_frame.ensures ∙ c.in-Some.is)
