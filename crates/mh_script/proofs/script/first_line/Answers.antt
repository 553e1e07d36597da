use Rattle.std.proofs.Common.{◌∙◌, sym}
use Rattle.mh_script.proofs.ScriptLemmas.{lines_uncut, lines_cut}
use Rattle.mh_script.proofs.script.first_line.Goals as goal

pub returns-in-None-clause-whole : goal.returns-in-None-clause-whole
returns-in-None-clause-whole c = lines_uncut c.args.text.now (sym c.line_end.ensures ∙ c.in-None.is)

pub returns-in-Some-clause-whole : goal.returns-in-Some-clause-whole
returns-in-Some-clause-whole c = lines_cut c.args.text.now c.in-Some.at (sym c.line_end.ensures ∙ c.in-Some.is)
