use Rattle.std.proofs.Common.{◌∙◌, sym}
use Rattle.mh_script.proofs.ScriptLemmas.{file_parted}
use Rattle.mh_script.proofs.script.file_line.Goals as goal

pub returns-in-Some : goal.returns-in-Some
returns-in-Some c = file_parted c.named_line.result c.args.words.now c.in-Some.at (sym c.first_space.ensures ∙ c.in-Some.is) c.named_line.ensures
