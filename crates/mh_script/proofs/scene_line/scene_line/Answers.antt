use Rattle.std.proofs.Common.{◌∙◌, sym}
use Rattle.mh_script.proofs.ScriptLemmas.{scene_parted}
use Rattle.mh_script.proofs.scene_line.scene_line.Goals as goal

pub returns-in-Some : goal.returns-in-Some
returns-in-Some c =
    scene_parted c.brought_line.result c.args.tags.now c.args.service.now.files c.args.words.now c.in-Some.at (sym c.first_space.ensures ∙ c.in-Some.is) c.brought_line.ensures
