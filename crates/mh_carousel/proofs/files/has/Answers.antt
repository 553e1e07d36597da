use Rattle.std.proofs.Common.{◌∙◌}
use Rattle.mh_carousel.proofs.FileLemmas.{lookup-has}
use Rattle.mh_carousel.proofs.files.has.Goals as goal

pub returns : goal.returns
returns c = c.contains_key.ensures ∙ lookup-has c.args.name.now c.args.files.now.entries
