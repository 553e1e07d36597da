use Rattle.std.proofs.Common.{◌∙◌}
use Rattle.mh_carousel.proofs.FileLemmas.{lookup-content}
use Rattle.mh_carousel.proofs.files.content.Goals as goal

pub returns : goal.returns
returns c = c.get.ensures.value ∙ lookup-content c.args.name.now c.args.files.now.entries
