use Rattle.std.proofs.Common.{◌∙◌, ap}
use Rattle.mh_carousel.specs.Carried.{files_of}
use Rattle.mh_carousel.proofs.FileLemmas.{insert-with_file}
use Rattle.mh_carousel.proofs.files.put_file.Goals as goal

pub returns : goal.returns
returns c = ap files_of c.in-Ok.ensures.entries ∙ insert-with_file c.args.file.name c.args.file.content c.args.files.now.entries
