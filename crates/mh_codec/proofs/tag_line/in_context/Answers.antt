use Rattle.std.proofs.Common.{◌∙◌, sym}
use Rattle.mh_codec.proofs.LineLemmas.{parted}
use Rattle.mh_codec.proofs.tag_line.in_context.Goals as goal

pub returns-in-Some : goal.returns-in-Some
returns-in-Some c = parted c.args.context _ c.args.words.now c.in-Some.at (sym c.first_space.ensures ∙ c.in-Some.is) c.naming.ensures
