use Rattle.std.specs.Prelude.{take}
use Rattle.mh_told.proofs.LineLemmas.{mark_put}
use Rattle.mh_told.proofs.line.put_mark.Goals as goal

pub returns-clause-front : goal.returns-clause-front
returns-clause-front c = mark_put (take c.args.at c.args.line.now) _ _ c.put_byte-at.ensures.front c.put_byte.ensures.front
