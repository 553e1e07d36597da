use Rattle.std.specs.Prelude.{take}
use Rattle.mh_told.proofs.LineLemmas.{colour_put}
use Rattle.mh_told.proofs.line.put_colour.Goals as goal

pub returns-clause-front : goal.returns-clause-front
returns-clause-front c = colour_put (take c.args.at c.args.line.now) _ _ _ c.args.colour c.put_pair-at.ensures.front c.put_pair-at-2.ensures.front c.put_pair.ensures.front
