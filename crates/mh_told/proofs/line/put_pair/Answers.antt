use Rattle.std.specs.Prelude.{take}
use Rattle.mh_told.proofs.LineLemmas.{pair_put}
use Rattle.mh_told.proofs.line.put_pair.Goals as goal

pub returns-clause-front : goal.returns-clause-front
returns-clause-front c =
    pair_put (take c.args.at c.args.line.now) _ _ c.args.byte c.digit_at-high.result c.digit_at-low.result c.requires.small c.digit_at-high.ensures c.digit_at-low.ensures
    c.put_byte-at.ensures.front c.put_byte.ensures.front
