use Rattle.std.specs.Prelude.{take}
use Rattle.mh_told.proofs.LineLemmas.{one_column, two_columns}
use Rattle.mh_told.proofs.line.put_column.Goals as goal

pub returns-then-column-lt10-clause-front : goal.returns-then-column-lt10-clause-front
returns-then-column-lt10-clause-front c = one_column (take c.args.at c.args.line.now) _ c.args.column c.if-column-lt10.true c.put_byte.ensures.front

pub returns-clause-front : goal.returns-clause-front
returns-clause-front c = two_columns (take c.args.at c.args.line.now) _ _ c.args.column c.if-column-lt10.false c.requires.wide c.put_byte-at.ensures.front c.put_byte-2.ensures.front
