use Rattle.std.proofs.Common.{drop, ◌∙◌, ap, rules, arith}
use Rattle.mh_layout.proofs.TextLemmas.{drop_one, none_behind}
use Rattle.mh_layout.proofs.lines.Lines.skip.Goals as goal

pub returns-then-is_none : goal.returns-then-is_none
returns-then-is_none c =
    none_behind c.loop.counter c.args.count c.args.self.now c.loop.self c.next.new.self c.next.result c.loop.invariant c.next.ensures.first (search rules) c.next.ensures.rest (omega (arith, c.loop-test.true))

pub loop-preserved : goal.loop-preserved
loop-preserved c = c.next.ensures.rest ∙ ap (drop 1) c.loop.invariant ∙ drop_one c.loop.counter c.args.self.now
