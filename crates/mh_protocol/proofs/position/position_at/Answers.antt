use Rattle.std.proofs.Common.{◌∙◌, sym, refl, get_or}
use Rattle.mh_protocol.proofs.PositionLemmas.{lines_rise, onto_stopped, units_rise, walked}
use Rattle.mh_protocol.proofs.position.position_at.Goals as goal

pub returns-then-left-eq0 : goal.returns-then-left-eq0
returns-then-left-eq0 c = sym (onto_stopped c.args.unit c.loop-index.at c.loop-index.left _ c.if-left-eq0.true) ∙ c.loop-index.invariant.is

pub loop-index-preserved : goal.loop-index-preserved
loop-index-preserved c = record {
  lines = lines_rise c.args.unit c.loop-index.at c.behind_byte-at.result (get_or c.args.text.now c.loop-index.index 0) c.loop-index.index c.behind.result.now c.loop-index.invariant.lines c.behind_byte-at.ensures;
  units = units_rise c.args.unit c.loop-index.at c.behind_byte-at.result (get_or c.args.text.now c.loop-index.index 0) c.loop-index.index c.behind.result.now c.loop-index.invariant.units c.behind_byte-at.ensures;
  is =
      walked c.args.unit c.loop-index.at c.behind_byte-at.result c.loop-index.left c.loop-index.index (get_or c.args.text.now c.loop-index.index 0) c.args.text.now c.behind.result.now c.loop-index-test.true refl c.if-left-eq0.false c.behind_byte-at.ensures c.behind.ensures
      ∙ c.loop-index.invariant.is;
}
