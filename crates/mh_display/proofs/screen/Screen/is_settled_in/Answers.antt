use Rattle.std.proofs.Common.{rules, arith, bit_and, subst}
use Rattle.mh_display.specs.Surface.{Surface}
use Rattle.mh_display.proofs.BitLemmas.{fewer}
use Rattle.mh_display.proofs.RowBitLemmas.{AreToSee, fits_to_see, first_to_see, lowest_to_see, next_to_see, none_to_see}
use Rattle.mh_display.proofs.screen.Screen.is_settled_in.Goals as goal

pub loop-left-init : goal.loop-left-init
loop-left-init c =
    let s : Surface = record { planes = c.self.inside.picture; marks = c.self.inside.stale; bare = c.self.inside.bare } in (
      fits_to_see c.self.inside.rows c.stretch.result c.stretch.type_inv,
      subst (λ (t : Surface). AreToSee t c.args.window.now (bit_and c.self.inside.rows c.stretch.result)) c.self.view_is (first_to_see s c.args.window.now c.self.inside.rows c.stretch.result c.self.invariant.within c.stretch.ensures),
    )

pub stale_in-requires-clause-low : goal.stale_in-requires-clause-low
stale_in-requires-clause-low c =
    omega (arith, lowest_to_see c.args.self.now c.args.window.now c.loop-left.left c.lowest-row.result (search rules) c.loop-left.invariant.0 c.lowest-row.ensures c.loop-left.invariant.1, c.requires.low)

pub without-left-requires : goal.without-left-requires
without-left-requires c =
    omega (arith, lowest_to_see c.args.self.now c.args.window.now c.loop-left.left c.lowest-row.result (search rules) c.loop-left.invariant.0 c.lowest-row.ensures c.loop-left.invariant.1, c.requires.low)

pub loop-left-smaller : goal.loop-left-smaller
loop-left-smaller c = fewer c.loop-left.left c.lowest-row.result c.without-left.result (search rules) c.loop-left.invariant.0 c.lowest-row.ensures c.without-left.ensures

pub loop-left-preserved : goal.loop-left-preserved
loop-left-preserved c = (
  c.without-left.type_inv,
  next_to_see c.args.self.now c.args.window.now c.loop-left.left c.lowest-row.result c.without-left.result c.stale_in.result (search rules) c.loop-left.invariant.0 c.lowest-row.ensures c.without-left.ensures c.stale_in.ensures (search rules) c.loop-left.invariant.1,
)

pub returns : goal.returns
returns c = λ e. none_to_see c.args.self.now c.args.window.now c.loop-left.left (search rules) c.loop-left.invariant.1
