use Rattle.std.proofs.Common.{arith}
use Rattle.mh_flow.specs.declared.fixpoint.constraints.Item.TheVariants as item
use Rattle.mh_flow.specs.Gathering.{view}
use Rattle.mh_flow.proofs.StepLemmas.{then_step, followed}
use Rattle.mh_flow.proofs.fixpoint.gathered.Gathered.follow.Goals as goal

pub spread-requires-clause-known : goal.spread-requires-clause-known
spread-requires-clause-known g c =
    (omega (arith, c.requires.known.0, c.requires.sound.words, c.in_ok-open_row.ensures.sound.words), λ q h. c.in_ok-open_row.ensures.step.grows (item.Member (record { node = c.args.node; member = q })) (c.requires.known.1 q h))

pub returns-clause-step : goal.returns-clause-step
returns-clause-step g c = then_step (g.R.Rules.system c.args.rules.now) (view c.args.self.now) (view c.open_row.new.self) (view c.spread.new.self) c.in_ok-open_row.ensures.step c.in_ok-spread.ensures.step

pub returns-clause-closed : goal.returns-clause-closed
returns-clause-closed g c k =
    followed (g.R.Rules.system c.args.rules.now) (view c.spread.new.self) c.args.node c.args.row.now
    (λ q h x o. c.in_ok-spread.ensures.step.grows x (c.in_ok-open_row.ensures.opened q h x o))
    c.in_ok-spread.ensures.gone
    (c.in_ok-spread.ensures.step.keeps c.args.node c.args.row.now (c.in_ok-open_row.ensures.step.keeps c.args.node c.args.row.now k))
