use Rattle.std.proofs.Common.{ℕ, List, sym, subst}
use Rattle.std.specs.List.{Contains}
use Rattle.mh_flow.specs.Gathering.{view}
use Rattle.mh_flow.proofs.StepLemmas.{same_step, nothing_opened, placed, unplaced}
use Rattle.mh_flow.proofs.fixpoint.gathered.Gathered.open_row.Goals as goal

pub open_each-requires-clause-known : goal.open_each-requires-clause-known
open_each-requires-clause-known g c q h =
    c.requires.known.1 q (unplaced c.args.row.now c.in_ok-members.members.items q c.in_ok-members.ensures (subst (λ (t : List ℕ). Contains t q) c.as_slice.ensures.value h))

pub returns-clause-opened : goal.returns-clause-opened
returns-clause-opened g c q h =
    c.in_ok-open_each.ensures.opened q (subst (λ (t : List ℕ). Contains t q) (sym c.as_slice.ensures.value) (placed c.args.row.now c.in_ok-members.members.items q c.in_ok-members.ensures h))

pub returns-then-not-opens_at-clause-step : goal.returns-then-not-opens_at-clause-step
returns-then-not-opens_at-clause-step g c = same_step (g.R.Rules.system c.args.rules.now) (view c.args.self.now)

pub returns-then-not-opens_at-clause-opened : goal.returns-then-not-opens_at-clause-opened
returns-then-not-opens_at-clause-opened g c = nothing_opened (g.R.Rules.system c.args.rules.now) (view c.args.self.now) c.args.node c.args.row.now (c.opens_at.ensures c.if-not-opens_at.true)
