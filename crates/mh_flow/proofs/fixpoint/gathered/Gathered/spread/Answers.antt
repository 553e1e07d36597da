use Rattle.std.proofs.Common.{arith, ◌<◌, ◌∙◌, ℕ, List, length, ap, sym, subst, refl}
use Rattle.mh_flow.specs.declared.fixpoint.constraints.Item.TheVariants as item
use Rattle.mh_flow.specs.Rows.{row}
use Rattle.mh_flow.specs.Edging.{ends}
use Rattle.mh_flow.specs.Constraints.{along}
use Rattle.mh_flow.specs.Membership.{rows_of}
use Rattle.mh_flow.specs.Gathering.{view}
use Rattle.mh_flow.proofs.StepLemmas.{same_step, members_step, members_sound, row_comes, row_there, spread_next, spread_all, edge_at, derived_fits}
use Rattle.mh_flow.proofs.fixpoint.gathered.Gathered.spread.Goals as goal

pub count-place-end-requires : goal.count-place-end-requires
count-place-end-requires g c = subst (λ (n : ℕ). c.args.node < n) (sym c.requires.sound.edges) c.requires.node

pub loop-place-init : goal.loop-place-init
loop-place-init g c = record { sound = c.requires.sound; step = same_step (g.R.Rules.system c.args.rules.now) (view c.args.self.now); edges = refl; gone = λ i less q h. absurd (omega (arith, less)) }

pub end_at-to-requires-clause-from : goal.end_at-to-requires-clause-from
end_at-to-requires-clause-from g c = subst (λ (n : ℕ). c.args.node < n) (sym c.loop-place.invariant.sound.edges) c.requires.node

pub end_at-to-requires-clause-place : goal.end_at-to-requires-clause-place
end_at-to-requires-clause-place g c =
    subst (λ (n : ℕ). c.loop-place.place < n) (c.count-place-end.ensures ∙ ap (λ (es : List (List ℕ)). length (row es c.args.node)) (sym c.loop-place.invariant.edges)) c.loop-place-test.true

pub pass-requires-clause-members : goal.pass-requires-clause-members
pass-requires-clause-members g c = c.loop-place.invariant.sound.members

pub pass-requires-clause-to : goal.pass-requires-clause-to
pass-requires-clause-to g c =
    let at = edge_at (ends c.args.self.now.edges) (ends c.loop-place.self.edges) c.args.node c.loop-place.place c.end_at-to.result c.loop-place.invariant.edges (subst (λ (n : ℕ). c.loop-place.place < n) c.count-place-end.ensures c.loop-place-test.true) c.end_at-to.ensures in
    let inside = derived_fits (g.R.Rules.system c.args.rules.now) c.requires.fit (item.Edge c.args.node c.end_at-to.result) (c.loop-place.invariant.sound.derived (item.Edge c.args.node c.end_at-to.result) at.1) in
    subst (λ (n : ℕ). c.end_at-to.result < n) (sym c.loop-place.invariant.sound.height) inside.1

pub pass-requires-clause-row : goal.pass-requires-clause-row
pass-requires-clause-row g c = omega (arith, c.requires.known.0, c.requires.sound.words, c.loop-place.invariant.sound.words)

pub loop-place-preserved : goal.loop-place-preserved
loop-place-preserved g c =
    let at = edge_at (ends c.args.self.now.edges) (ends c.loop-place.self.edges) c.args.node c.loop-place.place c.end_at-to.result c.loop-place.invariant.edges (subst (λ (n : ℕ). c.loop-place.place < n) c.count-place-end.ensures c.loop-place-test.true) c.end_at-to.ensures in
    let before = view c.loop-place.self in
    let after = rows_of c.pass.new.self in
    spread_next (g.R.Rules.system c.args.rules.now) c.args.node c.args.row.now c.loop-place.place c.end_at-to.result (view c.args.self.now) before (record before { members = after }) c.loop-place.invariant at.0
    (members_sound (g.R.Rules.system c.args.rules.now) after before _ c.loop-place.invariant.sound c.in_ok-pass.ensures.members c.in_ok-pass.ensures.put
    (row_comes (g.R.Rules.system c.args.rules.now) c.end_at-to.result c.args.row.now
    (λ q h. along c.args.node c.end_at-to.result q (c.loop-place.invariant.sound.derived (item.Edge c.args.node c.end_at-to.result) at.1)
    (c.loop-place.invariant.sound.derived (item.Member (record { node = c.args.node; member = q })) (c.loop-place.invariant.step.grows (item.Member (record { node = c.args.node; member = q })) (c.requires.known.1 q h))))))
    (members_step (g.R.Rules.system c.args.rules.now) before (record before { members = after }) _ c.in_ok-pass.ensures.put refl) refl
    (row_there (rows_of c.loop-place.self.members) after c.end_at-to.result c.args.row.now c.in_ok-pass.ensures.put)

pub returns-clause-sound : goal.returns-clause-sound
returns-clause-sound g c = c.loop-place.invariant.sound

pub returns-clause-step : goal.returns-clause-step
returns-clause-step g c = c.loop-place.invariant.step

pub returns-clause-gone : goal.returns-clause-gone
returns-clause-gone g c =
    spread_all (g.R.Rules.system c.args.rules.now) c.args.node c.args.row.now c.loop-place.place (view c.args.self.now) (view c.loop-place.self) c.loop-place.invariant (omega (arith, c.loop-place-test.false, c.count-place-end.ensures))
