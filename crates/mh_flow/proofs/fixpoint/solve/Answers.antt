use Rattle.std.proofs.Common.{arith, ◌++◌, ◌<◌, ◌^◌, [], ap, ◌∙◌, sym, subst, ℕ, List}
use Rattle.std.specs.List.{Contains}
use Rattle.mh_flow.specs.declared.fixpoint.constraints.Item.{Item}
use Rattle.mh_flow.specs.Constraints.{begun}
use Rattle.mh_flow.specs.Gathering.{view, IsBegun}
use Rattle.mh_flow.specs.Membership.{MemberRows, rows_of}
use Rattle.mh_flow.specs.Sets.{IsLeast}
use Rattle.mh_flow.proofs.FixpointLemmas.{begun_sound, begun_closed, taken_sound, taken_known, taken_within, taken_closed, taken_in, solved}
use Rattle.mh_flow.proofs.fixpoint.solve.Goals as goal

pub put_each-requires-clause-sound : goal.put_each-requires-clause-sound
put_each-requires-clause-sound g c = begun_sound (g.R.Rules.system c.args.rules.now) (view c.in_ok-gathered.gathered) (subst (λ (n : ℕ). n < 2 ^ 64) c.width.ensures c.width.type_inv) (subst (λ (n : ℕ). IsBegun n (g.R.Rules.system c.args.rules.now).width (view c.in_ok-gathered.gathered)) c.nodes.ensures (subst (λ (w : ℕ). IsBegun c.nodes.result w (view c.in_ok-gathered.gathered)) c.width.ensures c.in_ok-gathered.ensures))

pub put_each-requires-clause-derived : goal.put_each-requires-clause-derived
put_each-requires-clause-derived g c x h = begun x (subst (λ (t : List Item). Contains t x) (c.as_slice.ensures.value ∙ c.in_ok-starts.ensures ∙ ap (λ (t : List Item). t ++ (g.R.Rules.system c.args.rules.now).starts) c.new-items.ensures.items) h)

pub loop-node-init : goal.loop-node-init
loop-node-init g c = record {
  sound = c.in_ok-put_each.ensures.sound;
  starts = λ x h. c.in_ok-put_each.ensures.put x (subst (λ (t : List Item). Contains t x) (sym (c.as_slice.ensures.value ∙ c.in_ok-starts.ensures ∙ ap (λ (t : List Item). t ++ (g.R.Rules.system c.args.rules.now).starts) c.new-items.ensures.items)) h);
  closed = c.in_ok-put_each.ensures.step.keeps 0 [] (begun_closed (g.R.Rules.system c.args.rules.now) (view c.in_ok-gathered.gathered) (subst (λ (n : ℕ). IsBegun n (g.R.Rules.system c.args.rules.now).width (view c.in_ok-gathered.gathered)) c.nodes.ensures (subst (λ (w : ℕ). IsBegun c.nodes.result w (view c.in_ok-gathered.gathered)) c.width.ensures c.in_ok-gathered.ensures)));
}

pub follow-requires-clause-sound : goal.follow-requires-clause-sound
follow-requires-clause-sound g c = taken_sound (g.R.Rules.system c.args.rules.now) (view c.loop-node.gathered) (rows_of c.take_waiting.new.self) c.in-Some.node c.in-Some.row c.in-Some.ensures.some c.loop-node.invariant.sound

pub follow-requires-clause-node : goal.follow-requires-clause-node
follow-requires-clause-node g c = taken_within (g.R.Rules.system c.args.rules.now) (view c.loop-node.gathered) (rows_of c.take_waiting.new.self) c.in-Some.node c.in-Some.row c.in-Some.ensures.some c.loop-node.invariant.sound

pub follow-requires-clause-known : goal.follow-requires-clause-known
follow-requires-clause-known g c = taken_known (g.R.Rules.system c.args.rules.now) (view c.loop-node.gathered) (rows_of c.take_waiting.new.self) c.in-Some.node c.in-Some.row c.in-Some.ensures.some c.loop-node.invariant.sound

pub loop-node-smaller : goal.loop-node-smaller
loop-node-smaller g c = omega (arith, c.in_ok-follow.ensures.step.less, c.in-Some.ensures.some.less)

pub loop-node-preserved : goal.loop-node-preserved
loop-node-preserved g c = record {
  sound = c.in_ok-follow.ensures.sound;
  starts = λ x h. c.in_ok-follow.ensures.step.grows x (taken_in (view c.loop-node.gathered) (rows_of c.take_waiting.new.self) c.in-Some.node c.in-Some.row c.in-Some.ensures.some x (c.loop-node.invariant.starts x h));
  closed = c.in_ok-follow.ensures.closed (taken_closed (g.R.Rules.system c.args.rules.now) (view c.loop-node.gathered) (rows_of c.take_waiting.new.self) c.in-Some.node c.in-Some.row c.in-Some.ensures.some c.loop-node.invariant.closed);
}

pub take_waiting-requires : goal.take_waiting-requires
take_waiting-requires g c = c.loop-node.invariant.sound.members

pub returns : goal.returns
returns g c =
    subst (IsLeast (g.R.Rules.system c.args.rules.now)) (sym (c.into_sets.ensures ∙ ap (λ (m : MemberRows). m.known) c.in_default.ensures.none.0))
    (solved (g.R.Rules.system c.args.rules.now) (view c.loop-node.gathered) c.loop-node.invariant c.in_default.ensures.none.1)
