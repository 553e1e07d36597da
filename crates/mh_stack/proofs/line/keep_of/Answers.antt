use Rattle.std.proofs.Common.{◌≡◌, ◌∙◌, ap, arith, refl, sym, filter, length, ℕ}
use Rattle.mh_stack.specs.References.{refs_at}
use Rattle.mh_stack.specs.Rings.{order}
use Rattle.mh_stack.proofs.KeepLemmas.{is_left, is_of, left_first, left_last, left_next, mapped_filter}
use Rattle.mh_stack.proofs.line.keep_of.Goals as goal

pub loop-index-init : goal.loop-index-init
loop-index-init c = (sym (left_first (is_of c.args.application.now c.args.refs.now) _ _ c.requires), refl)

pub loop-index-preserved : goal.loop-index-preserved
loop-index-preserved c = (
  left_next c.args.application.now c.args.refs.now c.loop-index.index _ _ _ c.loop-index.invariant.0 c.keep_at.ensures.order,
  c.keep_at.ensures.long ∙ c.loop-index.invariant.1,
)

pub returns-clause-places : goal.returns-clause-places
returns-clause-places c =
    let last : c.loop-index.index ≡ length c.args.refs.now = omega (arith, c.loop-index-test.false, c.loop-index.auto.index-end) in
    ap (refs_at c.args.refs.now)
    (c.loop-index.invariant.0
    ∙ ap (λ (n : ℕ). filter (is_left (is_of c.args.application.now c.args.refs.now) n) (order c.args.ring.now)) last
    ∙ left_last (is_of c.args.application.now c.args.refs.now) (length c.args.refs.now) (order c.args.ring.now) c.requires)
    ∙ mapped_filter c.args.application.now c.args.refs.now (order c.args.ring.now)
