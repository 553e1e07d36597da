use Rattle.std.specs.Prelude.{◌≡◌, ℕ, ◌+◌, ◌-◌, ◌<◌, refl}
use Rattle.std.proofs.Common.{rules, ap, ◌∙◌, sym, subst, arith}
use Rattle.mh_model.specs.State.{State}
use Rattle.mh_model.specs.Step.{stepped, advanced}
use Rattle.mh_machine.specs.Judging.{AreAllowed}
use Rattle.mh_machine.proofs.StepLemmas.{advanced_more, advanced_still, advanced_behind, allowed_more}
use Rattle.mh_machine.proofs.works.Works.advance.Goals as goal

pub loop-made-init : goal.loop-made-init
unfolding advanced
loop-made-init g c =
    let all : c.args.most - 0 ≡ c.args.most = omega arith in (
      ap (λ (k : ℕ). advanced k c.args.self.now.state) all,
      refl,
      subst (λ (k : ℕ). AreAllowed g.J.Judging.allows k c.args.self.now.state) (sym all) c.requires,
    )

pub go_on-requires : goal.go_on-requires
go_on-requires g c =
    let less : c.loop-made.made < c.args.most = search rules in
    (allowed_more g.J.Judging.allows c.loop-made.made c.args.most c.loop-made.self.state less c.loop-made.invariant.2).0

pub loop-made-preserved : goal.loop-made-preserved
loop-made-preserved g c =
    let less : c.loop-made.made < c.args.most = search rules in
    let made = c.in_ok-go_on.ensures.made in
    let left = (allowed_more g.J.Judging.allows c.loop-made.made c.args.most c.loop-made.self.state less c.loop-made.invariant.2).1 in (
      ap (advanced (c.args.most - (c.loop-made.made + 1))) made
          ∙ sym (advanced_more c.loop-made.made c.args.most c.loop-made.self.state less) ∙ c.loop-made.invariant.0,
      made ∙ ap stepped c.loop-made.invariant.1 ∙ sym (advanced_behind c.loop-made.made c.args.self.now.state),
      subst (λ (s : State). AreAllowed g.J.Judging.allows (c.args.most - (c.loop-made.made + 1)) s) (sym made) left,
    )

pub returns-then-not-branch-clause-all : goal.returns-then-not-branch-clause-all
returns-then-not-branch-clause-all g c =
    let less : c.loop-made.made < c.args.most = search rules in
    let still : stepped c.go_on.new.self.state ≡ c.go_on.new.self.state = c.in_ok-go_on.ensures.over c.if-not-branch.true in
    sym (advanced_still (c.args.most - (c.loop-made.made + 1)) c.go_on.new.self.state still)
    ∙ ap (advanced (c.args.most - (c.loop-made.made + 1))) c.in_ok-go_on.ensures.made
    ∙ sym (advanced_more c.loop-made.made c.args.most c.loop-made.self.state less) ∙ c.loop-made.invariant.0
