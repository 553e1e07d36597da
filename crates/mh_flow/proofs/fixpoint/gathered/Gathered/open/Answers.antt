use Rattle.std.proofs.Common.{◌++◌, ◌∙◌, List, ap, sym, subst}
use Rattle.std.specs.List.{Contains}
use Rattle.mh_flow.specs.declared.fixpoint.constraints.Item.{Item}
use Rattle.mh_flow.specs.declared.fixpoint.constraints.Item.TheVariants as item
use Rattle.mh_flow.specs.Constraints.{opened}
use Rattle.mh_flow.proofs.fixpoint.gathered.Gathered.open.Goals as goal

pub put_each-requires-clause-fits : goal.put_each-requires-clause-fits
put_each-requires-clause-fits g c x h = c.requires.fit.opened c.args.fact x (subst (λ (t : List Item). Contains t x) (c.as_slice.ensures.value ∙ c.in_ok-open.ensures ∙ ap (λ (t : List Item). t ++ (g.R.Rules.system c.args.rules.now).opens c.args.fact) c.clear.ensures.items) h)

pub put_each-requires-clause-derived : goal.put_each-requires-clause-derived
put_each-requires-clause-derived g c x h = opened c.args.fact x (c.requires.sound.derived (item.Member c.args.fact) c.requires.known) (subst (λ (t : List Item). Contains t x) (c.as_slice.ensures.value ∙ c.in_ok-open.ensures ∙ ap (λ (t : List Item). t ++ (g.R.Rules.system c.args.rules.now).opens c.args.fact) c.clear.ensures.items) h)

pub returns-clause-opened : goal.returns-clause-opened
returns-clause-opened g c x h = c.in_ok-put_each.ensures.put x (subst (λ (t : List Item). Contains t x) (sym (c.as_slice.ensures.value ∙ c.in_ok-open.ensures ∙ ap (λ (t : List Item). t ++ (g.R.Rules.system c.args.rules.now).opens c.args.fact) c.clear.ensures.items)) h)
