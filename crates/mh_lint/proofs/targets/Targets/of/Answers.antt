use Rattle.std.proofs.Common.{◌||◌, List, ap, sym, ◌∙◌}
use Rattle.std.specs.List.{list_any}
use Rattle.mh_model.specs.declared.act.Target.{Target}
use Rattle.mh_lint.specs.Uses.{is_named, is_through}
use Rattle.mh_lint.proofs.UseLemmas.{found_so}
use Rattle.mh_lint.proofs.targets.Targets.of.Goals as goal

pub invariant_of-result : goal.invariant_of-result
invariant_of-result c = λ r.
    found_so c.args.list.items r
    ∙ (λ i. sym (c.go_through-goes_through.ensures ∙ ap (list_any is_through) c.as_slice-2.ensures.value) i || sym (c.in_ok-named.ensures r ∙ ap (list_any (is_named r)) c.as_slice.ensures.value) i)
