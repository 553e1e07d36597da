use Rattle.std.proofs.Common.{◌≡◌, ◌∙◌, true, IfOk, List, subst, sym}
use Rattle.std.specs.List.{list_all}
use Rattle.mh_laws.specs.Each.{Each}
use Rattle.mh_layers.specs.declared.numbered_node.NumberedNode.{NumberedNode}
use Rattle.mh_layers.specs.Layering.{is_laid}
use Rattle.mh_layers.specs.Reading.{kept}
use Rattle.mh_layers.proofs.LayeredLemmas.{counted_kept}
use Rattle.mh_layers.proofs.RootLemmas.{roots_kept}
use Rattle.mh_layers.proofs.laying.roots.lay_roots.Goals as goal

pub lay-requires-clause-counted : goal.lay-requires-clause-counted
lay-requires-clause-counted c = counted_kept c.args.numbered_service.now c.read.ensures

pub lay-requires-clause-kept : goal.lay-requires-clause-kept
lay-requires-clause-kept c =
    subst (Each (kept c.args.numbered_service.now)) (sym (c.as_slice.ensures.value ∙ c.in_ok-nodes.ensures)) (roots_kept c.args.numbered_service.now c.read.ensures)

pub returns-clause-laid : goal.returns-clause-laid
returns-clause-laid c =
    subst (λ (ks : List NumberedNode). IfOk c.lay.result (λ laying. list_all (is_laid laying) ks ≡ true)) (c.as_slice.ensures.value ∙ c.in_ok-nodes.ensures) c.lay.ensures.laid
