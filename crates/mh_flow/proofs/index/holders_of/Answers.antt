use Rattle.std.specs.Prelude.{ℕ, List, [], map}
use Rattle.std.proofs.Common.{ap, ◌∙◌}
use Rattle.mh_base.specs.declared.obj_ref.ObjRef.{ObjRef}
use Rattle.mh_model.specs.declared.object.Fixed.{Fixed}
use Rattle.mh_flow.specs.Index.{Home, holders, with_groups}
use Rattle.mh_flow.proofs.IndexLemmas.{holders_mapped}
use Rattle.mh_flow.proofs.index.holders_of.Goals as goal

pub loop-parts-init : goal.loop-parts-init
loop-parts-init c =
    ap (λ (es : List (ObjRef × Home)). with_groups es (map holders c.into_iter-parts-iterator.result)) c.new-index.ensures.empty
    ∙ ap (λ (gs : List (List Fixed)). with_groups [] (map holders gs)) (c.into_iter-parts-iterator.ensures.into_iter_gives ∙ c.values-parts-items.ensures.rest)
    ∙ ap (with_groups []) (holders_mapped c.groups.result.now.entries)
    ∙ ap (λ (gs : List (List ℕ × List Fixed)). with_groups [] (map (λ (g : List ℕ × List Fixed). holders g.1) gs)) c.groups.ensures.entries
