use Rattle.std.specs.Prelude.{List, [], ◌∷◌, ◌++◌}
use Rattle.std.proofs.Common.{◌≡◌, ap, subst, sym, ◌∙◌}
use Rattle.mh_base.specs.declared.obj_ref.ObjRef.{ObjRef}
use Rattle.mh_flow.specs.Solved.{held_by}
use Rattle.mh_verify.specs.Samples.{AreSamples, sample}
use Rattle.mh_verify.proofs.SampleLemmas.{one_more}
use Rattle.mh_refusals.proofs.samples.keep.Goals as goal

pub returns : goal.returns
returns c =
    let ps = c.args.scope.now.present in
    let held = held_by ps c.args.scope.now.held in
    let variable = c.args.variable.now in
    let before = c.args.samples.now.entries in
    let kept : c.in_ok-kept.kept ≡ sample ps (held variable) = c.in_ok-kept.ensures ∙ ap (sample ps) c.of-objects.ensures in
    subst (λ (es : List (ObjRef × List ObjRef)). AreSamples ps held es)
    (sym (c.in_ok-add.ensures ∙ ap (λ (rs : List ObjRef). before ++ (variable, rs) ∷ []) kept))
    (one_more ps held before variable c.requires)
