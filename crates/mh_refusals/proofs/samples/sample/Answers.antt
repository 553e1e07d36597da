use Rattle.std.specs.Prelude.{◌+◌, ◌∷◌, ◌++◌, drop, List, Option}
use Rattle.std.proofs.Common.{ap, sym, ◌∙◌}
use Rattle.std.proofs.lemmas.List.{at_drop_more}
use Rattle.mh_base.specs.declared.obj_ref.ObjRef.{ObjRef}
use Rattle.mh_group.specs.declared.class.Class.{Class}
use Rattle.mh_model.specs.Known.{each_class_behind}
use Rattle.mh_verify.specs.Samples.{class_in, with_class, with_first}
use Rattle.mh_verify.proofs.SampleLemmas.{each_next}
use Rattle.mh_refusals.proofs.samples.sample.Goals as goal

pub loop-at-preserved : goal.loop-at-preserved
loop-at-preserved c =
    let class_of = class_in c.args.present.now in
    let objects = c.args.objects.now in
    let i = c.loop-at.at-index in
    let kept = c.loop-at.kept in
    let classes = c.loop-at.classes.items in
    (λ j. c.in_ok-push_first.ensures.kept j ++ each_class_behind class_of (c.in_ok-push_first.ensures.classes j) (drop (i + 1) objects))
    ∙ ap (λ (k : Option Class). with_first kept classes k c.at-item.result ++ each_class_behind class_of (with_class classes k) (drop (i + 1) objects)) c.class_of.ensures
    ∙ each_next class_of kept classes c.at-item.result (drop (i + 1) objects)
    ∙ ap (λ (r : ObjRef). kept ++ each_class_behind class_of classes (r ∷ drop (i + 1) objects)) c.at-item.is
    ∙ sym (at_drop_more (λ (rs : List ObjRef). kept ++ each_class_behind class_of classes rs) objects i c.at-item.result c.loop-at-test.true)
    ∙ c.loop-at.invariant
