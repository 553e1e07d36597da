use Rattle.std.proofs.Common.{ap, refl, sym, ◌∙◌}
use Rattle.mh_model.specs.declared.edit.Edit.TheVariants as edit
use Rattle.mh_model.specs.declared.object.Body.{Body}
use Rattle.mh_model.specs.Looks.{area_of}
use Rattle.mh_store.proofs.BoxKeptLemmas.{box_left}
use Rattle.mh_store.proofs.boxed.Boxed.give.Goals as goal

pub invariant_of-self : goal.invariant_of-self
invariant_of-self c =
    let o = c.self.inside.object in
    c.self.invariant ∙ sym (ap (λ (b : Body). area_of (record { fixed = o.fixed; body = b })) c.give.ensures ∙ box_left (edit.Give c.args.value) o refl)
