use Rattle.std.proofs.Common.{◌≡◌, ap, subst, sym, ◌∙◌, false, ◌++◌, ◌∷◌, []}
use Rattle.std.specs.Map.{lookup}
use Rattle.std.specs.Option.{is_some}
use Rattle.mh_base.specs.declared.obj_ref.ObjRef.{ObjRef}
use Rattle.mh_model.specs.Reference.{same_ref}
use Rattle.mh_verify.proofs.SampleLemmas.{insert_last}
use Rattle.mh_refusals.proofs.samples.add.Goals as goal

-- the reference is new, so its entry goes last
pub returns : goal.returns
returns c =
    let copied = c.in_ok-key.ensures.cases in
    let same : c.in_ok-key.key ≡ c.args.variable.now = λ i. record { number = copied.0 i; group = copied.1 i } in
    c.in_ok-insert.ensures.entries
    ∙ insert_last c.args.samples.now c.in_ok-key.key c.args.sample
    (subst (λ (r : ObjRef). is_some (lookup (same_ref r) c.args.samples.now.entries) ≡ false) (sym same) c.requires)
    ∙ ap (λ (r : ObjRef). c.args.samples.now.entries ++ (r, c.args.sample) ∷ []) same
