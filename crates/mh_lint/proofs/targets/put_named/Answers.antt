use Rattle.std.proofs.Common.{◌≡◌, Bool, ◌||◌, cond, true, ap, sym, ◌∙◌}
use Rattle.std.specs.List.{list_any}
use Rattle.mh_model.specs.declared.act.Target.{Target}
use Rattle.mh_model.specs.Reference.{same_key, same_ref}
use Rattle.mh_lint.specs.Uses.{is_named}
use Rattle.mh_lint.proofs.UseLemmas.{one_more, same_back}
use Rattle.mh_lint.proofs.targets.put_named.Goals as goal

pub returns-in_ok-insert-in-Direct : goal.returns-in_ok-insert-in-Direct
returns-in_ok-insert-in-Direct c = λ r.
    let copied = c.in_ok-clone-in-Direct.ensures.cases in
    let same : c.in_ok-clone-in-Direct.field-0 ≡ c.in-Direct.at = λ i. record { number = copied.0 i; group = copied.1 i } in
    let old = list_any (same_key r) c.args.named.now.keys in
    c.in_ok-insert-in-Direct.ensures.updates.0 r
    ∙ one_more (same_key c.in_ok-clone-in-Direct.field-0 r) old
    ∙ (λ i. old || same_key (same i) r)
    ∙ ap (λ (b : Bool). old || b) (same_back c.in-Direct.at r)
    ∙ ap (λ (t : Target). old || is_named r t) (sym c.in-Direct.is)
