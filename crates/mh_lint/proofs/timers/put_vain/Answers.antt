use Rattle.std.proofs.Common.{rules, ◌≡◌, Bool, ◌||◌, ap, sym, ◌∙◌}
use Rattle.mh_model.specs.Reference.{same_key}
use Rattle.mh_lint.specs.Uses.{is_key_of}
use Rattle.mh_lint.proofs.UseLemmas.{one_more, same_back, vain_more}
use Rattle.mh_lint.proofs.timers.put_vain.Goals as goal

pub returns-in_ok-insert-in-Some : goal.returns-in_ok-insert-in-Some
returns-in_ok-insert-in-Some c = λ r.
    let copied = c.in_ok-clone-in-Some.ensures.cases in
    let same : c.in_ok-clone-in-Some.field-0 ≡ c.args.heard.now.at = λ i. record { number = copied.0 i; group = copied.1 i } in
    let old = is_key_of c.args.groups.now.keys r in
    c.in_ok-insert-in-Some.ensures.updates.0 r
    ∙ one_more (same_key c.in_ok-clone-in-Some.field-0 r) old
    ∙ (λ i. old || same_key (same i) r)
    ∙ ap (λ (b : Bool). old || b) (same_back c.args.heard.now.at r ∙ vain_more c.args.set.now r c.args.heard.now c.in-Some.number (search rules) (search rules))
