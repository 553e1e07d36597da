use Rattle.std.proofs.Common.{◌≡◌, List, [], ◌∷◌, ◌++◌, Some, cond, ap, ◌∙◌}
use Rattle.std.specs.Map.{lookup}
use Rattle.mh_base.specs.declared.obj_ref.ObjRef.{ObjRef}
use Rattle.mh_model.specs.Reference.{same_key}
use Rattle.mh_flow.specs.Walks.{Walk}
use Rattle.mh_flow.proofs.opening.walks.start.Goals as goal

pub returns : goal.returns
returns c = λ q.
    let copied = c.in_ok-key.ensures.cases in
    let same : c.in_ok-key.key ≡ c.args.variable.now = λ i. record { number = copied.0 i; group = copied.1 i } in
    let one : c.push.new.self ≡ c.args.walk ∷ [] = c.in_ok-push.ensures.added ∙ ap (λ (t : List Walk). t ++ c.args.walk ∷ []) c.new-walks.ensures in
    c.in_ok-insert.ensures.updates.0 q
    ∙ (λ i. cond (same_key (same i) q) (Some (one i)) (lookup (same_key q) c.args.table.now.entries))
