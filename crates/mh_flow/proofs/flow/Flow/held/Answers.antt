use Rattle.std.proofs.Common.{List, [], map, ap, ◌∙◌}
use Rattle.std.specs.Prelude.{unwrap_or}
use Rattle.mh_base.specs.declared.obj_ref.ObjRef.{ObjRef}
use Rattle.mh_model.specs.Configuration.{present}
use Rattle.mh_flow.specs.Solved.{held_by}
use Rattle.mh_flow.proofs.HeldLemmas.{held_is_set, held_put, in_application, in_scene}
use Rattle.mh_flow.proofs.flow.Flow.held.Goals as goal

pub returns-clause-each : goal.returns-clause-each
returns-clause-each c =
    held_put c.args.service.now c.args.self.now c.args.config.now _ _ _ c.parts.result.0.now c.parts.result.1.now
    (ap (map (λ l. unwrap_or l [])) c.in_ok-lists.ensures.items)
    c.in_ok-push_held.ensures
    c.in_ok-push_held-2.ensures
    (c.parts.ensures ∙ c.present-present.ensures)

pub returns-clause-sets : goal.returns-clause-sets
returns-clause-sets c =
    ap (λ (lists : List (List ObjRef)). held_by (present c.args.service.now c.args.config.now) lists) (returns-clause-each c)
    ∙ (λ i r. held_is_set c.args.service.now c.args.self.now c.args.config.now r i)

pub push_held-requires-clause-among : goal.push_held-requires-clause-among
push_held-requires-clause-among c p m = in_application c.parts.result.0.now c.parts.result.1.now c.present-present.result p c.parts.ensures m

pub push_held-requires-2-clause-among : goal.push_held-requires-2-clause-among
push_held-requires-2-clause-among c p m = in_scene c.parts.result.0.now c.parts.result.1.now c.present-present.result p c.parts.ensures m
