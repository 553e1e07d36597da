use Rattle.std.specs.Prelude.{List, filter, map}
use Rattle.std.proofs.Common.{ap, ◌∙◌, sym}
use Rattle.mh_base.specs.declared.obj_ref.ObjRef.{ObjRef}
use Rattle.mh_model.specs.State.{all}
use Rattle.mh_model.specs.Step.{content_event}
use Rattle.mh_machine.specs.Marks.{is_meant}
use Rattle.mh_machine.proofs.MarkLemmas.{is_none}
use Rattle.mh_machine.proofs.WaitingLemmas.{events_by_places, none_meant}
use Rattle.mh_machine.proofs.inputs.content_events.Goals as goal

pub returns-then-is_empty : goal.returns-then-is_empty
returns-then-is_empty c =
    c.new.ensures.items
    ∙ ap (map content_event) (none_meant (all c.args.objects.now))
    ∙ ap (λ (rs : List ObjRef). map content_event (filter (is_meant rs) (all c.args.objects.now))) (sym (is_none c.args.waiting.now c.is_empty.result c.is_empty.ensures c.if-is_empty.true))

pub loop-place-init : goal.loop-place-init
loop-place-init c =
    events_by_places c.args.waiting.now (all c.args.objects.now) c.deref-place-items.result.now c.new-events.result.items
    c.new-events.ensures.items (c.deref-place-items.ensures.value ∙ c.in_ok-places.ensures)
