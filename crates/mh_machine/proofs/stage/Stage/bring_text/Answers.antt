use Rattle.std.specs.Prelude.{List, []}
use Rattle.std.proofs.Common.{ap, sym, ◌∙◌}
use Rattle.mh_base.specs.declared.obj_ref.ObjRef.{ObjRef}
use Rattle.mh_model.specs.Rules.{text_brought}
use Rattle.mh_model.specs.State.{all}
use Rattle.mh_store.specs.Places.{is_among}
use Rattle.mh_machine.proofs.MarkLemmas.{brought_paint, brought_to_none, is_none, right_each}
use Rattle.mh_machine.proofs.stage.Stage.bring_text.Goals as goal

pub returns-then-is_empty-clause-done : goal.returns-then-is_empty-clause-done
returns-then-is_empty-clause-done c =
    brought_to_none c.args.text.now c.args.self.now.objects
    ∙ ap (λ (rs : List ObjRef). text_brought (is_among rs) c.args.text.now c.args.self.now.objects) (sym (is_none c.args.waiting.now c.is_empty.result c.is_empty.ensures c.if-is_empty.true))

pub invariant_of-self-2 : goal.invariant_of-self-2
invariant_of-self-2 c =
    right_each c.args.waiting.now (all c.self.inside.objects) (all c.bring_text.new.self) c.self.inside.stack.places
    c.self.inside.screen c.spoil_each.new.screen c.spoil_each-2.new.screen
    c.spoil_each.ensures.same c.spoil_each-2.ensures.same c.spoil_each.ensures.spoilt c.spoil_each-2.ensures.spoilt
    (brought_paint c.args.waiting.now c.args.text.now c.self.inside.objects c.bring_text.new.self c.in_ok-bring_text.ensures.done)
    c.self.invariant
