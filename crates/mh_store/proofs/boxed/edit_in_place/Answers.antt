use Rattle.std.proofs.Common.{sym, ◌∙◌}
use Rattle.mh_store.proofs.BoxKeptLemmas.{box_tried}
use Rattle.mh_store.proofs.boxed.edit_in_place.Goals as goal

pub returns-then-leaves_box-clause-there : goal.returns-then-leaves_box-clause-there
returns-then-leaves_box-clause-there c =
    c.requires ∙ box_tried c.edit_object.result c.args.edit c.args.object.now c.edit_object.new.object c.edit_object.ensures.done c.edit_object.ensures.kept (sym c.if-leaves_box.ensures)
