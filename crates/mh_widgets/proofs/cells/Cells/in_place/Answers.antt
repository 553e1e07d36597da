use Rattle.std.proofs.Common.{rules, ap, sym, ◌∙◌, ◌≤◌, length, slice_get, List}
use Rattle.mh_base.specs.declared.obj_ref.ObjRef.{ObjRef}
use Rattle.mh_model.specs.Lists.{objects_of}
use Rattle.mh_widgets.proofs.CellLemmas.{got_front, got_behind}
use Rattle.mh_widgets.proofs.cells.Cells.in_place.Goals as goal

pub returns-then-place-some : goal.returns-then-place-some
returns-then-place-some c =
    c.object_at.ensures ∙ sym (got_front c.self.inside.some.now (objects_of c.self.inside.wrapped.now) c.args.place c.if-place-some.true)
    ∙ ap (λ (xs : List ObjRef). slice_get xs c.args.place) c.self.view_is

pub returns-else-place-some : goal.returns-else-place-some
returns-else-place-some c =
    let past : length c.self.inside.some.now ≤ c.args.place = search (rules, c.if-place-some.false) in
    c.object_at-else-place-some.ensures ∙ sym (got_behind c.self.inside.some.now (objects_of c.self.inside.wrapped.now) c.args.place past)
    ∙ ap (λ (xs : List ObjRef). slice_get xs c.args.place) c.self.view_is
