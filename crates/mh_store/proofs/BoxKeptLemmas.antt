-- When the box of an object stays as it is.
use Rattle.std.proofs.Common.{◌≡◌, ℕ, Bool, true, false, not, if◌then◌else◌, List, Option, None, Result, Ok, Err, OnOk, OnErr, refl, ap, sym, ◌∙◌}
use Rattle.std.specs.Prelude.{◌==◌}
use Rattle.std.specs.Option.{option_or}
use Rattle.mh_group.specs.declared.attribute.Attribute.{Attribute}
use Rattle.mh_group.specs.declared.attribute.Attribute.TheVariants as attribute
use Rattle.mh_group.specs.Table.{attribute_number}
use Rattle.mh_model.specs.declared.edit.Edit.{Edit}
use Rattle.mh_model.specs.declared.edit.Edit.TheVariants as edit
use Rattle.mh_model.specs.declared.held.Held.TheVariants as of
use Rattle.mh_model.specs.declared.held.Property.{Property}
use Rattle.mh_model.specs.declared.object.Body.{Body}
use Rattle.mh_model.specs.declared.object.Fixed.{Fixed}
use Rattle.mh_model.specs.declared.object.Object.{Object}
use Rattle.mh_model.specs.Bodies.{dropped, end_of, prepared, started, token_started}
use Rattle.mh_model.specs.Edits.{edited}
use Rattle.mh_model.specs.Looks.{area_by, area_of}
use Rattle.mh_model.specs.Property.{as_pair, held, read}
use Rattle.mh_store.proofs.HeldLemmas.{read_beside}
use Rattle.mh_store.specs.Keeping.{is_of_box, leaves_box}
use Rattle.mh_store.specs.Table.{with_body}

-- neither of the attributes that the box is read under is this one
record IsBeside (a : Attribute) : Type 0 where
  size : (attribute_number a == attribute_number attribute.OrigBoxSize) ≡ false
  position : (attribute_number a == attribute_number attribute.OrigPosition) ≡ false

beside : (a : Attribute) → not (is_of_box a) ≡ true → IsBeside a
beside attribute.OrigBoxSize e = absurd cc
beside attribute.OrigPosition e = absurd cc
beside _ e = record { size = refl; position = refl }

-- an object with the same under both has the same box
area_kept : (o p : Object) → read attribute.OrigBoxSize o ≡ read attribute.OrigBoxSize p → read attribute.OrigPosition o ≡ read attribute.OrigPosition p → area_of o ≡ area_of p
area_kept o p size position = λ i. area_by (as_pair (size i)) (as_pair (position i))

-- the same changes under the same properties
changes_kept : (o : Object) (b : Body) → b.changes ≡ o.body.changes → area_of (record o { body = b }) ≡ area_of o
changes_kept o b same = area_kept (record o { body = b }) o
    (ap (λ (cs : List Property). option_or (held attribute.OrigBoxSize cs) (held attribute.OrigBoxSize o.fixed.properties)) same)
    (ap (λ (cs : List Property). option_or (held attribute.OrigPosition cs) (held attribute.OrigPosition o.fixed.properties)) same)

prepared_changes : (text : Option (List ℕ)) (b : Body) → (prepared text b).changes ≡ b.changes
prepared_changes text b = by b.available
  where
    by : (a : Bool) → (if a then b else record b { available = true; text = text; point = end_of text }).changes ≡ b.changes
    by true = refl
    by false = refl

started_changes : (text : Option (List ℕ)) (p : Fixed) (b : Body) → (started text p b).changes ≡ b.changes
started_changes text p b = by b.running
  where
    by : (r : Bool) → (if r then b else record (prepared text b) { running = true; token = token_started p b }).changes ≡ b.changes
    by true = refl
    by false = prepared_changes text b

dropped_changes : (b : Body) → (dropped b).changes ≡ b.changes
dropped_changes b = by b.available
  where
    by : (a : Bool) → (if a then record b { available = false; text = None; point = 0 } else b).changes ≡ b.changes
    by true = refl
    by false = refl

-- an edit that can be seen to leave the box does so
pub box_left : (e : Edit) (o : Object) → leaves_box e ≡ true → area_of (with_body (edited e) o) ≡ area_of o
box_left (edit.Put a h) o left =
    let said = beside a left in
    area_kept (with_body (edited (edit.Put a h)) o) o
    (read_beside a attribute.OrigBoxSize h o said.size)
    (read_beside a attribute.OrigPosition h o said.position)
box_left (edit.Load v text) o left = area_kept (with_body (edited (edit.Load v text)) o) o
    (read_beside attribute.OrigContent attribute.OrigBoxSize (of.Value v) o refl)
    (read_beside attribute.OrigContent attribute.OrigPosition (of.Value v) o refl)
box_left (edit.Prepare text) o left = changes_kept o (prepared text o.body) (prepared_changes text o.body)
box_left (edit.Start text) o left = changes_kept o (started text o.fixed o.body) (started_changes text o.fixed o.body)
box_left edit.Drop o left = changes_kept o (dropped o.body) (dropped_changes o.body)
box_left (edit.Give v) o left = refl
box_left (edit.Draw d) o left = refl
box_left edit.Clear o left = refl
box_left edit.Halt o left = refl
box_left (edit.Turn n) o left = refl
box_left (edit.List l) o left = refl
box_left (edit.Point n) o left = refl
box_left (edit.Type os n) o left = refl
box_left (edit.Overwrite on) o left = refl
box_left (edit.Highlight on) o left = refl
box_left (edit.Select on) o left = refl

-- the same of an edit that was done, or refused
pub box_tried : {T E : Type 0} (answer : Result T E) (e : Edit) (o after : Object) → OnOk answer (after ≡ with_body (edited e) o) → OnErr answer (after ≡ o) → leaves_box e ≡ true → area_of o ≡ area_of after
box_tried (Ok x) e o after done kept left = sym (ap area_of done ∙ box_left e o left)
box_tried (Err y) e o after done kept left = sym (ap area_of kept)
