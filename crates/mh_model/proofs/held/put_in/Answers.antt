use Rattle.std.specs.Prelude.{◌≡◌, Some, None}
use Rattle.std.specs.List.{position}
use Rattle.std.proofs.Common.{ap, ◌∙◌, sym}
use Rattle.mh_model.specs.Property.{is_of}
use Rattle.mh_model.proofs.PropertyLemmas.{with_held-at, with_held-new}
use Rattle.mh_model.proofs.held.put_in.Goals as goal

pub returns-in-Some-clause-done : goal.returns-in-Some-clause-done
returns-in-Some-clause-done c =
    let found : position (is_of c.args.property.attribute) c.args.list.now.items ≡ Some c.in-Some.place = ap (position (is_of c.args.property.attribute)) (sym c.as_slice.ensures.value) ∙ sym c.place_of.ensures ∙ c.in-Some.is in
    c.replace_at.ensures ∙ with_held-at c.args.property c.args.list.now.items c.in-Some.place found

pub returns-in_ok-append-in-None-clause-done : goal.returns-in_ok-append-in-None-clause-done
returns-in_ok-append-in-None-clause-done c =
    let none : position (is_of c.args.property.attribute) c.args.list.now.items ≡ None = ap (position (is_of c.args.property.attribute)) (sym c.as_slice.ensures.value) ∙ sym c.place_of.ensures ∙ c.in-None.is in
    c.in_ok-append-in-None.ensures.done ∙ with_held-new c.args.property c.args.list.now.items none
