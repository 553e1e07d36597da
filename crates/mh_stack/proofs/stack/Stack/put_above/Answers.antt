use Rattle.std.proofs.Common.{◌∙◌, sym, ap, ℕ}
use Rattle.std.specs.List.{list_any}
use Rattle.std.proofs.Common.{◌==◌, eqb-true}
use Rattle.std.proofs.lemmas.List.{nil_from_length}
use Rattle.mh_model.specs.Reference.{same_ref}
use Rattle.mh_model.specs.Stack.{just_above, without}
use Rattle.mh_stack.specs.Shelf.{Shelf}
use Rattle.mh_stack.proofs.ShelfLemmas.{gone, above_in_line, above_none, above_on_top}
use Rattle.mh_stack.proofs.stack.Stack.put_above.Goals as goal

pub put_above-requires-clause-new : goal.put_above-requires-clause-new
put_above-requires-clause-new c = ap (list_any (same_ref c.args.at)) c.take_off.ensures.places ∙ gone c.args.at _

pub returns-then-has : goal.returns-then-has
returns-then-has c =
    above_in_line c.args.at c.args.other.now _ _ _ _ _ c.take_off.ensures.places c.take_off-2.ensures.places (sym c.has.ensures ∙ c.if-has.true) c.put_above.ensures
    ∙ ap (λ (s : Shelf). just_above c.args.at c.args.other.now (without c.args.at s.places)) c.self.view_is

pub put_top-requires-clause-new : goal.put_top-requires-clause-new
put_top-requires-clause-new c = ap (list_any (same_ref c.args.at)) c.take_off.ensures.places ∙ gone c.args.at _

pub returns-then-is_empty : goal.returns-then-is_empty
returns-then-is_empty c =
    above_on_top c.args.at c.args.other.now _ _ _ _ _ c.take_off.ensures.places c.take_off-2.ensures.places (sym c.has.ensures ∙ c.if-has.false)
    (nil_from_length c.take_off-2.new.places.items (eqb-true _ 0 (ap (λ (n : ℕ). n == 0) (sym c.take_off-2.new.places.ok.0) ∙ sym c.is_empty.ensures ∙ c.if-is_empty.true)))
    c.put_top.ensures
    ∙ ap (λ (s : Shelf). just_above c.args.at c.args.other.now (without c.args.at s.places)) c.self.view_is

pub returns-else-is_empty : goal.returns-else-is_empty
returns-else-is_empty c =
    above_none c.args.at c.args.other.now _ _ _ _ _ c.take_off.ensures.places c.take_off-2.ensures.places (sym c.has.ensures ∙ c.if-has.false) c.insert_above.ensures
    ∙ ap (λ (s : Shelf). just_above c.args.at c.args.other.now (without c.args.at s.places)) c.self.view_is
