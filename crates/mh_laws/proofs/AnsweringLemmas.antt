-- An action answers no reference but the items of the list that it asks.
use Rattle.std.specs.Prelude.{◌≡◌, ℕ, zero, suc, slice_get, Bool, true, false, if◌then◌else◌, List, [], ◌∷◌, Option, Some, None, ℤ, pos, refl}
use Rattle.std.specs.List.{Contains}
use Rattle.std.specs.Option.{option_map, option_map_or}
use Rattle.std.proofs.Common.{rules, ap, ◌∙◌, sym, subst, arith}
use Rattle.mh_base.specs.declared.obj_ref.ObjRef.{ObjRef}
use Rattle.mh_base.specs.declared.value.Value.TheVariants as value
use Rattle.mh_base.specs.declared.value.Value.{Value}
use Rattle.mh_group.specs.declared.action_name.ActionName.TheVariants as action
use Rattle.mh_group.specs.declared.action_name.ActionName.{ActionName}
use Rattle.mh_model.specs.declared.object.listing.Entry.{Entry}
use Rattle.mh_model.specs.declared.object.Object.{Object}
use Rattle.mh_model.specs.ListItems.{has_item}
use Rattle.mh_model.specs.Lists.{shows}
use Rattle.mh_model.specs.Property.{as_reference}
use Rattle.mh_model.specs.Saying.{answers, item_told, status_told, both}
use Rattle.mh_model.specs.Tokens.{numbered}
use Rattle.mh_model.specs.Variables.{fits_octets}
use Rattle.mh_laws.specs.Describing.{IsListed, AnswersItems}
use Rattle.mh_laws.specs.Each.{Each}
use Rattle.mh_laws.specs.Flow.{has, fills}
use Rattle.mh_laws.proofs.GivingLemmas.{is_reference}
use Rattle.mh_laws.proofs.ItemLemmas.{nothing_second}
use Rattle.mh_laws.proofs.ListedLemmas.{own_among, shown_among}

pub none_contained : {X : Type 0} (x : X) → Contains [] x → false ≡ true
none_contained x h = absurd (omega (arith, h.1))

not_first : (v : Value) (vs : List Value) (q : ObjRef) → is_reference v ≡ false → Contains (v ∷ vs) (value.Object q) → Contains vs (value.Object q)
not_first v vs q no_ref (zero, less, e) = let never : false ≡ true = sym no_ref ∙ ap is_reference e in absurd cc
not_first v vs q no_ref (suc i, less, e) = (i, omega (arith, less), e)

lone : (v : Value) (q : ObjRef) → is_reference v ≡ false → Contains (v ∷ []) (value.Object q) → false ≡ true
lone v q no_ref h = none_contained (value.Object q) (not_first v [] q no_ref h)

lone_octets : (os : List ℕ) (q : ObjRef) (b : Bool) → Contains (if b then value.Octets os ∷ [] else []) (value.Object q) → false ≡ true
lone_octets os q true h = lone (value.Octets os) q refl h
lone_octets os q false h = none_contained (value.Object q) h

lone_pair : (x : ℤ × ℤ) (q : ObjRef) → Contains (both x) (value.Object q) → false ≡ true
lone_pair x q h = lone (value.Int x.1) q refl (not_first (value.Int x.0) (value.Int x.1 ∷ []) q refl h)

lone_status : (m : Option Entry) (q : ObjRef) → Contains (status_told m) (value.Object q) → false ≡ true
lone_status None q h = none_contained (value.Object q) h
lone_status (Some e) q h = lone (value.Bool e.selected) q refl h

status_fills : (vs : List Value) (o : Object) (q : ObjRef) → Contains (answers action.GetItemStatus vs o) (value.Object q) → false ≡ true
status_fills (value.Int (pos n) ∷ []) o q h = lone_status (numbered o.body.list.entries n) q h
status_fills _ o q h = none_contained (value.Object q) h

-- a reference is answered by the two actions alone that answer items
pub answers_fill : (n : ActionName) (vs : List Value) (o : Object) (q : ObjRef) → Contains (answers n vs o) (value.Object q) → fills n ≡ true
answers_fill action.GetListItem vs o q h = refl
answers_fill action.GetCellItem vs o q h = refl
answers_fill action.GetAvailabilityStatus vs o q h = lone _ q refl h
answers_fill action.GetRunningStatus vs o q h = lone _ q refl h
answers_fill action.GetPosition vs o q h = lone_pair _ q h
answers_fill action.GetBoxSize vs o q h = lone_pair _ q h
answers_fill action.GetTextData vs o q h = lone_octets _ q (fits_octets _) h
answers_fill action.GetHighlightStatus vs o q h = lone _ q refl h
answers_fill action.GetEntryPoint vs o q h = lone _ q refl h
answers_fill action.GetLabel vs o q h = lone_octets _ q (fits_octets _) h
answers_fill action.GetTokenPosition vs o q h = lone _ q refl h
answers_fill action.GetFirstItem vs o q h = lone _ q refl h
answers_fill action.GetListSize vs o q h = lone _ q refl h
answers_fill action.GetItemStatus vs o q h = status_fills vs o q h
answers_fill _ vs o q h = none_contained (value.Object q) h

-- what those answer is an item

the_one : (r q : ObjRef) → Contains (value.Object r ∷ []) (value.Object q) → r ≡ q
the_one r q (zero, within, is) = ap (λ (m : Option ObjRef). option_map_or (λ (x : ObjRef). x) m r) (ap (λ (v : Value). as_reference (Some v)) is)
the_one r q (suc k, within, is) = absurd (search (rules, within))

got_each : {X : Type 0} (P : X → Type 0) (xs : List X) (n : ℕ) (x : X) → Each P xs → slice_get xs n ≡ Some x → P x
got_each {X} P [] n x h e = absurd cc
got_each {X} P (y ∷ xs) zero x h e = subst P (ap (λ (m : Option X). option_map_or (λ (z : X). z) m y) e) h.0
got_each {X} P (y ∷ xs) (suc n) x h e = got_each P xs n x h.1 e

numbered_each : {X : Type 0} (P : X → Type 0) (xs : List X) (n : ℕ) (x : X) → Each P xs → numbered xs n ≡ Some x → P x
numbered_each {X} P xs zero x h e = absurd cc
numbered_each {X} P xs (suc n) x h e = got_each P xs n x h e

told_item : (m : Option ObjRef) (o : Object) (q : ObjRef) → ((x : ObjRef) → m ≡ Some x → has_item x o.body.list.entries ≡ true) → Contains (item_told m) (value.Object q) → has_item q o.body.list.entries ≡ true
told_item None o q into has = let never = none_contained (value.Object q) has in absurd cc
told_item (Some x) o q into has = subst (λ (y : ObjRef). has_item y o.body.list.entries ≡ true) (the_one x q has) (into x refl)

only_own : (o : Object) (x : ObjRef) → IsListed [] o x → has_item x o.body.list.entries ≡ true
only_own o x h = nothing_second [] o x refl h

list_item : (n : ℕ) (o : Object) (x : ObjRef) → option_map (λ (e : Entry). e.object) (numbered o.body.list.entries n) ≡ Some x → has_item x o.body.list.entries ≡ true
list_item n o x = by (numbered o.body.list.entries n) refl
  where
    by : (m : Option Entry) → numbered o.body.list.entries n ≡ m → option_map (λ (e : Entry). e.object) m ≡ Some x → has_item x o.body.list.entries ≡ true
    by None is e = absurd cc
    by (Some y) is e =
        subst (λ (z : ObjRef). has_item z o.body.list.entries ≡ true) (ap (λ (m : Option ObjRef). option_map_or (λ (z : ObjRef). z) m x) e)
        (only_own o y.object (numbered_each (λ (z : Entry). IsListed [] o z.object) o.body.list.entries n y (own_among [] o) is))

cell_item : (n : ℕ) (o : Object) (x : ObjRef) → numbered (shows o.body.running o.fixed o.body.list).items n ≡ Some x → has_item x o.body.list.entries ≡ true
cell_item n o x e =
    only_own o x (numbered_each (IsListed [] o) (shows o.body.running o.fixed o.body.list).items n x (shown_among [] o o.body.running o.fixed o.body.list (own_among [] o)) e)

list_items : (vs : List Value) (o : Object) (q : ObjRef) → Contains (answers action.GetListItem vs o) (value.Object q) → has_item q o.body.list.entries ≡ true
list_items (value.Int (pos n) ∷ []) o q has = told_item (option_map (λ (e : Entry). e.object) (numbered o.body.list.entries n)) o q (list_item n o) has
list_items _ o q has = let never = none_contained (value.Object q) has in absurd cc

cell_items : (vs : List Value) (o : Object) (q : ObjRef) → Contains (answers action.GetCellItem vs o) (value.Object q) → has_item q o.body.list.entries ≡ true
cell_items (value.Int (pos n) ∷ []) o q has = told_item (numbered (shows o.body.running o.fixed o.body.list).items n) o q (cell_item n o) has
cell_items _ o q has = let never = none_contained (value.Object q) has in absurd cc

pub answers_items : AnswersItems
answers_items action.GetListItem vs o q has = list_items vs o q has
answers_items action.GetCellItem vs o q has = cell_items vs o q has
answers_items n vs o q has = let never : fills n ≡ true = answers_fill n vs o q has in absurd cc
