-- Lists that have no item twice, and stay so; and how often what is in a set stands there.
use Rattle.std.specs.List.{list_any}
use Rattle.std.specs.Ordering.{int_eq}
use Rattle.std.specs.Prelude.{◌&&◌, ◌*ℤ◌, ◌++◌, ◌+ℤ◌, ◌+◌, ◌-ℤ◌, ◌||◌, ◌∷◌, ◌≡◌, ◌≤◌, Bool, List, None, Option, Some, [], false, if◌then◌else◌, int_div, int_le, int_rem, length, nat_le, negsuc, pos, slice_get, suc, true, zero, ℕ, ℤ}
use Rattle.std.proofs.Common.{◌∙◌, ap, arith, inl, inr, refl, subst, sym}
use Rattle.mh_base.specs.declared.event.EventType.TheVariants as event
use Rattle.mh_base.specs.declared.obj_ref.ObjRef.{ObjRef}
use Rattle.mh_base.specs.declared.value.Value.{Value}
use Rattle.mh_base.specs.declared.value.Value.TheVariants as value
use Rattle.mh_group.specs.Table.{is_list_group}
use Rattle.mh_group.specs.declared.action_name.ActionName.{ActionName}
use Rattle.mh_group.specs.declared.action_name.ActionName.TheVariants as action
use Rattle.mh_group.specs.declared.attribute.Attribute.{Attribute}
use Rattle.mh_group.specs.declared.attribute.Attribute.TheVariants as attribute
use Rattle.mh_model.specs.declared.object.listing.Entry.{Entry}
use Rattle.mh_model.specs.declared.object.member.Member.{Member}
use Rattle.mh_model.specs.declared.object.Body.{Body}
use Rattle.mh_model.specs.declared.object.Fixed.{Fixed}
use Rattle.mh_model.specs.Bodies.{changed_by, coloured, fits_value, given, given_number, number_of, pointed, stored, text_of}
use Rattle.mh_model.specs.EntryFields.{button_set, highlit}
use Rattle.mh_model.specs.Items.{plain_event}
use Rattle.mh_model.specs.ListItems.{entries_once, has_item, listed_once, no_list, with_item}
use Rattle.mh_model.specs.Listed.{Listed}
use Rattle.mh_group.specs.Same.{are_same}
use Rattle.mh_model.specs.Lists.{list_changed, list_worked, marked_at, objects_of, other_marked, relisted, selection_at, selection_by, selection_wanted, selection_worked, unmarked}
use Rattle.mh_model.specs.Programs.{counted}
use Rattle.mh_model.specs.Property.{as_members, held}
use Rattle.mh_model.specs.Reference.{same_ref}
use Rattle.mh_model.specs.Service.{fresh}
use Rattle.mh_model.specs.Tokens.{can_turn, token_wanted, turned}
use Rattle.mh_model.specs.Variables.{converted, fits_int, fits_octets}
use Rattle.mh_model.specs.Widget.{Worked, event_with, no_work}
use Rattle.mh_model.specs.Worked.{worked}
use Rattle.mh_model.proofs.ServiceLemmas.{same_ref-same}
use Rattle.mh_laws.specs.Each.{Among}
use Rattle.mh_laws.specs.Ways.{IsNoMore, count_of, once}
use Rattle.mh_laws.proofs.CountLemmas.{NoMoreIf, count_none, entries_append, relisted_no_more}

pub holds_among : (rs : List ObjRef) (q : ObjRef) → list_any (same_ref q) rs ≡ true → Among rs q
holds_among [] q h = absurd cc
holds_among (r ∷ rs) q h = by (same_ref q r) refl h (λ k. holds_among rs q k)
  where
    by : (b : Bool) → same_ref q r ≡ b → (b || list_any (same_ref q) rs) ≡ true → (list_any (same_ref q) rs ≡ true → Among rs q) → Among (r ∷ rs) q
    by true e h further = inl (sym (same_ref-same q r e))
    by false e h further = inr (further h)

pub holds_count : (rs : List ObjRef) (q : ObjRef) → list_any (same_ref q) rs ≡ true → 1 ≤ count_of q rs
holds_count [] q h = absurd cc
holds_count (r ∷ rs) q h = by (same_ref q r) h (λ k. holds_count rs q k)
  where
    by : (b : Bool) → (b || list_any (same_ref q) rs) ≡ true → (list_any (same_ref q) rs ≡ true → 1 ≤ count_of q rs) → 1 ≤ once b + count_of q rs
    by true h further = omega arith
    by false h further = let k = further h in omega (arith, k)

-- a list with each item once has none more often than a set that has its items
pub within_set : (rs : List ObjRef) (es : List Entry) (q : ObjRef) → count_of q (objects_of es) ≤ 1 → (has_item q es ≡ true → list_any (same_ref q) rs ≡ true) → count_of q (objects_of es) ≤ count_of q rs
within_set rs es q single within = by (has_item q es) refl
  where
    by : (b : Bool) → has_item q es ≡ b → count_of q (objects_of es) ≤ count_of q rs
    by true e = let there = holds_count rs q (within e) in omega (arith, single, there)
    by false e = let none = count_none q es e in omega (arith, none)

-- Each item once

once_most : (b : Bool) → once b ≤ 1
once_most true = omega arith
once_most false = omega arith

with_once : (r : ObjRef) (es : List Entry) → ((q : ObjRef) → count_of q (objects_of es) ≤ 1) → (q : ObjRef) → count_of q (objects_of (with_item r es)) ≤ 1
with_once r es h q = by (has_item r es) refl
  where
    one : Entry
    one = record { object = r; selected = false }

    added : (b : Bool) → same_ref q r ≡ b → has_item r es ≡ false → count_of q (objects_of (es ++ one ∷ [])) ≤ 1
    added true e none =
        let zeroth : count_of q (objects_of es) ≡ 0 = count_none q es (subst (λ (x : ObjRef). has_item x es ≡ false) (sym (same_ref-same q r e)) none) in
        let joined = entries_append q es (one ∷ []) in
        let few = once_most (same_ref q r) in
        omega (arith, zeroth, joined, few)
    added false e none =
        let joined = entries_append q es (one ∷ []) in
        let itself : once (same_ref q r) ≡ 0 = ap once e in
        let before = h q in
        omega (arith, joined, itself, before)

    by : (b : Bool) → has_item r es ≡ b → count_of q (objects_of (if b then es else es ++ one ∷ [])) ≤ 1
    by true e = h q
    by false e = added (same_ref q r) refl e

entries_are_once : (es : List Entry) (ms : List Member) → ((q : ObjRef) → count_of q (objects_of es) ≤ 1) → (q : ObjRef) → count_of q (objects_of (entries_once es ms)) ≤ 1
entries_are_once es [] h q = h q
entries_are_once es (m ∷ ms) h q = entries_are_once (with_item m.object es) ms (with_once m.object es h) q

pub once_fresh : (p : Fixed) (q : ObjRef) → count_of q (objects_of (fresh p).body.list.entries) ≤ 1
once_fresh p q = by (is_list_group p.class)
  where
    by : (b : Bool) → count_of q (objects_of (if b then listed_once (as_members (held attribute.TokenGroupItems p.properties)) else no_list).entries) ≤ 1
    by true = entries_are_once [] (as_members (held attribute.TokenGroupItems p.properties)) (λ q. omega arith) q
    by false = omega arith

-- and a change leaves each once
pub still_once : (vs : List Value) (now : ℕ) (q : ObjRef) (n : ℕ) → now ≤ 1 → IsNoMore vs now q n → n ≤ 1
still_once vs now q n h (inl less) = omega (arith, h, less)
still_once vs now q n h (inr new) = new.1

-- The list of an object that an action changes is what it was.

stored_list : (v : Value) (b : Body) → (stored v b).list ≡ b.list
stored_list v b = by (fits_value v)
  where
    by : (t : Bool) → (if t then given v b else b).list ≡ b.list
    by true = refl
    by false = refl

if_list : (t : Bool) (x y : Body) (l : Listed) → x.list ≡ l → y.list ≡ l → (if t then x else y).list ≡ l
if_list true x y l h k = h
if_list false x y l h k = k

coloured_list : (a : Attribute) (os : List ℕ) (b : Body) → (coloured a os b).list ≡ b.list
coloured_list a (x ∷ y ∷ z ∷ t ∷ []) b = refl
coloured_list a _ b = refl

pointed_list : (n : ℤ) (b : Body) → (pointed n b).list ≡ b.list
pointed_list (pos n) b = if_list (nat_le n (length (text_of b))) _ b b.list refl refl
pointed_list (negsuc n) b = refl

number_list : (x : ℤ) (b : Body) → (given_number x b).list ≡ b.list
number_list x b = if_list (fits_int x) (given (value.Int x) b) b b.list refl refl

pub changed_list : (n : ActionName) (vs : List Value) (p : Fixed) (b : Body) → (changed_by n vs p b).list ≡ b.list
changed_list action.SetVariable (v ∷ []) p b = stored_list (converted p.class v) b
changed_list action.Add (value.Int n ∷ []) p b = number_list (number_of p b +ℤ n) b
changed_list action.Subtract (value.Int n ∷ []) p b = number_list (number_of p b -ℤ n) b
changed_list action.Multiply (value.Int n ∷ []) p b = number_list (number_of p b *ℤ n) b
changed_list action.Divide (value.Int n ∷ []) p b = if_list (int_eq n (pos 0)) b (given_number (int_div (number_of p b) n) b) b.list refl (number_list (int_div (number_of p b) n) b)
changed_list action.Modulo (value.Int n ∷ []) p b = if_list (int_eq n (pos 0)) b (given_number (int_rem (number_of p b) n) b) b.list refl (number_list (int_rem (number_of p b) n) b)
changed_list action.Append (value.Octets os ∷ []) p b = if_list (fits_octets _) (given _ b) b b.list refl refl
changed_list action.SetBoxSize (value.Int x ∷ value.Int y ∷ []) p b = if_list (int_le (pos 0) x && int_le (pos 0) y) _ b b.list refl refl
changed_list action.SetFillColour (value.Octets os ∷ []) p b = coloured_list attribute.OrigRefFillColour os b
changed_list action.SetLineColour (value.Octets os ∷ []) p b = coloured_list attribute.OrigRefLineColour os b
changed_list action.SetLineWidth (value.Int n ∷ []) p b = if_list (int_le (pos 0) n) _ b b.list refl refl
changed_list action.DrawLine (value.Int x ∷ value.Int y ∷ value.Int u ∷ value.Int v ∷ []) p b = if_list _ _ b b.list refl refl
changed_list action.DrawRectangle (value.Int x ∷ value.Int y ∷ value.Int u ∷ value.Int v ∷ []) p b = if_list _ _ b b.list refl refl
changed_list action.SetTextColour (value.Octets os ∷ []) p b = coloured_list attribute.TextColour os b
changed_list action.SetEntryPoint (value.Int n ∷ []) p b = pointed_list n b
changed_list action.SetLabel (value.Octets os ∷ []) p b = if_list (fits_octets os) _ b b.list refl refl
changed_list action.SetOverwriteMode (value.Bool on ∷ []) p b = refl
changed_list action.SetInputRegister (value.Int n ∷ []) p b = refl
changed_list action.SetPosition (value.Int x ∷ value.Int y ∷ []) p b = refl
changed_list action.Clear vs p b = refl
changed_list _ _ p b = refl

-- Widgets: values stay, and lists have what they had and what is put in

marked_objects : (k : ℕ) (on : Bool) (es : List Entry) → objects_of (marked_at k on es) ≡ objects_of es
marked_objects k on [] = refl
marked_objects zero on (e ∷ es) = refl
marked_objects (suc k) on (e ∷ es) = ap (λ (t : List ObjRef). e.object ∷ t) (marked_objects k on es)

unmarked_objects : (m : Option ℕ) (es : List Entry) → objects_of (unmarked m es) ≡ objects_of es
unmarked_objects None es = refl
unmarked_objects (Some k) es = marked_objects k false es

-- what an action makes of a widget's body
pub record IsWorked (vs : List Value) (b x : Body) : Type 0 where
  pub value : x.value ≡ b.value
  pub items : (q : ObjRef) → IsNoMore vs (count_of q (objects_of b.list.entries)) q (count_of q (objects_of x.list.entries))

unworked : (vs : List Value) (b : Body) → IsWorked vs b b
unworked vs b = record { value = refl; items = λ q. inl (omega arith) }

same_items : (vs : List Value) (b x : Body) → x.value ≡ b.value → objects_of x.list.entries ≡ objects_of b.list.entries → IsWorked vs b x
same_items vs b x e f = record { value = e; items = λ q. let k : count_of q (objects_of x.list.entries) ≡ count_of q (objects_of b.list.entries) = ap (count_of q) f in inl (omega (arith, k)) }

either_worked : (vs : List Value) (b : Body) (t : Bool) (x y : Worked) → IsWorked vs b x.body → IsWorked vs b y.body → IsWorked vs b (if t then x else y).body
either_worked vs b true x y h k = h
either_worked vs b false x y h k = k

turned_worked : (vs : List Value) (r : ObjRef) (p : Fixed) (b : Body) (m : Option ℤ) → IsWorked vs b (turned r p b m).body
turned_worked vs r p b None = unworked vs b
turned_worked vs r p b (Some (negsuc n)) = unworked vs b
turned_worked vs r p b (Some (pos n)) =
    either_worked vs b (can_turn p b n) (record { body = record b { token = n }; placed = []; items = event_with r event.TokenMovedFrom (value.Int (counted b.token)) ∷ event_with r event.TokenMovedTo (value.Int (counted n)) ∷ [] }) (no_work b)
    (same_items vs b (record b { token = n }) refl refl) (unworked vs b)

highlit_worked : (vs : List Value) (on : Bool) (r : ObjRef) (b : Body) → IsWorked vs b (highlit on r b).body
highlit_worked vs on r b =
    either_worked vs b (are_same b.highlighted on) (no_work b) (record { body = record b { highlighted = on }; placed = []; items = plain_event r (if on then event.HighlightOn else event.HighlightOff) ∷ [] })
    (unworked vs b) (same_items vs b (record b { highlighted = on }) refl refl)

set_worked : (vs : List Value) (on : Bool) (r : ObjRef) (b : Body) → IsWorked vs b (button_set on r b).body
set_worked vs on r b =
    either_worked vs b (are_same b.selected on) (no_work b) (record { body = record b { selected = on }; placed = []; items = plain_event r (if on then event.IsSelected else event.IsDeselected) ∷ [] })
    (unworked vs b) (same_items vs b (record b { selected = on }) refl refl)

by_worked : (vs : List Value) (want now : Bool) (k : ℕ) (r : ObjRef) (p : Fixed) (b : Body) → IsWorked vs b (selection_by want now k r p b).body
by_worked vs true false k r p b = same_items vs b _ refl (marked_objects k true (unmarked (other_marked p b.list.entries) b.list.entries) ∙ unmarked_objects (other_marked p b.list.entries) b.list.entries)
by_worked vs false true k r p b = same_items vs b _ refl (marked_objects k false b.list.entries)
by_worked vs true true k r p b = unworked vs b
by_worked vs false false k r p b = unworked vs b

at_worked : (n : ActionName) (vs : List Value) (k : ℕ) (m : Option Entry) (r : ObjRef) (p : Fixed) (b : Body) → IsWorked vs b (selection_at n k m r p b).body
at_worked n vs k None r p b = unworked vs b
at_worked n vs k (Some e) r p b = by_worked vs (selection_wanted n e.selected) e.selected k r p b

selection_is_worked : (n : ActionName) (vs : List Value) (r : ObjRef) (p : Fixed) (b : Body) → IsWorked vs b (selection_worked n vs r p b).body
selection_is_worked n (value.Int (pos (suc k)) ∷ []) r p b = at_worked n (value.Int (pos (suc k)) ∷ []) k (slice_get b.list.entries k) r p b
selection_is_worked n vs r p b = unworked vs b

list_is_worked : (n : ActionName) (vs : List Value) (r : ObjRef) (p : Fixed) (b : Body) → IsWorked vs b (if is_list_group p.class then list_worked n vs r p b else no_work b).body
list_is_worked n vs r p b = if_list (is_list_group p.class)
  where
    by : (m : Option Listed) → ((q : ObjRef) → NoMoreIf vs b.list.entries q m) → IsWorked vs b (list_changed r p b m).body
    by None h = unworked vs b
    by (Some l) h = record { value = refl; items = h }

    if_list : (t : Bool) → IsWorked vs b (if t then list_worked n vs r p b else no_work b).body
    if_list true = by (relisted n vs p b.list) (λ q. relisted_no_more n vs p b.list q)
    if_list false = unworked vs b

pub is_worked : (n : ActionName) (vs : List Value) (r : ObjRef) (p : Fixed) (b : Body) → IsWorked vs b (worked n vs r p b).body
is_worked action.Move vs r p b = turned_worked vs r p b (token_wanted action.Move vs p b)
is_worked action.MoveTo vs r p b = turned_worked vs r p b (token_wanted action.MoveTo vs p b)
is_worked action.AddItem vs r p b = list_is_worked action.AddItem vs r p b
is_worked action.DelItem vs r p b = list_is_worked action.DelItem vs r p b
is_worked action.ScrollItems vs r p b = list_is_worked action.ScrollItems vs r p b
is_worked action.SetFirstItem vs r p b = list_is_worked action.SetFirstItem vs r p b
is_worked action.SelectItem vs r p b = selection_is_worked action.SelectItem vs r p b
is_worked action.DeselectItem vs r p b = selection_is_worked action.DeselectItem vs r p b
is_worked action.ToggleItem vs r p b = selection_is_worked action.ToggleItem vs r p b
is_worked action.SetHighlightStatus (value.Bool on ∷ []) r p b = highlit_worked (value.Bool on ∷ []) on r b
is_worked action.Select vs r p b = set_worked vs true r b
is_worked action.Deselect vs r p b = set_worked vs false r b
is_worked _ vs r p b = unworked vs b
