-- What an action does to bodies leaves no more in them than their sets have.
use Rattle.std.specs.Prelude.{◌≡◌, ◌⊎◌, ◌≤◌, Bool, true, false, ◌||◌, List, [], ◌∷◌, ◌++◌, Option, Some, None, refl}
use Rattle.std.specs.Option.{option_map_or}
use Rattle.std.proofs.Common.{inl, inr, ap, ◌∙◌, sym, subst}
use Rattle.mh_base.specs.declared.obj_ref.ObjRef.{ObjRef}
use Rattle.mh_base.specs.declared.value.Kind.TheVariants as kind
use Rattle.mh_base.specs.declared.value.Kind.{Kind}
use Rattle.mh_base.specs.declared.value.Value.{Value}
use Rattle.mh_group.specs.declared.action_name.ActionName.TheVariants as action
use Rattle.mh_group.specs.declared.action_name.ActionName.{ActionName}
use Rattle.mh_group.specs.declared.class.Class.{Class}
use Rattle.mh_group.specs.declared.shape.Need.TheVariants as need
use Rattle.mh_group.specs.Table.{admits, is_list_group}
use Rattle.mh_model.specs.declared.act.Act.{Act}
use Rattle.mh_model.specs.declared.act.Argument.TheVariants as argument
use Rattle.mh_model.specs.declared.act.Argument.{Argument}
use Rattle.mh_model.specs.declared.object.Fixed.{Fixed}
use Rattle.mh_model.specs.declared.object.Object.{Object}
use Rattle.mh_model.specs.declared.program.Param.TheVariants as param
use Rattle.mh_model.specs.declared.program.Param.{Param}
use Rattle.mh_model.specs.declared.program.Plain.TheVariants as plain
use Rattle.mh_model.specs.declared.program.Plain.{Plain}
use Rattle.mh_model.specs.declared.sort.Sort.TheVariants as sort
use Rattle.mh_model.specs.Arguments.{values, receivers}
use Rattle.mh_model.specs.Bodies.{changed_by}
use Rattle.mh_model.specs.Faults.{variable_wrongs, passed_wrongs, passed, arguments_wrongs}
use Rattle.mh_model.specs.Known.{Known, class_at}
use Rattle.mh_model.specs.Listed.{Listed}
use Rattle.mh_model.specs.Lists.{objects_of}
use Rattle.mh_model.specs.Programs.{fits_param, fits_params, outs, same_plain}
use Rattle.mh_model.specs.Saying.{answers, answers_at}
use Rattle.mh_model.specs.Service.{object_at}
use Rattle.mh_model.specs.Sort.{sort_of}
use Rattle.mh_model.specs.State.{State, all}
use Rattle.mh_model.specs.Variables.{variable_kind, same_kind}
use Rattle.mh_model.specs.Worked.{worked}
use Rattle.mh_laws.specs.Each.{Each}
use Rattle.mh_laws.specs.Flow.{has, Flow, Sets, refers, is_holder, fills}
use Rattle.mh_laws.specs.Safe.{IsSafeBy}
use Rattle.mh_laws.specs.Ways.{count_of}
use Rattle.mh_model.proofs.ListLemmas.{empty_left, empty_right, and_left, and_right}
use Rattle.mh_laws.proofs.ActLemmas.{sets_of, parts_of, IsSound, held_at, class_now, admitted_now, plain_change, plain_widget, plain_ask, no_list_change, no_reference_widget}
use Rattle.mh_laws.proofs.OnceLemmas.{changed_list, is_worked, still_once}
use Rattle.mh_laws.proofs.AnsweringLemmas.{answers_fill, answers_items}
use Rattle.mh_laws.proofs.FaultLemmas.{fit_variable}
use Rattle.mh_laws.proofs.GivingLemmas.{gives_said}
use Rattle.mh_laws.proofs.HandLemmas.{given_held}
use Rattle.mh_laws.proofs.HeldLemmas.{KeepsHeld, Fillable, fillable, found_key}
use Rattle.mh_laws.proofs.ItemLemmas.{lists_said}

holder_of_reference : (c : Class) → refers c ≡ true → is_holder c ≡ true
holder_of_reference c e = ap (λ (b : Bool). b || is_list_group c) e

pub or_true : (b : Bool) → (b || true) ≡ true
or_true true = refl
or_true false = refl

pub holder_of_list : (c : Class) → is_list_group c ≡ true → is_holder c ≡ true
holder_of_list c e = ap (λ (b : Bool). refers c || b) e ∙ or_true (refers c)

either : {A B C : Type 0} → (A → C) → (B → C) → A ⊎ B → C
either f g (inl a) = f a
either f g (inr b) = g b

-- an action that changes a body
pub held_by_change : {fw : Flow} (s : State) (k : IsSafeBy fw s) (a : Act) (r : ObjRef) (o : Object) → IsSound fw s k a r → sort_of a.name ≡ sort.Change → object_at r (all s.objects) ≡ Some o → KeepsHeld (sets_of s k) (changed_by a.name (values (all s.objects) a.arguments)) o
held_by_change {fw} s k a r o so same e h = record {
  value = λ is q held. either (λ before. h.value is q before) (λ said. given_held s k a r o q so e (holder_of_reference o.fixed.class is) said) (gives_said a.name (values (all s.objects) a.arguments) o.fixed o.body q held);
  items = λ is q held.
      let never = no_list_change a.name o.fixed.class same is (admitted_now s k a.name r o e (plain_change a.name same) so.fit) in absurd cc;
  once = λ q. subst (λ (l : Listed). count_of q (objects_of l.entries) ≤ 1) (sym (changed_list a.name (values (all s.objects) a.arguments) o.fixed o.body)) (h.once q);
}

-- an action that works a widget
pub held_by_widget : {fw : Flow} (s : State) (k : IsSafeBy fw s) (a : Act) (r : ObjRef) (o : Object) → IsSound fw s k a r → sort_of a.name ≡ sort.Widget → object_at r (all s.objects) ≡ Some o → KeepsHeld (sets_of s k) (λ p b. (worked a.name (values (all s.objects) a.arguments) r o.fixed o.body).body) o
held_by_widget {fw} s k a r o so same e h = record {
  value = λ is q held.
      let never = no_reference_widget a.name o.fixed.class same is (admitted_now s k a.name r o e (plain_widget a.name same) so.fit) in absurd cc;
  items = λ is q held. either (λ before. h.items is q before) (λ said. given_held s k a r o q so e (holder_of_list o.fixed.class is) said) (lists_said a.name (values (all s.objects) a.arguments) r o.fixed o.body q held);
  once = λ q. still_once (values (all s.objects) a.arguments) _ q _ (h.once q) ((is_worked a.name (values (all s.objects) a.arguments) r o.fixed o.body).items q);
}

-- Answers

filling_list : (n : ActionName) (c : Class) → fills n ≡ true → admits c n ≡ true → is_list_group c ≡ true
filling_list action.GetListItem c f ad = ad
filling_list action.GetCellItem c f ad = ad
filling_list _ c f ad = absurd cc

none_fillable : (h : Sets) (ps : List Fixed) (rs : List ObjRef) → Fillable h ps rs []
none_fillable h ps [] = tt
none_fillable h ps (r ∷ rs) = tt

-- what an action answers is in the sets of its receivers
pub answers_held : {fw : Flow} (s : State) (k : IsSafeBy fw s) (a : Act) (r : ObjRef) → IsSound fw s k a r → sort_of a.name ≡ sort.Ask → Fillable (sets_of s k) (parts_of s) (receivers a.arguments) (answers_at a.name (values (all s.objects) a.arguments) (object_at r (all s.objects)))
answers_held {fw} s k a r so same = by (object_at r (all s.objects)) refl
  where
    vs : List Value
    vs = values (all s.objects) a.arguments

    by : (m : Option Object) → object_at r (all s.objects) ≡ m → Fillable (sets_of s k) (parts_of s) (receivers a.arguments) (answers_at a.name vs m)
    by None e = none_fillable (sets_of s k) (parts_of s) (receivers a.arguments)
    by (Some o) e =
        fillable (sets_of s k) (parts_of s) (receivers a.arguments) (answers a.name vs o) (λ v q among is given.
        let filling = answers_fill a.name vs o q given in
        let list = filling_list a.name o.fixed.class filling (admitted_now s k a.name r o e (plain_ask a.name same) so.fit) in
        let held = subst (λ (x : ObjRef). has (sets_of s k) x q ≡ true) (sym (found_key r (all s.objects) o e)) ((held_at s k r o e).items list q (answers_items a.name vs o q given)) in
        so.fine.keeps.filled r v q filling so.may (ap (λ (m : Option Class). option_map_or is_list_group m false) (class_now s k r o e) ∙ list) among is held)

-- Calls: what receives is no variable of references

plain_kind : (t : Kind) (m : Option Kind) → same_kind kind.Object t ≡ false → option_map_or (same_kind t) m false ≡ true → option_map_or (same_kind kind.Object) m false ≡ false
plain_kind t None no_ref e = refl
plain_kind t (Some kind.Object) no_ref e = by t no_ref e
  where
    by : (t : Kind) → same_kind kind.Object t ≡ false → same_kind t kind.Object ≡ true → true ≡ false
    by kind.Object no_ref e = no_ref
    by _ no_ref e = absurd cc
plain_kind t (Some _) no_ref e = refl

plain_class : (t : Kind) (m : Option Class) → same_kind kind.Object t ≡ false → option_map_or (λ (c : Class). option_map_or (same_kind t) (variable_kind c) false) m false ≡ true → option_map_or refers m false ≡ false
plain_class t None no_ref e = refl
plain_class t (Some c) no_ref e = plain_kind t (variable_kind c) no_ref e

abbrev AreNone : Known → List ObjRef → Type 0
AreNone k rs = Each (λ r. option_map_or refers (k.class_of r) false ≡ false) rs

same_plain_kind : (p : Plain) (t : Kind) → same_plain p t ≡ true → same_kind kind.Object t ≡ false
same_plain_kind p kind.Bool e = refl
same_plain_kind p kind.Int e = refl
same_plain_kind p kind.Octets e = refl
same_plain_kind p kind.Content e = refl
same_plain_kind plain.Bool kind.Object e = absurd cc
same_plain_kind plain.Int kind.Object e = absurd cc
same_plain_kind plain.Octets kind.Object e = absurd cc

-- no further receivers are passed
no_receivers : (k : Known) (a : Act) (xs : List Argument) → arguments_wrongs k a (need.Arguments ∷ []) xs ≡ [] → receivers xs ≡ []
no_receivers k a [] good = refl
no_receivers k a (argument.Direct v ∷ xs) good = no_receivers k a xs good
no_receivers k a (argument.Through v u ∷ xs) good = no_receivers k a xs (empty_right (passed_wrongs k a (argument.Through v u)) _ good)
no_receivers k a (argument.Receiver v ∷ xs) good = absurd cc

outs_none : (k : Known) (a : Act) (ps : List Param) (xs : List Argument) → arguments_wrongs k a (need.Arguments ∷ []) xs ≡ [] → fits_params ps xs ≡ true → AreNone k (outs ps xs)
outs_none k a [] xs good fit = tt
outs_none k a (param.In p ∷ ps) [] good fit = tt
outs_none k a (param.Out p ∷ ps) [] good fit = tt
outs_none k a (param.In p ∷ ps) (x ∷ xs) good fit = outs_none k a ps xs (empty_right (passed_wrongs k a x) _ good) (and_right (fits_param (param.In p) x) (fits_params ps xs) fit)
outs_none k a (param.Out p ∷ ps) (argument.Direct v ∷ xs) good fit = absurd cc
outs_none k a (param.Out p ∷ ps) (argument.Receiver v ∷ xs) good fit = absurd cc
outs_none k a (param.Out p ∷ ps) (argument.Through v None ∷ xs) good fit = absurd cc
outs_none k a (param.Out p ∷ ps) (argument.Through v (Some u) ∷ xs) good fit =
    (plain_class u (k.class_of v) (same_plain_kind p u (and_left (same_plain p u) (fits_params ps xs) fit)) (fit_variable (same_kind u) v (k.class_of v) (empty_left (variable_wrongs (same_kind u) v (k.class_of v)) _ good)), outs_none k a ps xs (empty_right (variable_wrongs (same_kind u) v (k.class_of v)) _ good) (and_right (same_plain p u) (fits_params ps xs) fit))

pub called_none : (k : Known) (a : Act) (ps : List Param) (xs : List Argument) → arguments_wrongs k a (need.Receiver kind.Bool ∷ need.Arguments ∷ []) xs ≡ [] → fits_params ps (passed xs) ≡ true → AreNone k (receivers xs ++ outs ps (passed xs))
called_none k a [] [] good fit = tt
called_none k a (param.In p ∷ ps) [] good fit = tt
called_none k a (param.Out p ∷ ps) [] good fit = tt
called_none k a ps (argument.Direct v ∷ xs) good fit = absurd cc
called_none k a ps (argument.Through v u ∷ xs) good fit = absurd cc
called_none k a ps (argument.Receiver v ∷ xs) good fit =
    let rest = empty_right (variable_wrongs (same_kind kind.Bool) v (k.class_of v)) (arguments_wrongs k a (need.Arguments ∷ []) xs) good in
    (plain_class kind.Bool (k.class_of v) refl (fit_variable (same_kind kind.Bool) v (k.class_of v) (empty_left (variable_wrongs (same_kind kind.Bool) v (k.class_of v)) _ good)), subst (λ (rs : List ObjRef). AreNone k (rs ++ outs ps xs)) (sym (no_receivers k a xs rest)) (outs_none k a ps xs rest fit))

pub none_filled : (h : Sets) (k : Known) (ps : List Fixed) (rs : List ObjRef) (vs : List Value) → ((r : ObjRef) → k.class_of r ≡ class_at r ps) → AreNone k rs → Fillable h ps rs vs
none_filled h k ps [] vs same e = tt
none_filled h k ps (r ∷ rs) [] vs_same e = tt
none_filled h k ps (r ∷ rs) (v ∷ vs) same e =
    (λ q is given. let never : true ≡ false = sym is ∙ ap (λ (m : Option Class). option_map_or refers m false) (sym (same r)) ∙ e.0 in absurd cc, none_filled h k ps rs vs same e.1)
