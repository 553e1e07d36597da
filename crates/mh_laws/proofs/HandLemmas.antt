-- What an action hands on is in the sets of what it is handed to.
use Rattle.std.specs.Prelude.{◌≡◌, ℕ, zero, suc, Bool, true, false, ◌&&◌, List, [], ◌∷◌, slice_get, Option, Some, None, refl}
use Rattle.std.specs.Cmp.Derive.{both_true}
use Rattle.std.specs.List.{flat_map, Contains, cons_option}
use Rattle.std.specs.Option.{is_some, option_map, option_map_or, option_or}
use Rattle.std.proofs.Common.{rules, arith, inl, inr, ap, ◌∙◌, sym, subst}
use Rattle.std.proofs.lemmas.List.Elements.{Contains-append_right}
use Rattle.mh_base.specs.declared.obj_ref.ObjRef.{ObjRef}
use Rattle.mh_base.specs.declared.value.Kind.TheVariants as kind
use Rattle.mh_base.specs.declared.value.Kind.{Kind}
use Rattle.mh_base.specs.declared.value.Value.TheVariants as value
use Rattle.mh_base.specs.declared.value.Value.{Value}
use Rattle.mh_group.specs.declared.action_name.ActionName.TheVariants as action
use Rattle.mh_group.specs.declared.action_name.ActionName.{ActionName}
use Rattle.mh_group.specs.declared.attribute.Attribute.TheVariants as attribute
use Rattle.mh_group.specs.declared.class.Class.TheVariants as class
use Rattle.mh_group.specs.declared.class.Class.{Class}
use Rattle.mh_group.specs.declared.shape.Need.TheVariants as need
use Rattle.mh_group.specs.Table.{admits, needs_of, is_variable}
use Rattle.mh_model.specs.declared.act.Act.{Act}
use Rattle.mh_model.specs.declared.act.Argument.TheVariants as argument
use Rattle.mh_model.specs.declared.act.Argument.{Argument}
use Rattle.mh_model.specs.declared.act.Target.{Target}
use Rattle.mh_model.specs.declared.fault.Reason.TheVariants as reason
use Rattle.mh_model.specs.declared.object.Fixed.{Fixed}
use Rattle.mh_model.specs.declared.object.Object.{Object}
use Rattle.mh_model.specs.Arguments.{held_by, value_in, values}
use Rattle.mh_model.specs.Configuration.{has_value}
use Rattle.mh_model.specs.Faults.{targets, named_wrongs, is_transition, variable_wrongs, goes_with, target_takes, untaken_through, arguments_wrongs, argument_wrongs}
use Rattle.mh_model.specs.Known.{Known, class_at}
use Rattle.mh_model.specs.Property.{held, as_value, as_reference}
use Rattle.mh_model.specs.Reference.{same_ref}
use Rattle.mh_model.specs.Service.{part_at, object_at}
use Rattle.mh_model.specs.State.{State, all}
use Rattle.mh_model.specs.Variables.{variable_kind, same_kind, converts}
use Rattle.mh_laws.specs.Describing.{Says, Hands, says, IsSaid}
use Rattle.mh_laws.specs.Flow.{has, Flow, refers, is_holder, MayHand, is_given, reads_reference}
use Rattle.mh_laws.specs.Safe.{config_of, IsSafeBy}
use Rattle.mh_model.proofs.ListLemmas.{empty_left, empty_right, some_same, found}
use Rattle.mh_model.proofs.PartLemmas.{part_at-parts}
use Rattle.mh_model.proofs.ServiceLemmas.{present_valued}
use Rattle.mh_laws.proofs.ActLemmas.{sets_of, parts_of, known_now, class_now, possible_now, admitted_now, IsSound}
use Rattle.mh_laws.proofs.AnsweringLemmas.{none_contained}
use Rattle.mh_laws.proofs.FaultLemmas.{fit_variable, holds_unless}
use Rattle.mh_laws.proofs.HeldLemmas.{found_key}
use Rattle.mh_laws.proofs.StateLemmas.{parts_present}

-- What is handed on

said_at : (vs : List Value) (ss : List Says) (q : ObjRef) → IsSaid vs ss q → (n : ℕ) × Contains ss (Hands n) × (slice_get vs n ≡ Some (value.Object q))
said_at vs [] q h = absurd cc
said_at vs (Hands n ∷ ss) q (inl e) = (n, (0, search rules, refl), e)
said_at vs (Hands n ∷ ss) q (inr more) =
    let below = said_at vs ss q more in
    (below.0, Contains-append_right (Hands n ∷ []) ss (Hands below.0) below.1, below.2)

variable_refers : (c : Class) → is_holder c ≡ true → is_variable c ≡ true → refers c ≡ true
variable_refers class.ObjectRefVar h v = refl
variable_refers _ h v = absurd cc

kind_converts : (m : Option Kind) (t : Kind) → option_map_or (same_kind kind.Object) m false ≡ true → option_map_or (λ (x : Kind). converts x t) m true ≡ true → same_kind kind.Object t ≡ true
kind_converts None t h e = absurd cc
kind_converts (Some kind.Object) t h e = e
kind_converts (Some kind.Bool) t h e = absurd cc
kind_converts (Some kind.Int) t h e = absurd cc
kind_converts (Some kind.Octets) t h e = absurd cc
kind_converts (Some kind.Content) t h e = absurd cc

is_kind : (t : Kind) → same_kind kind.Object t ≡ true → kind.Object ≡ t
is_kind kind.Object e = refl
is_kind kind.Bool e = absurd cc
is_kind kind.Int e = absurd cc
is_kind kind.Octets e = absurd cc
is_kind kind.Content e = absurd cc

-- what is set is written as an object's value
set_as_object : (k : Known) (t : Target) (xs : List Argument) (r v : ObjRef) (c : Class) (u : Option Kind) → targets k t ≡ r ∷ [] → k.class_of r ≡ Some c → refers c ≡ true → argument_wrongs k (record { name = action.SetVariable; target = t; arguments = xs }) need.Typed (argument.Through v u) ≡ [] → option_map_or (same_kind kind.Object) u false ≡ true
set_as_object k t xs r v c None at of_class is e = absurd cc
set_as_object k t xs r v c (Some u) at of_class is e =
    let first = variable_wrongs (same_kind u) v (k.class_of v) in
    let takes_it = λ (x : Kind). goes_with action.SetVariable x u in
    let there = subst (λ (rs : List ObjRef). flat_map (untaken_through k takes_it v) rs ≡ []) at (empty_right first (flat_map (untaken_through k takes_it v) (targets k t)) e) in
    let takes = holds_unless (target_takes takes_it (k.class_of r)) reason.WrongKind None v (empty_left (untaken_through k takes_it v r) [] there) in
    kind_converts (variable_kind c) u is (sym (ap (target_takes takes_it) of_class) ∙ takes)

-- a variable through which a reference is set is one of references
set_variable : (k : Known) (t : Target) (xs : List Argument) (r v : ObjRef) (c : Class) (u : Option Kind) → targets k t ≡ r ∷ [] → k.class_of r ≡ Some c → refers c ≡ true → argument_wrongs k (record { name = action.SetVariable; target = t; arguments = xs }) need.Typed (argument.Through v u) ≡ [] → option_map_or refers (k.class_of v) false ≡ true
set_variable k t xs r v c None at of_class is e = absurd cc
set_variable k t xs r v c (Some u) at of_class is e =
    let first = variable_wrongs (same_kind u) v (k.class_of v) in
    let takes_it = λ (x : Kind). goes_with action.SetVariable x u in
    let same = is_kind u (set_as_object k t xs r v c (Some u) at of_class is e) in
    subst (λ (x : Kind). option_map_or (λ (y : Class). option_map_or (same_kind x) (variable_kind y) false) (k.class_of v) false ≡ true) (sym same)
    (fit_variable (same_kind u) v (k.class_of v) (empty_left first (flat_map (untaken_through k takes_it v) (targets k t)) e))

-- and so is one through which an object is named
named_variable : (k : Known) (a : Act) (v : ObjRef) (u : Option Kind) → argument_wrongs k a need.Ref (argument.Through v u) ≡ [] → option_map_or refers (k.class_of v) false ≡ true
named_variable k a v u e =
    fit_variable (same_kind kind.Object) v (k.class_of v) (empty_left (variable_wrongs (same_kind kind.Object) v (k.class_of v)) (flat_map (named_wrongs k a.name (Some v)) (k.refers v)) e)

abbrev number_of_says : Says → ℕ
number_of_says (Hands n) = n

the_one : (m n : ℕ) → Contains (Hands m ∷ []) (Hands n) → m ≡ n
the_one m n (zero, less, e) = ap number_of_says e
the_one m n (suc i, less, e) = absurd (omega (arith, less))

hand_variable : (k : Known) (n : ActionName) (t : Target) (xs : List Argument) (r v : ObjRef) (c : Class) (u : Option Kind) (i : ℕ) → targets k t ≡ r ∷ [] → k.class_of r ≡ Some c → is_holder c ≡ true → admits c n ≡ true → arguments_wrongs k (record { name = n; target = t; arguments = xs }) (needs_of n) xs ≡ [] → Contains (says n) (Hands i) → slice_get xs i ≡ Some (argument.Through v u) → option_map_or refers (k.class_of v) false ≡ true
hand_variable k action.SetVariable t xs r v c u i at of_class is ad good says_it e =
    by xs (subst (λ (j : ℕ). slice_get xs j ≡ Some (argument.Through v u)) (sym (the_one 0 i says_it)) e) good
  where
    by : (ys : List Argument) → slice_get ys 0 ≡ Some (argument.Through v u) → arguments_wrongs k (record { name = action.SetVariable; target = t; arguments = xs }) (need.Typed ∷ []) ys ≡ [] → option_map_or refers (k.class_of v) false ≡ true
    by [] e good = absurd cc
    by (y ∷ ys) e good =
        set_variable k t xs r v c u at of_class (variable_refers c is ad)
        (subst (λ (z : Argument). argument_wrongs k (record { name = action.SetVariable; target = t; arguments = xs }) need.Typed z ≡ []) (some_same e) (empty_left (argument_wrongs k (record { name = action.SetVariable; target = t; arguments = xs }) need.Typed y) _ good))
hand_variable k action.AddItem t xs r v c u i at of_class is ad good says_it e =
    by xs (subst (λ (j : ℕ). slice_get xs j ≡ Some (argument.Through v u)) (sym (the_one 1 i says_it)) e) good
  where
    a : Act
    a = record { name = action.AddItem; target = t; arguments = xs }

    by : (ys : List Argument) → slice_get ys 1 ≡ Some (argument.Through v u) → arguments_wrongs k a (need.Int ∷ need.Ref ∷ []) ys ≡ [] → option_map_or refers (k.class_of v) false ≡ true
    by [] e good = absurd cc
    by (x ∷ []) e good = absurd cc
    by (x ∷ y ∷ ys) e good =
        named_variable k a v u
        (subst (λ (z : Argument). argument_wrongs k a need.Ref z ≡ []) (some_same e) (empty_left (argument_wrongs k a need.Ref y) _ (empty_right (argument_wrongs k a need.Int x) (arguments_wrongs k a (need.Ref ∷ []) (y ∷ ys)) good)))
hand_variable k _ t xs r v c u i at of_class is ad good says_it e = let never = none_contained (Hands i) says_it in absurd cc

-- what is handed on through a variable is read as a reference
hand_reads : (k : Known) (n : ActionName) (t : Target) (xs : List Argument) (r v : ObjRef) (c : Class) (u : Option Kind) (i : ℕ) → targets k t ≡ r ∷ [] → k.class_of r ≡ Some c → is_holder c ≡ true → admits c n ≡ true → arguments_wrongs k (record { name = n; target = t; arguments = xs }) (needs_of n) xs ≡ [] → Contains (says n) (Hands i) → slice_get xs i ≡ Some (argument.Through v u) → reads_reference (argument.Through v u) n ≡ true
hand_reads k action.SetVariable t xs r v c u i at of_class is ad good says_it e =
    by xs (subst (λ (j : ℕ). slice_get xs j ≡ Some (argument.Through v u)) (sym (the_one 0 i says_it)) e) good
  where
    by : (ys : List Argument) → slice_get ys 0 ≡ Some (argument.Through v u) → arguments_wrongs k (record { name = action.SetVariable; target = t; arguments = xs }) (need.Typed ∷ []) ys ≡ [] → option_map_or (same_kind kind.Object) u false ≡ true
    by [] e good = absurd cc
    by (y ∷ ys) e good =
        set_as_object k t xs r v c u at of_class (variable_refers c is ad)
        (subst (λ (z : Argument). argument_wrongs k (record { name = action.SetVariable; target = t; arguments = xs }) need.Typed z ≡ []) (some_same e) (empty_left (argument_wrongs k (record { name = action.SetVariable; target = t; arguments = xs }) need.Typed y) _ good))
hand_reads k action.AddItem t xs r v c u i at of_class is ad good says_it e = refl
hand_reads k _ t xs r v c u i at of_class is ad good says_it e = let never = none_contained (Hands i) says_it in absurd cc

plain_says : (n : ActionName) (i : ℕ) → Contains (says n) (Hands i) → is_transition n ≡ false
plain_says action.TransitionTo i h = let never = none_contained (Hands i) h in absurd cc
plain_says action.Launch i h = let never = none_contained (Hands i) h in absurd cc
plain_says _ i h = refl

-- Values. Each variable has one, so that arguments come to values at their places.

abbrev HasValue : Option Value → Type 0
HasValue m = (x : Value) × (m ≡ Some x)

some_value : (m : Option Value) → is_some m ≡ true → HasValue m
some_value None e = absurd cc
some_value (Some x) e = (x, refl)

variable_kind_of : (is : Kind → Bool) (m : Option Kind) → option_map_or is m false ≡ true → (t : Kind) × (m ≡ Some t)
variable_kind_of is None e = absurd cc
variable_kind_of is (Some t) e = (t, refl)

variable_value : {fw : Flow} (s : State) (k : IsSafeBy fw s) (is : Kind → Bool) (v : ObjRef) → variable_wrongs is v (class_at v (parts_of s)) ≡ [] → HasValue (held_by (object_at v (all s.objects)))
variable_value {fw} s k is v e = by (object_at v (all s.objects)) refl
  where
    there : option_map_or (λ (c : Class). option_map_or is (variable_kind c) false) (class_at v (parts_of s)) false ≡ true
    there = fit_variable is v (class_at v (parts_of s)) e

    orig : (b : Option Value) (p : Fixed) → is_some (as_value (held attribute.OrigValue p.properties)) ≡ true → HasValue (option_or b (as_value (held attribute.OrigValue p.properties)))
    orig None p h = some_value (as_value (held attribute.OrigValue p.properties)) h
    orig (Some x) p h = (x, refl)

    by : (m : Option Object) → object_at v (all s.objects) ≡ m → HasValue (held_by m)
    by None at =
        let none : class_at v (parts_of s) ≡ None = ap (class_at v) (sym (parts_present s k)) ∙ ap (option_map (λ (p : Fixed). p.class)) (part_at-parts v (all s.objects) ∙ ap (option_map (λ (x : Object). x.fixed)) at) in
        let never : false ≡ true = sym (ap (λ (m : Option Class). option_map_or (λ (c : Class). option_map_or is (variable_kind c) false) m false) none) ∙ there in
        absurd cc
    by (Some o) at =
        let here = sym (ap (λ (m : Option Class). option_map_or (λ (c : Class). option_map_or is (variable_kind c) false) m false) (class_now s k v o at)) ∙ there in
        let kind_is = variable_kind_of is (variable_kind o.fixed.class) here in
        let part : part_at v (parts_of s) ≡ Some o.fixed = ap (part_at v) (sym (parts_present s k)) ∙ part_at-parts v (all s.objects) ∙ ap (option_map (λ (x : Object). x.fixed)) at in
        let valued = (found (λ (p : Fixed). same_ref v p.key) has_value (parts_of s) o.fixed (present_valued s.service (config_of s) k.accepted.service) part).1 in
        let valued_it = sym (ap (λ (m : Option Kind). option_map_or (λ (t : Kind). is_some (as_value (held attribute.OrigValue o.fixed.properties))) m true) kind_is.1) ∙ valued in
        orig o.body.value o.fixed valued_it

-- what is needed as a reference, a number or a value of a kind comes to a value

ref_value : {fw : Flow} (s : State) (k : IsSafeBy fw s) (a : Act) (y : Argument) → argument_wrongs (known_now s) a need.Ref y ≡ [] → HasValue (value_in (all s.objects) y)
ref_value {fw} s k a (argument.Direct v) e = (v, refl)
ref_value {fw} s k a (argument.Through v u) e = variable_value s k (same_kind kind.Object) v (empty_left (variable_wrongs (same_kind kind.Object) v (class_at v (parts_of s))) _ e)
ref_value {fw} s k a (argument.Receiver v) e = absurd cc

int_value : {fw : Flow} (s : State) (k : IsSafeBy fw s) (a : Act) (y : Argument) → argument_wrongs (known_now s) a need.Int y ≡ [] → HasValue (value_in (all s.objects) y)
int_value {fw} s k a (argument.Direct v) e = (v, refl)
int_value {fw} s k a (argument.Through v u) e = variable_value s k (same_kind kind.Int) v (empty_left (variable_wrongs (same_kind kind.Int) v (class_at v (parts_of s))) _ e)
int_value {fw} s k a (argument.Receiver v) e = absurd cc

typed_value : {fw : Flow} (s : State) (k : IsSafeBy fw s) (a : Act) (y : Argument) → argument_wrongs (known_now s) a need.Typed y ≡ [] → HasValue (value_in (all s.objects) y)
typed_value {fw} s k a (argument.Direct v) e = (v, refl)
typed_value {fw} s k a (argument.Through v None) e = absurd cc
typed_value {fw} s k a (argument.Through v (Some u)) e = variable_value s k (same_kind u) v (empty_left (variable_wrongs (same_kind u) v (class_at v (parts_of s))) _ e)
typed_value {fw} s k a (argument.Receiver v) e = absurd cc

abbrev IsPlaced : List Object → List Argument → ℕ → Value → Type 0
IsPlaced os xs n x = (y : Argument) × (slice_get xs n ≡ Some y) × (value_in os y ≡ Some x)

-- the first value is the first argument's, where that has one
first_placed : (os : List Object) (y : Argument) (ys : List Argument) (x : Value) → HasValue (value_in os y) → slice_get (values os (y ∷ ys)) 0 ≡ Some x → IsPlaced os (y ∷ ys) 0 x
first_placed os y ys x has e = (y, refl, has.1 ∙ by)
  where
    by : Some has.0 ≡ Some x
    by = sym (ap (λ (m : Option Value). slice_get (cons_option m (values os ys)) 0) has.1) ∙ e

second_placed : (os : List Object) (y z : Argument) (ys : List Argument) (x : Value) → HasValue (value_in os y) → HasValue (value_in os z) → slice_get (values os (y ∷ z ∷ ys)) 1 ≡ Some x → IsPlaced os (y ∷ z ∷ ys) 1 x
second_placed os y z ys x has more e = (z, refl, more.1 ∙ by)
  where
    by : Some more.0 ≡ Some x
    by =
        sym (ap (λ (m : Option Value). slice_get (cons_option m (values os ys)) 0) more.1)
        ∙ sym (ap (λ (m : Option Value). slice_get (cons_option m (values os (z ∷ ys))) 1) has.1) ∙ e

says_placed : {fw : Flow} (s : State) (k : IsSafeBy fw s) (n : ActionName) (t : Target) (xs : List Argument) (i : ℕ) (x : Value) → arguments_wrongs (known_now s) (record { name = n; target = t; arguments = xs }) (needs_of n) xs ≡ [] → Contains (says n) (Hands i) → slice_get (values (all s.objects) xs) i ≡ Some x → IsPlaced (all s.objects) xs i x
says_placed {fw} s k action.SetVariable t xs i x good says_it e =
    subst (λ (j : ℕ). IsPlaced (all s.objects) xs j x) (the_one 0 i says_it) (by xs good (subst (λ (j : ℕ). slice_get (values (all s.objects) xs) j ≡ Some x) (sym (the_one 0 i says_it)) e))
  where
    a : Act
    a = record { name = action.SetVariable; target = t; arguments = xs }

    by : (ys : List Argument) → arguments_wrongs (known_now s) a (need.Typed ∷ []) ys ≡ [] → slice_get (values (all s.objects) ys) 0 ≡ Some x → IsPlaced (all s.objects) ys 0 x
    by [] good e = absurd cc
    by (y ∷ ys) good e = first_placed (all s.objects) y ys x (typed_value s k a y (empty_left (argument_wrongs (known_now s) a need.Typed y) _ good)) e
says_placed {fw} s k action.AddItem t xs i x good says_it e =
    subst (λ (j : ℕ). IsPlaced (all s.objects) xs j x) (the_one 1 i says_it) (by xs good (subst (λ (j : ℕ). slice_get (values (all s.objects) xs) j ≡ Some x) (sym (the_one 1 i says_it)) e))
  where
    a : Act
    a = record { name = action.AddItem; target = t; arguments = xs }

    lone : (y : Argument) (m : Option Value) → slice_get (cons_option m []) 1 ≡ Some x → IsPlaced (all s.objects) (y ∷ []) 1 x
    lone y None e = absurd cc
    lone y (Some z) e = absurd cc

    by : (ys : List Argument) → arguments_wrongs (known_now s) a (need.Int ∷ need.Ref ∷ []) ys ≡ [] → slice_get (values (all s.objects) ys) 1 ≡ Some x → IsPlaced (all s.objects) ys 1 x
    by [] good e = absurd cc
    by (y ∷ []) good e = lone y (value_in (all s.objects) y) e
    by (y ∷ z ∷ ys) good e =
        second_placed (all s.objects) y z ys x (int_value s k a y (empty_left (argument_wrongs (known_now s) a need.Int y) _ good))
        (ref_value s k a z (empty_left (argument_wrongs (known_now s) a need.Ref z) _ (empty_right (argument_wrongs (known_now s) a need.Int y) (arguments_wrongs (known_now s) a (need.Ref ∷ []) (z ∷ ys)) good))) e
says_placed {fw} s k _ t xs i x good says_it e = let never = none_contained (Hands i) says_it in absurd cc

pub sent_placed : {fw : Flow} (s : State) (k : IsSafeBy fw s) (t : Target) (xs : List Argument) (x : Value) → arguments_wrongs (known_now s) (record { name = action.SendEvent; target = t; arguments = xs }) (needs_of action.SendEvent) xs ≡ [] → slice_get (values (all s.objects) xs) 0 ≡ Some x → IsPlaced (all s.objects) xs 0 x
sent_placed {fw} s k t xs x good e = by xs good e
  where
    a : Act
    a = record { name = action.SendEvent; target = t; arguments = xs }

    by : (ys : List Argument) → arguments_wrongs (known_now s) a (need.Ref ∷ need.Event ∷ need.Data ∷ []) ys ≡ [] → slice_get (values (all s.objects) ys) 0 ≡ Some x → IsPlaced (all s.objects) ys 0 x
    by [] good e = absurd cc
    by (y ∷ ys) good e = first_placed (all s.objects) y ys x (ref_value s k a y (empty_left (argument_wrongs (known_now s) a need.Ref y) _ good)) e

-- what is handed on is in the set of what it is handed to
pub given_held : {fw : Flow} (s : State) (k : IsSafeBy fw s) (a : Act) (r : ObjRef) (o : Object) (q : ObjRef) → IsSound fw s k a r → object_at r (all s.objects) ≡ Some o → is_holder o.fixed.class ≡ true → IsSaid (values (all s.objects) a.arguments) (says a.name) q → has (sets_of s k) o.fixed.key q ≡ true
given_held {fw} s k a r o q so e is said = subst (λ (x : ObjRef). has (sets_of s k) x q ≡ true) (found_key r (all s.objects) o e) (by at.0 at.1 at.2)
  where
    saying : (n : ℕ) × Contains (says a.name) (Hands n) × (slice_get (values (all s.objects) a.arguments) n ≡ Some (value.Object q))
    saying = said_at (values (all s.objects) a.arguments) (says a.name) q said

    at : (y : Argument) × (slice_get a.arguments saying.0 ≡ Some y) × (value_in (all s.objects) y ≡ Some (value.Object q))
    at = says_placed s k a.name a.target a.arguments saying.0 (value.Object q) so.good saying.1 saying.2

    ad : admits o.fixed.class a.name ≡ true
    ad = admitted_now s k a.name r o e (plain_says a.name saying.0 saying.1) so.fit

    takes_it : is_given (parts_of s) a.name r ≡ true
    takes_it = ap (λ (m : Option Class). option_map_or (λ (c : Class). admits c a.name && is_holder c) m false) (class_now s k r o e) ∙ both_true ad is

    given : (y : Argument) → slice_get a.arguments saying.0 ≡ Some y → reads_reference y a.name ≡ true → MayHand (sets_of s k) (parts_of s) y q → has (sets_of s k) r q ≡ true
    given y stands reads hands = so.fine.keeps.given saying.0 y r q saying.1 stands so.may takes_it reads hands

    by : (y : Argument) → slice_get a.arguments saying.0 ≡ Some y → value_in (all s.objects) y ≡ Some (value.Object q) → has (sets_of s k) r q ≡ true
    by (argument.Direct v) stands is_it = given (argument.Direct v) stands refl (some_same is_it)
    by (argument.Through v u) stands is_it =
        let refers_it = hand_variable (known_now s) a.name a.target a.arguments r v o.fixed.class u saying.0 so.at (class_now s k r o e) is ad so.good saying.1 stands in
        let reads_it = hand_reads (known_now s) a.name a.target a.arguments r v o.fixed.class u saying.0 so.at (class_now s k r o e) is ad so.good saying.1 stands in
        given (argument.Through v u) stands reads_it (refers_it, possible_now s k v q refers_it (ap as_reference is_it))
    by (argument.Receiver v) stands is_it = absurd cc
