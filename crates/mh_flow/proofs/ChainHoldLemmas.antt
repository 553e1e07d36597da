-- What an object has at first by a value or among members, and what receives an answer.
use Rattle.std.proofs.Common.{◌≡◌, Bool, true, false, ◌||◌, List, [], ◌∷◌, ◌++◌, map, Option, Some, None, refl, sym, ap, ◌∙◌}
use Rattle.std.specs.Prelude.{if◌then◌else◌}
use Rattle.std.specs.List.{flat_map, list_any}
use Rattle.std.specs.Option.{option_map_or, option_to_list}
use Rattle.mh_base.specs.declared.obj_ref.ObjRef.{ObjRef}
use Rattle.mh_group.specs.Table.{is_list_group}
use Rattle.mh_model.specs.declared.act.Argument.{Argument}
use Rattle.mh_model.specs.declared.act.Argument.TheVariants as argument
use Rattle.mh_model.specs.declared.object.member.Member.{Member}
use Rattle.mh_model.specs.declared.object.Fixed.{Fixed}
use Rattle.mh_model.specs.Arguments.{receivers}
use Rattle.mh_model.specs.Property.{value_held, as_reference}
use Rattle.mh_model.specs.Service.{fresh}
use Rattle.mh_model.specs.Tokens.{members}
use Rattle.mh_laws.specs.Flow.{refers}
use Rattle.mh_flow.specs.Chart.{first_items, first_value, firsts}

any_append : {X : Type 0} (p : X → Bool) (xs ys : List X) → list_any p (xs ++ ys) ≡ (list_any p xs || list_any p ys)
any_append p [] ys = refl
any_append {X} p (x ∷ xs) ys = by (p x) (any_append p xs ys)
  where
    by : (b : Bool) → list_any p (xs ++ ys) ≡ (list_any p xs || list_any p ys) → (b || list_any p (xs ++ ys)) ≡ ((b || list_any p xs) || list_any p ys)
    by true ih = refl
    by false ih = ih

by_value : (t : ObjRef → Bool) (b : Bool) (o : Option ObjRef) → option_map_or t (if b then o else None) false ≡ list_any t (if b then option_to_list o else [])
by_value t false o = refl
by_value t true None = refl
by_value t true (Some r) = or_false (t r)
  where
    or_false : (b : Bool) → b ≡ (b || false)
    or_false true = refl
    or_false false = refl

by_members : (t : ObjRef → Bool) (ms : List Member) → list_any (λ (m : Member). t m.object) ms ≡ list_any t (map (λ (m : Member). m.object) ms)
by_members t [] = refl
by_members t (m ∷ ms) = ap (λ (b : Bool). t m.object || b) (by_members t ms)

by_items : (t : ObjRef → Bool) (b : Bool) (ms : List Member) → list_any (λ (m : Member). t m.object) (if b then ms else []) ≡ list_any t (if b then map (λ (m : Member). m.object) ms else [])
by_items t false ms = refl
by_items t true ms = by_members t ms

first_held : (t : ObjRef → Bool) (p : Fixed) → (option_map_or t (first_value p) false || list_any (λ m. t m.object) (first_items p)) ≡ list_any t (firsts p)
first_held t p =
    (λ i. by_value t (refers p.class) (as_reference (value_held p (fresh p).body)) i || by_items t (is_list_group p.class) (members p) i)
    ∙ sym (any_append t (if refers p.class then option_to_list (as_reference (value_held p (fresh p).body)) else []) (if is_list_group p.class then map (λ m. m.object) (members p) else []))

-- where no value passes, a member may
pub no_value : (t : ObjRef → Bool) (p : Fixed) → option_map_or t (first_value p) false ≡ false → list_any (λ m. t m.object) (first_items p) ≡ list_any t (firsts p)
no_value t p h = ap (λ (b : Bool). b || list_any (λ (m : Member). t m.object) (first_items p)) (sym h) ∙ first_held t p

-- one argument, and then the others
pub one_receiver : {X : Type 0} (f : ObjRef → List X) (x : Argument) (xs : List Argument) → flat_map f (receivers (x ∷ [])) ++ flat_map f (receivers xs) ≡ flat_map f (receivers (x ∷ xs))
one_receiver f (argument.Direct v) xs = refl
one_receiver f (argument.Through y k) xs = refl
one_receiver {X} f (argument.Receiver y) xs = ap (λ (t : List X). t ++ flat_map f (receivers xs)) (nothing_behind (f y))
  where
    nothing_behind : (ys : List X) → ys ++ [] ≡ ys
    nothing_behind [] = refl
    nothing_behind (z ∷ ys) = ap (λ (t : List X). z ∷ t) (nothing_behind ys)
