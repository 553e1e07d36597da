-- What is read of an object under which something was put.
use Rattle.std.proofs.Common.{◌≡◌, ℕ, Bool, true, false, List, [], ◌∷◌, Option, Some, refl, ap, sym, subst, eqb-true}
use Rattle.std.specs.Prelude.{◌==◌, cond}
use Rattle.std.specs.List.{find}
use Rattle.std.specs.Option.{option_map, option_or}
use Rattle.mh_group.specs.declared.attribute.Attribute.{Attribute}
use Rattle.mh_group.specs.Table.{attribute_number}
use Rattle.mh_model.specs.declared.held.Held.{Held}
use Rattle.mh_model.specs.declared.held.Property.{Property}
use Rattle.mh_model.specs.declared.object.Object.{Object}
use Rattle.mh_model.specs.Bodies.{put}
use Rattle.mh_model.specs.First.{put_first}
use Rattle.mh_model.specs.Property.{held, is_of, read}

-- what is put in the place of the first hit is found
found_put : {X : Type 0} (p : X → Bool) (x : X) → p x ≡ true → (xs : List X) → find p (put_first p x xs) ≡ Some x
found_put p x own [] = rw own refl
found_put {X} p x own (y ∷ ys) = by (p y) refl (found_put p x own ys)
  where
    by : (b : Bool) → p y ≡ b → find p (put_first p x ys) ≡ Some x → find p (put_first p x (y ∷ ys)) ≡ Some x
    by true e behind = rw e (rw own refl)
    by false e behind = rw e (rw e behind)

-- where no hit is one of the other search, that finds what it found
found_beside : {X : Type 0} (p q : X → Bool) (x : X) → q x ≡ false → ((y : X) → p y ≡ true → q y ≡ false) → (xs : List X) → find q (put_first p x xs) ≡ find q xs
found_beside p q x none apart [] = rw none refl
found_beside {X} p q x none apart (y ∷ ys) = by (p y) refl (found_beside p q x none apart ys)
  where
    by : (b : Bool) → p y ≡ b → find q (put_first p x ys) ≡ find q ys → find q (put_first p x (y ∷ ys)) ≡ find q (y ∷ ys)
    by true e behind = rw e (rw (none, apart y e) refl)
    by false e behind = rw e (ap (λ (t : Option X). cond (q y) (Some y) t) behind)

-- another attribute holds what it held
pub read_beside : (a b : Attribute) (h : Held) (o : Object) → (attribute_number a == attribute_number b) ≡ false → read b (record o { body = put a h o.body }) ≡ read b o
read_beside a b h o apart = ap (λ (t : Option Property). option_or (option_map (λ (p : Property). p.held) t) (held b o.fixed.properties))
    (found_beside (is_of a) (is_of b) (record { attribute = a; held = h }) apart
    (λ y own. subst (λ (n : ℕ). (n == attribute_number b) ≡ false) (sym (eqb-true (attribute_number y.attribute) (attribute_number a) own)) apart)
    o.body.changes)

-- the attribute holds what was put
pub read_put : (a : Attribute) (h : Held) (o : Object) → (attribute_number a == attribute_number a) ≡ true → read a (record o { body = put a h o.body }) ≡ Some h
read_put a h o own = ap (λ (t : Option Property). option_or (option_map (λ (p : Property). p.held) t) (held a o.fixed.properties))
    (found_put (is_of a) (record { attribute = a; held = h }) own o.body.changes)
