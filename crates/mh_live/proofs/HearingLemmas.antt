-- The first of several objects that has a number, gone over by their places.
use Rattle.std.specs.Prelude.{◌≡◌, true, false, ℕ, zero, suc, ◌+◌, List, [], ◌∷◌, drop, slice_get, Option, Some, None, ℤ, refl}
use Rattle.std.specs.Option.{is_some, option_and_then, option_or}
use Rattle.std.proofs.Common.{ap, sym, ◌∙◌, arith}
use Rattle.mh_base.specs.declared.event.EventType.{EventType}
use Rattle.mh_model.specs.declared.object.Object.{Object}
use Rattle.mh_live.specs.Hearing.{first_heard, number_heard}

-- that of the object at a place, or else of those behind it
first_at : (kind : EventType) (os : List Object) (n : ℕ)
    → first_heard kind (drop n os) ≡ option_or (option_and_then (number_heard kind) (slice_get os n)) (first_heard kind (drop (suc n) os))
first_at kind [] zero = refl
first_at kind [] (suc n) = refl
first_at kind (o ∷ os) zero = refl
first_at kind (o ∷ os) (suc n) = first_at kind os n

or_some : (o p : Option ℤ) → is_some o ≡ true → option_or o p ≡ o
or_some None p some = cc
or_some (Some x) p some = refl

or_none : (o p : Option ℤ) → is_some o ≡ false → option_or o p ≡ p
or_none None p none = refl
or_none (Some x) p none = cc

-- the object at a place has a number
pub first_here : (kind : EventType) (os : List Object) (n : ℕ) (here all : Option ℤ)
    → here ≡ option_and_then (number_heard kind) (slice_get os n) → is_some here ≡ true
    → first_heard kind (drop n os) ≡ all → here ≡ all
first_here kind os n here all is some so_far =
    sym (or_some here (first_heard kind (drop (suc n) os)) some)
    ∙ ap (λ (o : Option ℤ). option_or o (first_heard kind (drop (suc n) os))) is ∙ sym (first_at kind os n) ∙ so_far

-- it has none
pub first_behind : (kind : EventType) (os : List Object) (n : ℕ) (here all : Option ℤ)
    → here ≡ option_and_then (number_heard kind) (slice_get os n) → is_some here ≡ false
    → first_heard kind (drop n os) ≡ all → first_heard kind (drop (n + 1) os) ≡ all
first_behind kind os n here all is none so_far =
    let next : n + 1 ≡ suc n = omega arith in
    ap (λ (k : ℕ). first_heard kind (drop k os)) next
    ∙ sym (or_none here (first_heard kind (drop (suc n) os)) none)
    ∙ ap (λ (o : Option ℤ). option_or o (first_heard kind (drop (suc n) os))) is ∙ sym (first_at kind os n) ∙ so_far
