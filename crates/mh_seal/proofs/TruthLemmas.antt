-- Truth values and options.
use Rattle.std.specs.Prelude.{◌≡◌, Bool, true, false, ◌&&◌, Option, None, Some, Result, Ok, Err, IfErr}
use Rattle.std.specs.Option.{option_map_or}
use Rattle.std.specs.Result.{IsErrAnd}
use Rattle.std.proofs.Common.{ap, refl, subst, sym}

pub and_left : (a b : Bool) → (a && b) ≡ true → a ≡ true
and_left true b e = refl
and_left false b e = e

pub and_right : (a b : Bool) → (a && b) ≡ true → b ≡ true
and_right true b e = e
and_right false b e = absurd cc

pub some_same : {X : Type 0} {x y : X} → Some x ≡ Some y → x ≡ y
some_same {X} {x} {y} e = ap (λ (m : Option X). option_map_or (λ (z : X). z) m x) e

-- what is said of an option that is not some is said of none
pub unless_some : {X : Type 0} (P : Option X → Type 0) (o : Option X) → ((x : X) → o ≡ Some x → ⊥) → P o → P None
unless_some P None not_some p = p
unless_some P (Some x) not_some p = absurd (not_some x refl)

-- what holds of an error is said of the result that hands it on
pub handed_on : {T E : Type 0} (P : E → Type 0) (r : Result T E) (e : E) → IsErrAnd r (λ (y : E). y ≡ e) → P e → IfErr r P
handed_on P (Err y) e same p = subst P (sym same) p
handed_on P (Ok x) e same p = absurd same
