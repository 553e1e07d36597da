-- What is found, taken apart.
use Rattle.std.specs.Prelude.{◌≡◌, Option, Some, None}
use Rattle.std.proofs.Common.{ap}

pub some_is : {A : Type 0} (x y : A) → ◌≡◌ {A = Option A} (Some x) (Some y) → x ≡ y
some_is x y e = cc

pub nothing_is : {A : Type 0} (x : A) (P : Type 0) → ◌≡◌ {A = Option A} None (Some x) → P
nothing_is x P e = absurd cc

pub firsts : {A B : Type 0} (a c : A) (b d : B) → ◌≡◌ {A = Option (A × B)} (Some (a, b)) (Some (c, d)) → a ≡ c
firsts {A = A} {B = B} a c b d e = ap (λ (p : A × B). p.0) (some_is (a, b) (c, d) e)

pub seconds : {A B : Type 0} (a c : A) (b d : B) → ◌≡◌ {A = Option (A × B)} (Some (a, b)) (Some (c, d)) → b ≡ d
seconds {A = A} {B = B} a c b d e = ap (λ (p : A × B). p.1) (some_is (a, b) (c, d) e)
