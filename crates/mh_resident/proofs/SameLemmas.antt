-- Two lists that are compared member by member.
use Rattle.std.proofs.Common.{◌≡◌, Bool, false, List, [], ◌∷◌, ◌==◌, length, refl, arith}
use Rattle.std.proofs.lemmas.Bool.Decides.{Decides-eqb}
use Rattle.std.specs.Bool.{Decides}

-- the lists are the same just where what is left of them is
abbrev pub Left : {X : Type 0} → List X → List X → List X → List X → Type 0
Left xs ys ps qs = (xs ≡ ys → ps ≡ qs) × (ps ≡ qs → xs ≡ ys)

pub left_behind : {X : Type 0} (x y : X) (xs ys ps qs : List X) → x ≡ y → Left (x ∷ xs) (y ∷ ys) ps qs → Left xs ys ps qs
left_behind x y xs ys ps qs e (f, g) = (λ h. f cc, λ h. let i = g h in cc)

pub differ : {X : Type 0} (x y : X) (xs ys ps qs : List X) (b : Bool) → Decides b (x ≡ y) → b ≡ false → Left (x ∷ xs) (y ∷ ys) ps qs → Decides false (ps ≡ qs)
differ x y xs ys ps qs b (f, g) n (h, i) = (λ e. absurd cc, λ e. let j = i e in let k : x ≡ y = cc in let m = g k in absurd cc)

pub shorter : {X : Type 0} (x : X) (xs ps qs : List X) → Left (x ∷ xs) [] ps qs → Decides false (ps ≡ qs)
shorter x xs ps qs (f, g) = (λ e. absurd cc, λ e. let h = g e in absurd cc)

pub ended : {X : Type 0} (ys ps qs : List X) → Left [] ys ps qs → Decides (length ys == 0) (ps ≡ qs)
ended [] ps qs (f, g) = (λ e. f refl, λ e. refl)
ended (y ∷ ys) ps qs (f, g) = (λ e. let n = (Decides-eqb (length (y ∷ ys)) 0).0 e in absurd (omega (arith, n)), λ e. let h = g e in absurd cc)
