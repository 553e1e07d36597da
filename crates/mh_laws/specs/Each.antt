-- Each of a list, and one of it.
use Rattle.std.specs.Prelude.{◌≡◌, ◌⊎◌, false, true, List, [], ◌∷◌}

abbrev pub Each : {X : Type 0} → (X → Type 0) → List X → Type 0
Each P [] = Unit {0}
Each P (x ∷ xs) = P x × Each P xs

abbrev pub Among : {X : Type 0} → List X → X → Type 0
Among [] x = false ≡ true
Among (y ∷ xs) x = (y ≡ x) ⊎ Among xs x
