-- The first member of a list that passes a test: changed, or put there.
use Rattle.std.specs.Prelude.{Bool, if◌then◌else◌, List, [], ◌∷◌}

-- the list with its first hit changed, if there is one
abbrev pub change_first : {X : Type 0} → (X → Bool) → (X → X) → List X → List X
change_first p f [] = []
change_first p f (x ∷ xs) = if p x then f x ∷ xs else x ∷ change_first p f xs

-- the list with this in the place of its first hit, or at its end where there is none
abbrev pub put_first : {X : Type 0} → (X → Bool) → X → List X → List X
put_first p y [] = y ∷ []
put_first p y (x ∷ xs) = if p x then y ∷ xs else x ∷ put_first p y xs
