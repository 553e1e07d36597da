-- What is wrong, in the order of places: one a place, and of that what comes first.
use Rattle.std.specs.Prelude.{ℕ, Bool, not, List, [], ◌∷◌, Some, take}
use Rattle.std.specs.declared.cmp.Ordering.{Ordering}
use Rattle.std.specs.declared.cmp.Ordering.TheVariants.{Less, Equal, Greater}
use Rattle.std.specs.Ordering.{is_eq, is_gt}
use Rattle.mh_verify.specs.declared.refusal.Found.{Found}
use Rattle.mh_verify.specs.Least.{lesser}
use Rattle.mh_verify.specs.Order.{by_place}

-- where the place is before that of the first of these, is that, or is behind it
abbrev pub placed : Ordering → Found → Found → List Found → List Found → List Found
placed Less x y ys behind = x ∷ y ∷ ys
placed Equal x y ys behind = lesser (Some y) x ∷ ys
placed Greater x y ys behind = y ∷ behind

-- one more among these; where one has the same place, the one of both that comes first
abbrev pub with_one : Found → List Found → List Found
with_one x [] = x ∷ []
with_one x (y ∷ ys) = placed (by_place x.place y.place) x y ys (with_one x ys)

-- more of them, one after another
abbrev pub with_all : List Found → List Found → List Found
with_all ys [] = ys
with_all ys (x ∷ xs) = with_all (with_one x ys) xs

-- the same, where of what is listed no more than so many stay
abbrev pub listed : ℕ → List Found → List Found → List Found
listed n ys [] = ys
listed n ys (x ∷ xs) = listed n (take n (with_one x ys)) xs

-- how the code finds the place

abbrev pub reaches : Found → Found → Bool
reaches x y = not (is_gt (by_place x.place y.place))

abbrev pub is_at_place : Found → Found → Bool
is_at_place x y = is_eq (by_place x.place y.place)
