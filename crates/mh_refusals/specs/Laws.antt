-- What a list of all that is wrong says.
use Rattle.std.specs.Prelude.{◌≡◌, ℕ, Bool, true, false, ◌&&◌, List, [], ◌∷◌}
use Rattle.std.specs.List.{Contains}
use Rattle.std.specs.Ordering.{is_lt}
use Rattle.mh_laws.specs.Flow.{Flow}
use Rattle.mh_model.specs.Service.{Service}
use Rattle.mh_verify.specs.declared.refusal.Found.{Found}
use Rattle.mh_verify.specs.Order.{IsFirst, by_place, is_before}
use Rattle.mh_verify.specs.Refusals.{all_refusals}
use Rattle.mh_refusals.specs.Places.{is_at_place, with_all}

-- all that is wrong by a flow, a place each
abbrev pub list_of : Service → Flow → List Found
list_of s w = with_all [] (all_refusals s w)

-- THE LAWS

-- what stands first is what the verifier names
abbrev pub FirstIsTheVerifiers : Type 0
FirstIsTheVerifiers = (s : Service) (w : Flow) (x : Found) (xs : List Found) → list_of s w ≡ x ∷ xs → IsFirst s w x

-- all that is listed is wrong
abbrev pub ListedIsWrong : Type 0
ListedIsWrong = (s : Service) (w : Flow) (x : Found) → Contains (list_of s w) x → Contains (all_refusals s w) x

-- what is wrong is listed, or what comes before it at its place
pub record IsListed (xs : List Found) (y : Found) : Type 0 where
  pub found : Found
  pub among : Contains xs found
  pub place : is_at_place y found ≡ true
  pub first : is_before y found ≡ false

abbrev pub EachPlaceIsListed : Type 0
EachPlaceIsListed = (s : Service) (w : Flow) (y : Found) → Contains (all_refusals s w) y → IsListed (list_of s w) y

-- each place is before the next
abbrev pub are_rising : List Found → Bool
are_rising [] = true
are_rising (x ∷ []) = true
are_rising (x ∷ y ∷ ys) = is_lt (by_place x.place y.place) && are_rising (y ∷ ys)

abbrev pub PlacesRise : Type 0
PlacesRise = (s : Service) (w : Flow) → are_rising (list_of s w) ≡ true
