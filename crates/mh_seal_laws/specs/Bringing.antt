-- In a run of an acceptable service no item brings a scene that is still late.
use Rattle.std.specs.Prelude.{◌≡◌, ◌⊎◌, ℕ, true, false, List, [], ◌∷◌, slice_get, Some}
use Rattle.mh_group.specs.Table.{is_scene}
use Rattle.mh_model.specs.declared.file.File.{File}
use Rattle.mh_model.specs.declared.input.Move.{Move}
use Rattle.mh_model.specs.declared.item.Item.TheVariants as item
use Rattle.mh_model.specs.Configuration.{is_group_of}
use Rattle.mh_model.specs.Late.{is_late_scene}
use Rattle.mh_model.specs.Service.{Service}
use Rattle.mh_model.specs.State.{State}
use Rattle.mh_model.specs.Step.{moved}
use Rattle.mh_laws.specs.Acceptable.{IsAcceptable}
use Rattle.mh_laws.specs.Headline.{begun_with}

-- what is late is a scene
abbrev pub AreScenes : Service → List (List ℕ) → Type 0
AreScenes v gs = (g : List ℕ) → is_late_scene g gs ≡ true → is_group_of is_scene v g ≡ true

-- what the first item brings is not late
abbrev pub BringsHere : State → Type 0
BringsHere s =
    (g : List ℕ) → (slice_get s.work 0 ≡ Some (item.Enter g)) ⊎ (slice_get s.work 0 ≡ Some (item.Exchange g)) →
    is_late_scene g s.late ≡ false

-- in each state of the run
abbrev pub EachBringsHere : List Move → State → Type 0
EachBringsHere [] s = BringsHere s
EachBringsHere (m ∷ ms) s = BringsHere s × EachBringsHere ms (moved m s)

abbrev pub NeverBringsLate : Type 0
NeverBringsLate =
    (v : Service) → IsAcceptable v → AreScenes v v.late → (mjd : ℕ) (fs : List File) (ms : List Move) →
    EachBringsHere ms (begun_with v mjd fs)
