-- The lines below the picture.
use Rattle.std.specs.Prelude.{ℕ, ◌-◌, Bool, true, false, if◌then◌else◌, List, [], ◌∷◌, ◌++◌, codes, drop, length, Option, Some, None}
use Rattle.std.specs.Fmt.{decimal}
use Rattle.std.specs.List.{flat_map}
use Rattle.std.specs.Str.{bytes_eq}
use Rattle.mh_group.specs.declared.class.Class.{Class}
use Rattle.mh_group.specs.declared.class.Class.TheVariants as class
use Rattle.mh_model.specs.declared.fault.Fault.{Fault}
use Rattle.mh_model.specs.declared.object.Object.{Object}
use Rattle.mh_model.specs.declared.rest.Rest.{Rest}
use Rattle.mh_model.specs.declared.rest.Rest.TheVariants as rest
use Rattle.mh_model.specs.declared.transition.Transition.{Transition}
use Rattle.mh_model.specs.declared.transition.Transition.TheVariants as transition
use Rattle.mh_model.specs.State.{State, all}
use Rattle.mh_machine.specs.Rest.{rest_of}
use Rattle.mh_carousel.specs.Carried.{awaited_names}
use Rattle.mh_engine.specs.Play.{Play}
use Rattle.mh_told.specs.Reading.{without_feed}
use Rattle.mh_told.specs.Told.{fault_line}

-- What runs: the numbers of the objects of a group that run, links and groups aside.

abbrev pub is_told_class : Class → Bool
is_told_class class.Link = false
is_told_class class.Application = false
is_told_class class.Scene = false
is_told_class _ = true

abbrev pub is_told : List ℕ → Object → Bool
is_told g o = if o.body.running then (if is_told_class o.fixed.class then bytes_eq o.fixed.key.group g else false) else false

unfoldable pub running_part : List ℕ → Object → List ℕ
running_part g o = if is_told g o then codes " " ++ decimal o.fixed.key.number else []

unfoldable pub running_text : List ℕ → List Object → List ℕ
running_text g os = flat_map (running_part g) os

-- The application and the scene.

unfoldable pub group_text : List ℕ → List Object → List ℕ
group_text g os = g ++ codes ", running:" ++ running_text g os

unfoldable pub application_line : State → List ℕ
application_line s = codes "application " ++ group_text s.application (all s.objects)

abbrev pub scene_text : Option (List ℕ) → List Object → List ℕ
scene_text (Some g) os = codes "scene " ++ group_text g os
scene_text None os = codes "no scene"

abbrev pub scene_line : State → List ℕ
scene_line s = scene_text s.scene (all s.objects)

-- The steps: those that were taken, how many are left of the budget where the service was accepted, and what is left to do.

unfoldable pub unbounded : List ℕ
unbounded = codes ", no bound is known"

abbrev pub left_text : Bool → ℕ → List ℕ
left_text true n = codes ", left " ++ decimal n
left_text false n = unbounded

unfoldable pub rest_text : Rest → List ℕ
rest_text rest.Idle = []
rest_text rest.More = codes ", more to do"
rest_text rest.Ended = codes ", the application has quit"

unfoldable pub steps_line : Play → List ℕ
steps_line p =
    codes "steps taken " ++ decimal p.state.taken ++ left_text p.accepted (p.budget - p.state.taken) ++ rest_text (rest_of p.state)

-- The scene for which a transition waits, and the key that brings it.

unfoldable pub awaited_front : List ℕ
awaited_front = codes "waits for the file of scene "

unfoldable pub awaited_end : List ℕ
awaited_end = codes ", which l brings"

unfoldable pub awaited_text : List ℕ → List ℕ
awaited_text g = awaited_front ++ g ++ awaited_end

abbrev pub scene_lines : Transition → List (List ℕ)
scene_lines (transition.Awaits g) = awaited_text g ∷ []
scene_lines transition.Rests = []
scene_lines transition.Begun = []

-- The content files for which objects wait.

unfoldable pub files_front : List ℕ
files_front = codes "waits for content files:"

unfoldable pub name_part : List ℕ → List ℕ
name_part name = codes " " ++ name

unfoldable pub files_text : List (List ℕ) → List ℕ
files_text names = files_front ++ flat_map name_part names

abbrev pub file_lines : List (List ℕ) → List (List ℕ)
file_lines [] = []
file_lines (n ∷ ns) = files_text (n ∷ ns) ∷ []

abbrev pub awaited_lines : State → List (List ℕ)
awaited_lines s = scene_lines s.transition ++ file_lines (awaited_names s.waits)

-- The last faults, as the report tells them, each with the place of its action, where that is known.

abbrev pub place_text : List (List ℕ) → List ℕ
place_text [] = []
place_text (p ∷ ps) = p

unfoldable pub fault_text : List (List ℕ) → Fault → List ℕ
fault_text ps f = without_feed (fault_line f) ++ place_text ps

abbrev pub fault_texts : List (List ℕ) → List Fault → List (List ℕ)
fault_texts ps [] = []
fault_texts ps (f ∷ fs) = fault_text ps f ∷ fault_texts (drop 1 ps) fs

abbrev pub last_fault_texts : List (List ℕ) → List Fault → List (List ℕ)
last_fault_texts ps fs = fault_texts (drop (length fs - 3) ps) (drop (length fs - 3) fs)

-- What is told below everything, if anything is.

abbrev pub notice_lines : List ℕ → List (List ℕ)
notice_lines [] = []
notice_lines (b ∷ bs) = (b ∷ bs) ∷ []

-- all lines, from the top
abbrev pub below : List (List ℕ) → List ℕ → Play → List (List ℕ)
below places notice p =
    application_line p.state ∷ scene_line p.state ∷ steps_line p ∷ awaited_lines p.state
    ++ last_fault_texts places p.state.faults ++ notice_lines notice
