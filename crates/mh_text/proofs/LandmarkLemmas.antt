-- Each landmark lies within its text.
use Rattle.std.proofs.Common.{◌≡◌, ℕ, true, false, List, [], ◌∷◌, length, Option, Some, None, option_to_list, option_map, refl, ◌∙◌}
use Rattle.std.specs.List.{list_all}
use Rattle.std.proofs.lemmas.Bool.{and_parts}
use Rattle.std.proofs.lemmas.List.Folds.{list_all-append}
use Rattle.mh_base.specs.Reading.{whole}
use Rattle.mh_text.specs.Rest.{Piece}
use Rattle.mh_text.specs.Left.{left}
use Rattle.mh_text.specs.Landmarks.{Standing, Sight, at_first, behind, sight, landmark, landmarks_from, landmarks, is_within}
use Rattle.mh_text.proofs.MarksLemmas.{lies, both, all_lie}

at_within : (n : ℕ) (p : Piece) (x : Option Sight) → lies n p ≡ true → list_all (is_within n) (option_to_list (option_map (landmark p) x)) ≡ true
at_within n p None h = refl
at_within n p (Some x) h = both _ true h refl

from_within : (n : ℕ) (s : Standing) (ps : List Piece) → list_all (lies n) ps ≡ true → list_all (is_within n) (landmarks_from s ps) ≡ true
from_within n s [] h = refl
from_within n s (p ∷ ps) h =
    let parts = and_parts (lies n p) (list_all (lies n) ps) h in
    let further = behind s p.sign in
    list_all-append (is_within n) (option_to_list (option_map (landmark p) (sight s p))) (landmarks_from further ps)
    ∙ both _ _ (at_within n p (sight s p) parts.0) (from_within n further ps parts.1)

pub landmarks_within : (bytes : List ℕ) → list_all (is_within (length bytes)) (landmarks bytes) ≡ true
unfolding landmarks
landmarks_within bytes = from_within (length bytes) at_first (left false (whole bytes)).pieces (all_lie bytes)
