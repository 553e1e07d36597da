-- Behind a token that does not close the last bracket, the variables of the tokens that are left are still
-- to come.
use Rattle.std.proofs.Common.{◌≡◌, ℕ, Bool, true, false, ◌&&◌, ◌==◌, if◌then◌else◌, List, [], ◌∷◌, ◌++◌, option_to_list, refl}
use Rattle.mh_text.specs.Rest.{Piece}
use Rattle.mh_text.specs.Reading.{is_close}
use Rattle.mh_text.specs.Landmarks.{Coming, Through, coming_behind, through, open_behind, variables_from}

not_last : (b : Bool) (ts : List Through) → b ≡ false → (if b then [] else ts) ≡ ts
not_last true ts e = absurd cc
not_last false ts e = refl

pub further : (b : ℕ) (k : Coming) (p : Piece) (ps : List Piece) → (is_close p.sign && b == 1) ≡ false
    → variables_from b k (p ∷ ps) ≡ option_to_list (through k p.sign) ++ variables_from (open_behind b p.sign) (coming_behind k p) ps
further b k p ps e = not_last (is_close p.sign && b == 1) _ e
