-- The parts of a report, cut at the first frame.
use Rattle.std.specs.Prelude.{◌≡◌, ℕ, ◌+◌, ◌-◌, ◌<◌, suc, List, [], ◌∷◌, ◌++◌, length, take, drop, Option, Some, None, refl}
use Rattle.std.specs.List.{position, position_or_len}
use Rattle.std.proofs.Common.{ap, ◌∙◌, sym, subst, add-one, append-nil}
use Rattle.std.proofs.lemmas.List.{take_rest}
use Rattle.mh_base.proofs.PathLemmas.{slice_split-uncut, slice_split-cut, position-some, position-none}
use Rattle.mh_look.specs.declared.report.Part.{Part}
use Rattle.mh_look.specs.LineChanges.{changed_steps, is_frame, steps, steps_behind}

-- without a frame there is one step
pub steps_uncut : (ps : List Part) → position is_frame ps ≡ None → steps ps ≡ ps ∷ []
steps_uncut ps none = slice_split-uncut is_frame ps (position-none is_frame ps none)

-- with one there is the step before it, and then those of the rest
pub steps_cut : (ps : List Part) (at : ℕ) → position is_frame ps ≡ Some at → steps ps ≡ take at ps ∷ steps (take (length ps - (at + 1)) (drop (at + 1) ps))
steps_cut ps at some =
    let found = position-some is_frame ps at some in
    let inside : position_or_len is_frame ps < length ps = subst (λ n. n < length ps) (sym found.0) found.1 in
    let short : take (length ps - (at + 1)) (drop (at + 1) ps) ≡ drop (suc at) ps = take_rest ps (at + 1) ∙ ap (λ (n : ℕ). drop n ps) (add-one at) in
    let pieces : steps ps ≡ take at ps ∷ steps (drop (suc at) ps) =
    subst (λ (n : ℕ). steps ps ≡ take n ps ∷ steps (drop (suc n) ps)) found.0 (slice_split-cut is_frame ps inside) in
    pieces ∙ ap (λ (rest : List Part). take at ps ∷ steps rest) (sym short)

-- where the second report has no more steps, nothing is told

no_steps : (passed : ℕ) (ss : List (List Part)) → changed_steps passed ss [] ≡ []
no_steps passed [] = refl
no_steps passed (s ∷ ss) = refl

pub steps_end : (passed : ℕ) (ss : List (List Part)) (o : Option (List Part)) (text all : List ℕ) → o ≡ None → text ++ changed_steps passed ss (steps_behind o) ≡ all → text ≡ all
steps_end passed ss o text all none so =
    sym (append-nil text) ∙ ap (λ (t : List ℕ). text ++ t) (sym (no_steps passed ss)) ∙ subst (λ (x : Option (List Part)). text ++ changed_steps passed ss (steps_behind x) ≡ all) none so
