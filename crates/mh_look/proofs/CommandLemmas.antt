-- What was found for an argument that may be given several times.
use Rattle.std.specs.Prelude.{◌≡◌, ◌||◌, Bool, List, [], ◌∷◌, Option, map, option_map, refl}
use Rattle.std.specs.Borrow.{Bor}
use Rattle.std.specs.List.{list_any}
use Rattle.std.proofs.Common.{ap, sym, ◌∙◌}
use Rattle.clap.specs.Words.{Text, all_of, matched_of, raw_values, rows_of}
use Rattle.clap.specs.declared.parser.matches.Found.{Found}
use Rattle.clap.proofs.WalkLemmas.{raw_values-rows}

-- the values of an argument, as the getter lends them
pub all_lent : (f : Found) (id : Text) (answer : Option (Bor (List (Bor Text)))) → option_map (λ s. map (λ v. v.now) s.now) answer ≡ option_map raw_values (matched_of f id)
    → all_of id (rows_of f) ≡ option_map (λ s. map (λ v. v.now) s.now) answer
all_lent f id answer told = sym (raw_values-rows f id) ∙ sym told

pub any_map : {A B : Type 0} (p : B → Bool) (f : A → B) (xs : List A) → list_any p (map f xs) ≡ list_any (λ x. p (f x)) xs
any_map p f [] = refl
any_map p f (x ∷ xs) = ap (λ (b : Bool). p (f x) || b) (any_map p f xs)
